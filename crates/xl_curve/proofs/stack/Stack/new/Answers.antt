use Rattle.xl_curve.proofs.Common.{arith, get_or-replicate, place_of, refl}
use Rattle.xl_curve.proofs.RankLemmas.{turn_none}
use Rattle.xl_curve.proofs.stack.Stack.new.Goals as goal

pub invariant_of-result : goal.invariant_of-result
invariant_of-result c = record {
  guided = record {
    stack = record { marked = refl; ranked = c.ranks_in_turn.ensures.ranks; apart = c.ranks_in_turn.ensures.apart };
    guide_is = λ s l n. absurd (n (get_or-replicate 64 s 255 0 l));
  };
  front = λ s l e. omega arith;
  most = omega arith;
}

pub returns : goal.returns
unfolding place_of
returns c = turn_none place_of (record { tag = 18446744073709551615; word = 0 }) refl 64 c.ranks_in_turn.result
