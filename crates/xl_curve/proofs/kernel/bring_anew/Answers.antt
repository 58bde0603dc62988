use Rattle.xl_curve.proofs.Common.{◌∙◌, ◌∷◌, ap, arith, leaf_in, list_of, places_of, remove, same_leaf, Some, sym, ℕ}
use Rattle.xl_curve.proofs.KernelLemmas.{all_give_way, first_own, last_goes}
use Rattle.xl_curve.proofs.RankLemmas.{turn_length}
use Rattle.xl_curve.proofs.kernel.bring_anew.Goals as goal

pub fill-requires-clause-slot : goal.fill-requires-clause-slot
fill-requires-clause-slot c = first_own 63 c.slot_at-last.result c.args.slots.now.ranks c.slot_at-last.ensures.first

pub fill-requires-clause-within : goal.fill-requires-clause-within
fill-requires-clause-within c = (c.slot_at-last.ensures.within, omega (arith, c.slot_at-last.ensures.first.is))

pub returns-clause-front : goal.returns-clause-front
returns-clause-front c =
    let s = c.args.slots.now in
    let all = list_of s in
    record {
      moved =
          last_goes (same_leaf (leaf_in c.args.leaf)) (leaf_in c.args.leaf) all (list_of c.fill.new.slots) 64
          (turn_length s.ranks (places_of s.places)) (omega arith) c.requires.none
          (c.fill.ensures.list ∙ ap (λ (k : ℕ). Some (leaf_in c.args.leaf) ∷ remove all k) c.slot_at-last.ensures.first.is);
      was_is = sym (all_give_way (same_leaf (leaf_in c.args.leaf)) (leaf_in c.args.leaf) all c.requires.none).1;
    }

pub returns-clause-full : goal.returns-clause-full
returns-clause-full c = c.fill.ensures.solid 64 (omega (arith, c.slot_at-last.ensures.first.is))
