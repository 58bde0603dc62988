use Rattle.xl_numbers.proofs.Common.{arith, rules}
use Rattle.xl_numbers.proofs.LevelLemmas.{ones-all, ones-none}
use Rattle.xl_numbers.proofs.bits.all_ones.Goals as goal

pub returns-then-words-first : goal.returns-then-words-first
returns-then-words-first c = (
  λ q. search rules,
  λ ones. absurd (ones-none c.args.words.now c.args.first c.args.count c.loop-i.i (search rules) (search rules) (search rules) ones),
)

pub returns : goal.returns
returns c = (
  λ q. ones-all c.args.words.now c.args.first c.args.count (λ i less. c.loop-i.invariant i (omega arith)),
  λ q. search rules,
)
