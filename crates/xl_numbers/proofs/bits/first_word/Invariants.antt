use Rattle.xl_numbers.proofs.Common.{◌<◌, ◌≡◌, slice_index, ℕ}
use Rattle.xl_numbers.proofs.bits.first_word.Given as goal

abbrev pub invariant-loop-at : goal.invariant-loop-at
invariant-loop-at l = (i : ℕ) → i < l.at → slice_index l.words i ≡ 0
