use Rattle.xl_numbers.proofs.Common.{◌+◌, ◌-◌, ◌<◌, ◌^◌, ◌≡◌, slice_index, ℕ}
use Rattle.xl_numbers.proofs.bits.all_ones.Given as goal

abbrev pub invariant-loop-i : goal.invariant-loop-i
invariant-loop-i l = (i : ℕ) → i < l.i → slice_index l.words (l.first + i) ≡ 2 ^ 64 - 1
