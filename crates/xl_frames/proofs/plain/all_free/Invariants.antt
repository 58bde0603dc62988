use Rattle.xl_frames.proofs.Common.{◌+◌, ◌<◌, ◌≡◌, false, get_or as slice_index_or, true, ℕ}
use Rattle.xl_frames.proofs.plain.all_free.Given as goal

abbrev pub invariant-loop-i : goal.invariant-loop-i
invariant-loop-i l = (k : ℕ) → k < l.i → slice_index_or l.flags (l.first + k) false ≡ true
