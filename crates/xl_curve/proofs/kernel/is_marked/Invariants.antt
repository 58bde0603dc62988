use Rattle.xl_curve.proofs.Common.{◌<◌, ◌≡◌, ◌≢◌, false, get_or, ℕ}
use Rattle.xl_curve.proofs.kernel.is_marked.Given as goal

abbrev pub invariant-loop-slot : goal.invariant-loop-slot
invariant-loop-slot l = l.found ≡ false → (k : ℕ) → k < l.slot → get_or l.marks k 0 ≢ l.mark
