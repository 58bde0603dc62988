use Rattle.xl_recency.proofs.Common.{◌<◌, false, FnReturnsAt, get_or, ℕ}
use Rattle.xl_recency.proofs.kernel.first_place.Given as goal

abbrev pub invariant-loop-i : goal.invariant-loop-i
invariant-loop-i g l = (k : ℕ) (d : _) → k < l.i → FnReturnsAt g.P.Fn l.test (get_or l.items k d) false
