use Rattle.xl_stamped.proofs.Common.{◌<◌, false, FnReturnsAt, get_or, ℕ}
use Rattle.xl_stamped.proofs.stamped.first_meeting.Given as goal

abbrev pub invariant-loop-i : goal.invariant-loop-i
invariant-loop-i g l = (k : ℕ) (d : _) → k < l.i → FnReturnsAt g.P.Fn l.test (get_or l.places k d).item false
