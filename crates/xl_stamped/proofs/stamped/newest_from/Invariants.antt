use Rattle.xl_stamped.proofs.Common.{◌<◌, FnReturnsAt, IsNewest, length}
use Rattle.xl_stamped.proofs.stamped.newest_from.Given as goal

abbrev pub invariant-loop-i : goal.invariant-loop-i
invariant-loop-i g l = record {
  within : l.newest < length l.places;
  newest : IsNewest (FnReturnsAt g.P.Fn l.test) l.places l.i l.newest;
}
