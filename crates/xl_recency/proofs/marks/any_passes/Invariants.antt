use Rattle.xl_recency.proofs.Common.{FailBefore, FnReturnsAt, in_order}
use Rattle.xl_recency.proofs.marks.any_passes.Given as goal

abbrev pub invariant-loop-place : goal.invariant-loop-place
invariant-loop-place g l = FailBefore (FnReturnsAt g.P.Fn l.test) (in_order l.items l.slots) l.place
