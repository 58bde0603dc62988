use Rattle.xl_recency.proofs.Common.{◌≤◌, FiltersInPlace, FnReturnsAt, IsTest, not}
use Rattle.xl_recency.proofs.kernel.keep_failing.Given as goal

abbrev pub invariant-loop-i : goal.invariant-loop-i
invariant-loop-i g l = record {
  within : l.kept ≤ l.i;
  in_place : (q : _) → IsTest (FnReturnsAt g.P.Fn l.test) q → FiltersInPlace (λ x. not (q x)) l.initial.items l.items l.kept l.i;
}
