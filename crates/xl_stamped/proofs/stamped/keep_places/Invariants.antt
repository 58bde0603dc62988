use Rattle.xl_stamped.proofs.Common.{◌++◌, ◌≤◌, AreStamps, drop, FiltersInPlace, FnReturnsAt, IsTest, not, take, ℕ}
use Rattle.xl_stamped.proofs.stamped.keep_places.Given as goal

abbrev pub invariant-loop-i : goal.invariant-loop-i
invariant-loop-i g l = record {
  within : l.kept ≤ l.i;
  in_place : (q : _) → IsTest (FnReturnsAt g.P.Fn l.test) q → FiltersInPlace (λ p. not (q p.item)) l.initial.places l.places l.kept l.i;
  stamps : (last : ℕ) → AreStamps last l.initial.places → AreStamps last (take l.kept l.places ++ drop l.i l.places);
}
