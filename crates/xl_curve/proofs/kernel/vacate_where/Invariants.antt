use Rattle.xl_curve.proofs.Common.{◌++◌, ◌≡◌, AreFewer, AreMarks, AreThinned, drop, FnReturnsAt, IsTest, length, map, place_without, places_of, take}
use Rattle.xl_curve.proofs.kernel.vacate_where.Given as goal

abbrev pub invariant-loop-at : goal.invariant-loop-at
invariant-loop-at g l = record {
  count : length l.slots ≡ 64;
  purged : (q : _) → IsTest (FnReturnsAt g.P.Fn l.test) q
      → places_of l.slots ≡ map (place_without q) (take l.at (places_of l.fn.slots)) ++ drop l.at (places_of l.fn.slots);
  thinned : AreThinned (places_of l.fn.slots) (places_of l.slots);
  marks : AreMarks l.marks l.slots;
  fewer : AreFewer l.fn.marks l.marks;
}
