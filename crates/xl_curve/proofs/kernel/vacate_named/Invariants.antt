use Rattle.xl_curve.proofs.Common.{◌++◌, ◌≡◌, AreFewer, AreMarks, AreThinned, drop, is_leaf, IsNamed, length, map, Order, place_without, places_of, take, ℕ}
use Rattle.xl_curve.proofs.kernel.vacate_named.Given as goal

abbrev pub invariant-loop-at : goal.invariant-loop-at
invariant-loop-at l = record {
  count : length l.slots ≡ 64;
  purged : (space first : ℕ) (o : Order) → IsNamed space first o l.named
      → places_of l.slots ≡ map (place_without (is_leaf space first o)) (take l.at (places_of l.fn.slots)) ++ drop l.at (places_of l.fn.slots);
  thinned : AreThinned (places_of l.fn.slots) (places_of l.slots);
  marks : AreMarks l.marks l.slots;
  fewer : AreFewer l.fn.marks l.marks;
}
