use Rattle.xl_curve.proofs.Common.{◌++◌, ◌≡◌, drop, FnReturnsAt, IsCurve, IsTest, map, place_without, take}
use Rattle.xl_curve.proofs.sets.remove_from_each.Given as goal

abbrev pub invariant-loop-stack : goal.invariant-loop-stack
invariant-loop-stack g l = record {
  removed : (q : _) → IsTest (FnReturnsAt g.P.Fn l.test) q
      → l.stacks ≡ map (map (place_without q)) (take l.stack-index l.initial.stacks) ++ drop l.stack-index l.initial.stacks;
  kept : IsCurve l.initial.stacks → IsCurve l.stacks;
}
