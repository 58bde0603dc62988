use Rattle.xl_curve.proofs.Common.{◌++◌, ◌≡◌, drop, map, moved, take}
use Rattle.xl_curve.proofs.kernel.move_to_front.Given as goal

abbrev pub invariant-loop-slot : goal.invariant-loop-slot
invariant-loop-slot l = l.ranks ≡ map (moved l.rank) (take l.slot l.fn.ranks) ++ drop l.slot l.fn.ranks
