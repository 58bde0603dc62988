use Rattle.xl_areas.proofs.Common.{◌++◌, ◌≡◌, drop, map, take, with_later}
use Rattle.xl_areas.proofs.bounds.add_later.Given as goal

abbrev pub invariant-loop-bound : goal.invariant-loop-bound
invariant-loop-bound l = l.bounds ≡ map (with_later l.area) (take l.bound-index l.initial.bounds) ++ drop l.bound-index l.initial.bounds
