use Rattle.xl_curve.proofs.Common.{◌≡◌, None, replicate}
use Rattle.xl_curve.proofs.curve.Curve.open.Given as goal

abbrev pub invariant-opened : goal.invariant-opened
invariant-opened l = l.stacks.items ≡ replicate l.counter (replicate 64 None)
