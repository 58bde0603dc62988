use Rattle.xl_report.proofs.Common.{◌+◌, ◌≡◌, decimal, length}
use Rattle.xl_report.proofs.size.digits.Given as goal

abbrev pub invariant-loop-left : goal.invariant-loop-left
invariant-loop-left l = l.last + length (decimal l.left) ≡ length (decimal l.fn.n)

abbrev pub decreases-loop-left : goal.decreases-loop-left
decreases-loop-left l = l.left
