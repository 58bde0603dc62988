use Rattle.xl_curving.proofs.Common.{◌≡◌, opening_curve, replicate}
use Rattle.xl_curving.proofs.curving.Curving.open.Given as goal

abbrev pub invariant-opened : goal.invariant-opened
invariant-opened l = l.curves.items ≡ replicate l.counter (opening_curve l.sets)
