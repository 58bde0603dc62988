use Rattle.xl_curve.proofs.Common.{◌≡◌, arith}
use Rattle.xl_curve.proofs.CurveLemmas.{holes_held, opened_curve}
use Rattle.xl_curve.proofs.curve.Curve.open.Goals as goal

pub returns : goal.returns
returns c =
    let counter : c.opened.counter ≡ c.args.sets = omega arith in
    opened_curve c.opened.stacks.items c.args.sets _ holes_held (rw counter at c.opened.invariant)
