use Rattle.xl_chart.proofs.ItemLemmas.{event_served, not_again}
use Rattle.xl_chart.proofs.item.again_beside.Goals as goal

pub returns-in-Done : goal.returns-in-Done
returns-in-Done g c =
    rw c.in-Done.is
    (event_served c.args.access c.args.machine.now c.step_beside.new.machine c.args.curve.now c.step_beside.new.curve c.step_beside.ensures.machine c.step_beside.ensures.curve)

pub returns-in_default : goal.returns-in_default
returns-in_default g c = not_again c.args.outcome c.args.access c.args.machine.now c.args.curve.now c.in_default.not-Done
