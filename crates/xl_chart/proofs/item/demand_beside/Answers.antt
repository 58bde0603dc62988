use Rattle.xl_chart.proofs.Common.{map_of}
use Rattle.xl_chart.proofs.ItemLemmas.{demand_served, event_served, not_demanded}
use Rattle.xl_chart.proofs.item.demand_beside.Goals as goal

pub returns-in-Some : goal.returns-in-Some
returns-in-Some g c =
    let step = c.step_beside-outcome in
    let v = c.args.machine.now in
    let known = rw c.map_for.ensures at step.ensures in
    rw c.in-Some.is
    (demand_served c.in-Some.area c.args.va c.args.access step.result v step.new.machine c.again_beside.new.machine c.args.curve.now step.new.curve c.again_beside.new.curve
    known.outcome
    (event_served (map_of c.in-Some.area c.args.va) v step.new.machine c.args.curve.now step.new.curve known.machine known.curve)
    c.again_beside.ensures)

pub returns-in-None : goal.returns-in-None
returns-in-None g c = rw c.in-None.is (not_demanded c.args.va c.args.access c.args.machine.now c.args.curve.now)
