use Rattle.xl_chart.proofs.ItemLemmas.{access_served, event_served}
use Rattle.xl_model.specs.declared.event.Event.TheVariants as event
use Rattle.xl_model.specs.declared.event.Outcome.TheVariants as outcome
use Rattle.xl_chart.proofs.item.access_beside.Goals as goal

pub returns : goal.returns
returns g c =
    let step = c.access_both-reply in
    let v = c.args.machine.now in
    access_served c.args.va c.args.kind c.args.areas.now (outcome.Replied step.result) c.space-space.result c.area_wanted-area.result v step.new.machine c.demand_beside.new.machine
    c.args.curve.now step.new.curve c.demand_beside.new.curve
    step.ensures.outcome c.space-space.ensures c.area_wanted-area.ensures
    (event_served (event.Access c.args.va c.args.kind) v step.new.machine c.args.curve.now step.new.curve step.ensures.machine step.ensures.curve)
    c.demand_beside.ensures
