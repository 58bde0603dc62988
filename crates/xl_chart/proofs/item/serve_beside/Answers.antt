use Rattle.xl_chart.proofs.ItemLemmas.{command_served, declared_served, event_served, referenced_served}
use Rattle.xl_chart.proofs.item.serve_beside.Goals as goal

pub returns-in-Command : goal.returns-in-Command
returns-in-Command g c =
    let v = c.args.machine.now in
    let e = c.in-Command.event in
    let step = c.step_beside in
    let r = command_served e c.args.areas.now v step.new.machine c.args.curve.now step.new.curve
    (event_served e v step.new.machine c.args.curve.now step.new.curve step.ensures.machine step.ensures.curve) in
    rw c.in-Command.is (record { machine = r.machine; curve = r.curve })

pub returns-in-Declared : goal.returns-in-Declared
returns-in-Declared g c =
    let r = declared_served c.in-Declared.field-0 c.args.areas.now c.args.machine.now c.args.curve.now in
    rw c.in-Declared.is (record { machine = r.machine; curve = r.curve })

pub returns-in-Referenced : goal.returns-in-Referenced
returns-in-Referenced g c =
    let r = referenced_served c.in-Referenced._number c.in-Referenced.va c.in-Referenced.kind c.args.areas.now c.args.machine.now c.access_beside.new.machine c.args.curve.now c.access_beside.new.curve
    c.access_beside.ensures in
    rw c.in-Referenced.is (record { machine = r.machine; curve = r.curve })
