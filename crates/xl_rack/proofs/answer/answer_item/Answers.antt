use Rattle.xl_rack.proofs.Common.{false, is_ok, true}
use Rattle.xl_rack.proofs.AnswerLemmas.{command-answered, declared-answered, reference-answered}
use Rattle.xl_rack.proofs.answer.answer_item.Goals as goal

pub returns-in-Ok : goal.returns-in-Ok
returns-in-Ok g c =
    command-answered g.K.Sink.sink c.args.item.now c.in-Command.event c.args.areas.now c.args.machine.now c.answer_event.new.machine c.args.out.now c.answer_event.new.out true
    c.in-Command.is c.answer_event.ensures.after c.in-Ok.ensures.line

pub returns-in-Err : goal.returns-in-Err
returns-in-Err g c =
    command-answered g.K.Sink.sink c.args.item.now c.in-Command.event c.args.areas.now c.args.machine.now c.answer_event.new.machine c.args.out.now c.answer_event.new.out false
    c.in-Command.is c.answer_event.ensures.after c.in-Err.ensures.line

pub returns-in-Declared : goal.returns-in-Declared
returns-in-Declared g c = declared-answered g.K.Sink.sink c.args.item.now c.in-Declared.field-0 c.args.areas.now c.args.machine.now c.args.out.now c.in-Declared.is

pub returns-in-Referenced : goal.returns-in-Referenced
returns-in-Referenced g c =
    reference-answered g.K.Sink.sink c.args.item.now c.in-Referenced.number c.in-Referenced.va c.in-Referenced.kind c.args.areas.now
    c.args.machine.now c.answer_reference.new.machine c.args.out.now c.answer_reference.new.out (is_ok c.answer_reference.result) c.in-Referenced.is c.answer_reference.ensures
