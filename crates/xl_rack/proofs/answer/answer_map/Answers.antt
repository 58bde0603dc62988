use Rattle.xl_rack.proofs.Common.{false, true}
use Rattle.xl_rack.proofs.AnswerLemmas.{map-again}
use Rattle.xl_rack.proofs.answer.answer_map.Goals as goal

pub returns-in-Ok-answer_access : goal.returns-in-Ok-answer_access
returns-in-Ok-answer_access g c =
    map-again g.K.Sink.sink c.args.access.number c.args.access.va c.args.access.kind c.args.area c.map_for.result c.in-Ok-Done.field-0
    c.args.machine.now c.answer_event.new.machine c.answer_access.new.machine c.args.out.now c.answer_event.new.out c.answer_access.new.out true
    c.map_for.ensures c.in-Ok-Done.ensures.outcome c.in-Ok-Done.field-0-is c.answer_event.ensures.after c.in-Ok-Done.ensures.line c.answer_access.ensures.after c.in-Ok-answer_access.ensures.line

pub returns-in-Err-answer_access : goal.returns-in-Err-answer_access
returns-in-Err-answer_access g c =
    map-again g.K.Sink.sink c.args.access.number c.args.access.va c.args.access.kind c.args.area c.map_for.result c.in-Ok-Done.field-0
    c.args.machine.now c.answer_event.new.machine c.answer_access.new.machine c.args.out.now c.answer_event.new.out c.answer_access.new.out false
    c.map_for.ensures c.in-Ok-Done.ensures.outcome c.in-Ok-Done.field-0-is c.answer_event.ensures.after c.in-Ok-Done.ensures.line c.answer_access.ensures.after c.in-Err-answer_access.ensures.line
