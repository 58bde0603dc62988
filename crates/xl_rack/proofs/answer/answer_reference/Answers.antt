use Rattle.xl_rack.proofs.Common.{is_ok}
use Rattle.xl_rack.proofs.AnswerLemmas.{access-cut, access-only, access-then}
use Rattle.xl_rack.proofs.answer.answer_reference.Goals as goal

pub returns-in-Unmapped : goal.returns-in-Unmapped
returns-in-Unmapped g c =
    access-then g.K.Sink.sink c.args.access.number c.args.access.va c.args.access.kind c.args.areas.now c.in-Ok.reply
    c.args.machine.now c.answer_access.new.machine c.answer_demand.new.machine c.args.out.now c.answer_access.new.out c.answer_demand.new.out (is_ok c.answer_demand.result)
    c.in-Ok.ensures.reply c.in-Unmapped.is c.answer_access.ensures.after c.in-Ok.ensures.line c.answer_demand.ensures

pub returns-in_default : goal.returns-in_default
returns-in_default g c =
    access-only g.K.Sink.sink c.args.access.number c.args.access.va c.args.access.kind c.args.areas.now c.in-Ok.reply
    c.args.machine.now c.answer_access.new.machine c.args.out.now c.answer_access.new.out
    c.in-Ok.ensures.reply c.in_default.not-Unmapped c.answer_access.ensures.after c.in-Ok.ensures.line

pub returns-in-Err : goal.returns-in-Err
returns-in-Err g c =
    access-cut g.K.Sink.sink c.args.access.number c.args.access.va c.args.access.kind c.args.areas.now
    c.args.machine.now c.answer_access.new.machine c.args.out.now c.answer_access.new.out c.answer_access.ensures.after c.in-Err.ensures.line
