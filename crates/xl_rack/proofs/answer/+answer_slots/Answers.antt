use Rattle.xl_rack.proofs.Common.{is_ok}
use Rattle.xl_rack.proofs.AnswerLemmas.{answered-cut, answered-then}
use Rattle.xl_rack.proofs.answer.+answer_slots.Goals as goal

pub returns-in-Ok : goal.returns-in-Ok
returns-in-Ok g t c =
    answered-then g.K.Sink.sink c.args.item.now c.args.areas.now c.args.slots.now c.in-Some.first.now c.answer_slot.new.slot c.in-Some.rest.now c.answer_slots.new.slots
    c.args.out.now c.answer_slot.new.out c.answer_slots.new.out (is_ok c.answer_slots.result) c.in-Some.ensures.cases.0 c.answer_slot.ensures.form c.in-Ok.ensures.answers c.answer_slots.ensures

pub returns-in-Err : goal.returns-in-Err
returns-in-Err g t c =
    answered-cut g.K.Sink.sink c.args.item.now c.args.areas.now c.args.slots.now c.in-Some.first.now c.answer_slot.new.slot c.in-Some.rest.now
    c.args.out.now c.answer_slot.new.out c.in-Some.ensures.cases.0 c.answer_slot.ensures.form c.in-Err.ensures.answers
