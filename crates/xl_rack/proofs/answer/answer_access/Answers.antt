use Rattle.xl_rack.proofs.Common.{false, List, SinkAfter, subst, true, ℕ}
use Rattle.xl_rack.proofs.AnswerLemmas.{line-known}
use Rattle.xl_rack.proofs.answer.answer_access.Goals as goal

pub returns-in-Ok-clause-line : goal.returns-in-Ok-clause-line
returns-in-Ok-clause-line g c =
    subst (λ (text : List ℕ). SinkAfter g.K.Sink.sink text c.args.out.now c.write_answer.new.out true)
    (line-known c.args.access.number c.args.access.va c.space.result c.args.access.kind c.access-reply.result c.row.result.now c.args.machine.now c.access-reply.new.self
    c.access-reply.ensures.reply_is c.access-reply.ensures.after_is c.space.ensures c.row.ensures) c.in-Ok.ensures

pub returns-in-Err-clause-line : goal.returns-in-Err-clause-line
returns-in-Err-clause-line g c =
    subst (λ (text : List ℕ). SinkAfter g.K.Sink.sink text c.args.out.now c.write_answer.new.out false)
    (line-known c.args.access.number c.args.access.va c.space.result c.args.access.kind c.access-reply.result c.row.result.now c.args.machine.now c.access-reply.new.self
    c.access-reply.ensures.reply_is c.access-reply.ensures.after_is c.space.ensures c.row.ensures) c.in-Err.ensures
