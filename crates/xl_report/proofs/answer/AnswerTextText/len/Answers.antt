use Rattle.xl_report.proofs.Common.{◌∙◌, ap, arith, length, sym}
use Rattle.xl_report.proofs.SizeLemmas.{length-answer}
use Rattle.xl_report.proofs.answer.AnswerTextText.len.Goals as goal

pub overflow_add-result : goal.overflow_add-result
overflow_add-result c = omega (arith, c.self.invariant.0, c.digits.ensures.most)

pub overflow_add-result-2 : goal.overflow_add-result-2
overflow_add-result-2 c = omega (arith, c.self.invariant.0, c.digits.ensures.most, c.digits-2.ensures.most)

pub overflow_add-result-3 : goal.overflow_add-result-3
overflow_add-result-3 c = omega (arith, c.self.invariant.0, c.digits.ensures.most, c.digits-2.ensures.most, c.reply_len.ensures.most)

pub overflow_add-result-4 : goal.overflow_add-result-4
overflow_add-result-4 c = omega (arith, c.self.invariant.0, c.digits.ensures.most, c.digits-2.ensures.most, c.reply_len.ensures.most)

pub returns-clause-size : goal.returns-clause-size
returns-clause-size c =
    let t = c.self.inside in
    let a = t.answered in
    let view = ap (λ xs. length xs) c.self.view_is in
    let size = length-answer t.name.now a.number a.kind a.space a.va a.reply in
    omega (arith, c.digits.ensures.size, c.digits-2.ensures.size, c.reply_len.ensures.size) ∙ sym size ∙ view

pub returns-clause-most : goal.returns-clause-most
returns-clause-most c = omega (arith, c.self.invariant.0, c.digits.ensures.most, c.digits-2.ensures.most, c.reply_len.ensures.most)
