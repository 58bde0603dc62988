use Rattle.xl_report.proofs.Common.{◌∙◌, ap, length, sym}
use Rattle.xl_report.proofs.SizeLemmas.{length-answer}
use Rattle.xl_report.proofs.answer.AnswerTextText.write.Goals as goal

pub answer_text-requires-clause-room : goal.answer_text-requires-clause-room
answer_text-requires-clause-room c =
    let t = c.self.inside in
    let a = t.answered in
    c.requires ∙ ap (λ xs. length xs) (sym c.self.view_is) ∙ length-answer t.name.now a.number a.kind a.space a.va a.reply
