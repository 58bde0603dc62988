use Rattle.xl_report.proofs.Common.{◌++◌, ◌∙◌, ◌≡◌, [], ap, append-nil, arith, codes, decimal, drop, drop_all, hex16, kind_letter, length, List, sym, with_reply, ℕ}
use Rattle.xl_report.proofs.AnswerLemmas.{joined, reply_alone}
unfoldable use Rattle.xl_model.specs.Lines.{answer_line}
use Rattle.xl_report.proofs.answer.answer_text.Goals as goal

pub returns : goal.returns
unfolding answer_line
returns c =
    let a = c.args.answered in
    let name = c.args.name.now in
    let line = c.args.line.now in
    let number = decimal a.number in
    let kind = kind_letter a.kind in
    let space = decimal a.space in
    let none : drop (length line) line ≡ [] = drop_all (length line) line (omega arith) in
    let head = name ++ codes " " ++ number ++ kind ++ space ++ codes " " ++ hex16 a.va in
    let start : c.name_before.result ≡ 0 = omega (
      arith,
      c.requires.room,
      c.name_before.ensures.start,
      c.byte_before-at-3.ensures.start,
      c.number_before-at-2.ensures.start,
      c.letter_before-at.ensures.start,
      c.number_before-at.ensures.start,
      c.byte_before-at-2.ensures.start,
      c.hex_before-at.ensures.start,
      c.reply_before-at.ensures.start,
      c.byte_before-at.ensures.start,
    ) in
    ap (λ (n : ℕ). drop n c.name_before.new.line) (sym start)
    ∙ c.name_before.ensures.text
    ∙ ap (λ (ys : List ℕ). name ++ ys) (c.byte_before-at-3.ensures.text
    ∙ ap (λ (ys : List ℕ). codes " " ++ ys) (c.number_before-at-2.ensures.text
    ∙ ap (λ (ys : List ℕ). number ++ ys) (c.letter_before-at.ensures.text
    ∙ ap (λ (ys : List ℕ). kind ++ ys) (c.number_before-at.ensures.text
    ∙ ap (λ (ys : List ℕ). space ++ ys) (c.byte_before-at-2.ensures.text
    ∙ ap (λ (ys : List ℕ). codes " " ++ ys) (c.hex_before-at.ensures.text
    ∙ ap (λ (ys : List ℕ). hex16 a.va ++ ys) (c.reply_before-at.ensures.text
    ∙ ap (λ (ys : List ℕ). with_reply [] a.kind a.va a.reply ++ ys) (c.byte_before-at.ensures.text
    ∙ ap (λ (ys : List ℕ). codes "\n" ++ ys) none ∙ append-nil (codes "\n")))))))))
    ∙ joined name (codes " ") number kind space (codes " ") (hex16 a.va) (with_reply [] a.kind a.va a.reply) (codes "\n")
    ∙ ap (λ (ys : List ℕ). ys ++ codes "\n") (reply_alone head a.kind a.va a.reply)
