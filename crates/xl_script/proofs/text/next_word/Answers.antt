use Rattle.xl_script.proofs.Common.{◌∙◌, rules, sym, take_rest}
use Rattle.xl_script.proofs.TextLemmas.{comment_first, empty_line, word_first}
use Rattle.xl_script.proofs.text.next_word.Goals.{then-is_empty-via-else-is_empty+then-line-eq35, then-is_empty-via-then-is_empty}
use Rattle.xl_script.proofs.text.next_word.Goals as goal

pub returns-then-is_empty-clause-none : goal.returns-then-is_empty-clause-none
returns-then-is_empty-clause-none c =
    let line = c.without_blanks-line.result.now in
    elim c.then-is_empty.branch [
      | then-is_empty-via-then-is_empty w ↦ sym c.without_blanks-line.ensures.same ∙ empty_line line w.if-is_empty.ensures
      | then-is_empty-via-else-is_empty+then-line-eq35 w ↦ sym c.without_blanks-line.ensures.same ∙ comment_first line (search rules) (search rules)
    ]

pub returns-clause-some : goal.returns-clause-some
returns-clause-some c =
    let line = c.without_blanks-line.result.now in
    rw take_rest (sym c.without_blanks-line.ensures.same
    ∙ word_first line c.word_length-length.result c.word_length-length.ensures.value (search rules) (search rules) (search rules))
