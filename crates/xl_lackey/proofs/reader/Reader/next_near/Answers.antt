use Rattle.xl_lackey.proofs.Common.{◌+◌, ◌∙◌, ap, next_line, sym}
use Rattle.xl_lackey.proofs.SkimLemmas.{gives_first}
use Rattle.xl_lackey.proofs.reader.Reader.next_near.Goals as goal

pub returns-clause-some : goal.returns-clause-some
returns-clause-some c =
    let found = c.in_ok-letter.found in
    gives_first c.args.self.now c.pass.new.self c.held.result.now found.used (next_line c.lines-line.result) c.in_ok-letter.letter found.addr (found.above + 1)
    (sym c.bad_line.ensures ∙ c.in-None.is) c.held.ensures.value (ap next_line c.lines-line.ensures)
    c.in_ok-letter.ensures.line c.pass.ensures
