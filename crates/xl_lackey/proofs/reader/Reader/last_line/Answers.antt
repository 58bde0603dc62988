use Rattle.xl_lackey.proofs.Common.{◌∙◌, ap, arith, Found, judge, length, next_line, refl, sym}
use Rattle.xl_lackey.proofs.StepLemmas.{emptied, last_bad, last_found, last_skipped}
use Rattle.xl_lackey.proofs.reader.Reader.last_line.Goals as goal

pub returns-in-Skipped-clause-answers : goal.returns-in-Skipped-clause-answers
returns-in-Skipped-clause-answers c =
    let s = c.args.self.now in
    let size = ap length c.held-count.ensures.value in
    last_skipped s c.pass.new.self (next_line c.lines-line.result) c.requires.good c.requires.finished c.requires.no_newline (omega arith)
    (sym c.in-Skipped.is ∙ c.judge-verdict.ensures.value ∙ ap judge c.held.ensures.value) (ap next_line c.lines-line.ensures)
    (emptied s c.pass.new.self _ _ size c.pass.ensures)

pub returns-in-Found-clause-answers : goal.returns-in-Found-clause-answers
returns-in-Found-clause-answers c =
    let s = c.args.self.now in
    let size = ap length c.held-count.ensures.value in
    last_found s c.pass.new.self (next_line c.lines-line.result) (Found c.in-Found.letter c.in-Found.addr c.in-Found.size) _
    c.requires.good c.requires.finished c.requires.no_newline (omega arith)
    (sym c.in-Found.is ∙ c.judge-verdict.ensures.value ∙ ap judge c.held.ensures.value) (ap next_line c.lines-line.ensures)
    (emptied s c.pass.new.self _ _ size c.pass.ensures) (λ later. refl)

pub returns-in-Bad-clause-answers : goal.returns-in-Bad-clause-answers
returns-in-Bad-clause-answers c =
    let s = c.args.self.now in
    let size = ap length c.held-count.ensures.value in
    rw c.refuse.ensures.answer (last_bad s c.pass.new.self c.refuse.new.self (next_line c.lines-line.result) c.in-Bad.reason
    c.requires.good c.requires.finished c.requires.no_newline (omega arith)
    (sym c.in-Bad.is ∙ c.judge-verdict.ensures.value ∙ ap judge c.held.ensures.value) (ap next_line c.lines-line.ensures)
    (emptied s c.pass.new.self _ _ size c.pass.ensures) c.refuse.ensures.kept)
