use Rattle.xl_lackey.proofs.Common.{◌∙◌, ap, arith, Bool, left_by, length, length-drop, State, sym, Verdict, with_verdict}
use Rattle.xl_lackey.proofs.StepLemmas.{answers_on, left_passed}
use Rattle.xl_lackey.proofs.reader.Reader.next.Goals as goal

pub returns-in-Skipped-clause-answers : goal.returns-in-Skipped-clause-answers
returns-in-Skipped-clause-answers c =
    let old = c.args.self.now in
    let mid = c.pass.new.self in
    let scan = c.read_lines-scan.result in
    let size = ap (λ (u : State). length u.held) c.pass.ensures in
    let passed = λ (last : Bool). left_passed last old mid c.held.result.now c.lines.result scan.used scan.lines (with_verdict scan.lines scan.verdict)
    (sym c.bad_line.ensures ∙ c.in_default.is) c.held.ensures.value c.lines.ensures (c.read_lines-scan.ensures.reads last) c.pass.ensures in
    answers_on c.end_of_held.result old mid c.end_of_held.new.self
    (λ last rest. passed last rest ∙ ap (λ (v : Verdict). with_verdict scan.lines v (left_by last mid rest)) c.in-Skipped.is)
    (ap (λ (u : State). u.finished) c.pass.ensures)
    (omega (arith, size, length-drop scan.used old.held)) c.end_of_held.ensures.answers
