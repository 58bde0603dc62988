use Rattle.xl_report.proofs.Common.{◌∙◌, ◌≡◌, ap, arith, decimal, length}
use Rattle.xl_report.proofs.SizeLemmas.{length-code}
use Rattle.xl_report.proofs.answer.fault_before.Goals as goal

pub number_before-at-requires-clause-room : goal.number_before-at-requires-clause-room
number_before-at-requires-clause-room c =
    let size : length (decimal c.code.result) ≡ 2 = ap (λ n. length (decimal n)) c.code.ensures ∙ length-code c.args.kind in
    omega (arith, c.requires.room)

pub bytes_before-requires-clause-room : goal.bytes_before-requires-clause-room
bytes_before-requires-clause-room c =
    let size : length (decimal c.code.result) ≡ 2 = ap (λ n. length (decimal n)) c.code.ensures ∙ length-code c.args.kind in
    omega (arith, c.requires.room, c.number_before-at.ensures.start)

pub returns-clause-start : goal.returns-clause-start
returns-clause-start c =
    let size : length (decimal c.code.result) ≡ 2 = ap (λ n. length (decimal n)) c.code.ensures ∙ length-code c.args.kind in
    omega (arith, c.bytes_before.ensures.start, c.number_before-at.ensures.start)
