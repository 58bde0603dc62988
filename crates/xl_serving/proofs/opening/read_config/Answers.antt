use Rattle.xl_serving.proofs.Common.{file_of, Finds, known_one, map, Ok, ReadsWhole, row_of, rows_in, rows_said}
use Rattle.xl_serving.proofs.InputLemmas.{finds_text, rows_cut}
use Rattle.xl_serving.proofs.opening.read_config.Goals as goal

pub returns-clause-known : goal.returns-clause-known
returns-clause-known g c =
    let name = c.args.name.now in
    let text = c.in_ok-text.text in
    let bytes = c.as_slice.result.now in
    let answer = c.rows_of.result in
    known_one (g.F.Folder.folder.files c.args.folder.now) (λ fs. ReadsWhole (file_of fs name) 65536 (Ok text)) (λ fs. Finds (λ rows. map row_of rows.items) answer (rows_in name fs))
    c.in_ok-text.ensures.known
    (λ fs h. finds_text (λ rows. map row_of rows.items) rows_said 65536 (file_of fs name) text bytes answer rows_cut h c.as_slice.ensures.value c.rows_of.ensures.said)
