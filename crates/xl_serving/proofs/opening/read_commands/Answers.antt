use Rattle.xl_serving.proofs.Common.{commands_said, file_of, Finds, known_one, Ok, ReadsWhole, said_in}
use Rattle.xl_serving.proofs.InputLemmas.{commands_cut, finds_text}
use Rattle.xl_serving.proofs.opening.read_commands.Goals as goal

pub returns-clause-known : goal.returns-clause-known
returns-clause-known g c =
    let name = c.args.name.now in
    let text = c.in_ok-text.text in
    let bytes = c.as_slice.result.now in
    let answer = c.commands_of.result in
    known_one (g.F.Folder.folder.files c.args.folder.now) (λ fs. ReadsWhole (file_of fs name) 1048576 (Ok text)) (λ fs. Finds (λ script. script) answer (said_in commands_said (file_of fs name)))
    c.in_ok-text.ensures.known
    (λ fs h. finds_text (λ script. script) commands_said 1048576 (file_of fs name) text bytes answer commands_cut h c.as_slice.ensures.value c.commands_of.ensures.said)
