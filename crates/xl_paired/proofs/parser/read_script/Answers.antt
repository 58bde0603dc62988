use Rattle.std.specs.Prelude.{Ok}
use Rattle.xl_course.proofs.KnownLemmas.{known_one}
use Rattle.xl_outside.specs.Folders.{file_of}
use Rattle.xl_outside.specs.Whole.{ReadsWhole}
use Rattle.xl_serving.specs.Inputs.{Finds}
use Rattle.xl_paired.proofs.PairLemmas.{finds_text}
use Rattle.xl_paired.specs.Pairs.{script_in}
use Rattle.xl_paired.proofs.parser.read_script.Goals as goal

pub returns-clause-known : goal.returns-clause-known
returns-clause-known g c =
    let p = g.P.Parser in
    let name = c.args.name.now in
    let answer = c.script_of.result in
    known_one (g.F.Folder.folder.files c.args.folder.now) (λ fs. ReadsWhole (file_of fs name) 1048576 (Ok c.in_ok-text.text)) (λ fs. Finds p.said answer (script_in p.says name fs))
    c.in_ok-text.ensures.known
    (λ fs h. finds_text p.said p.says (file_of fs name) c.in_ok-text.text c.as_slice.result.now answer g.met.P.Parser.cut h c.as_slice.ensures.value c.script_of.ensures.said)
