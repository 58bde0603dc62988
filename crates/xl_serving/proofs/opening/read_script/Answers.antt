use Rattle.xl_serving.proofs.Common.{Finds, known_all, subst}
use Rattle.xl_serving.proofs.InputLemmas.{none_said}
use Rattle.xl_serving.proofs.opening.read_script.Goals as goal

pub returns-in-None-clause-known : goal.returns-in-None-clause-known
returns-in-None-clause-known g c =
    rw c.in-None.is (known_all (g.F.Folder.folder.files c.args.folder.now) _ (λ fs. subst (Finds (λ script. script) c.commands_of.result) none_said c.commands_of.ensures.said))
