use Rattle.xl_course.proofs.Common.{eqb, not}
use Rattle.xl_course.proofs.CourseLemmas.{part_items, part_lost}
use Rattle.xl_course.proofs.KnownLemmas.{known_all}
use Rattle.xl_course.proofs.serving.serve_step.Goals as goal

pub returns-in-Run-clause-known : goal.returns-in-Run-clause-known
returns-in-Run-clause-known g c = rw c.in-Run.is c.serve_run.ensures.known

pub returns-in-RunRest-clause-known : goal.returns-in-RunRest-clause-known
returns-in-RunRest-clause-known g c = rw c.in-RunRest.is c.serve_rest.ensures.known

pub returns-in-Ok-clause-known : goal.returns-in-Ok-clause-known
returns-in-Ok-clause-known g c =
    rw c.in-Own.is (known_all (g.F.Folder.folder.files c.args.folder.now) _ (λ fs s. part_items _ _ (not (eqb g.row.ANSWERS 0)) _ _ _ _ _ _ _ _ s c.in-Ok.ensures.served))

pub returns-in-Err-clause-known : goal.returns-in-Err-clause-known
returns-in-Err-clause-known g c =
    rw c.in-Own.is (known_all (g.F.Folder.folder.files c.args.folder.now) _ (λ fs s. part_lost _ _ (not (eqb g.row.ANSWERS 0)) _ _ _ _ _ _ _ _ c.in-Err.ensures.served))
