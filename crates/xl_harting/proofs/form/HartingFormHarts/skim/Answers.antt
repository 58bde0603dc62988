use Rattle.xl_harting.proofs.Common.{harts_form}
use Rattle.xl_paired.proofs.SkimLemmas.{skimmed}
use Rattle.xl_harting.proofs.form.HartingFormHarts.skim.Goals as goal

pub returns-clause-skims : goal.returns-clause-skims
returns-clause-skims g c fs h =
    rw (c.serve_accesses.ensures, c.as_slice.ensures.value)
    (skimmed harts_form _ _ _ _ _ c.skim-taken.result c.args.harts.now c.clear.ensures (c.skim-taken.ensures.skims fs h))
