use Rattle.xl_serving.proofs.PlainLemmas.{skimmed-plain}
use Rattle.xl_serving.proofs.plain.BenchForm.skim.Goals as goal

pub returns-clause-skims : goal.returns-clause-skims
returns-clause-skims g c fs h = skimmed-plain _ _ _ _ _ _ _ (c.skim.ensures.skims fs h)
