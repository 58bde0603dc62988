use Rattle.xl_tlb.proofs.OneLemmas.{eights_alone}
use Rattle.xl_tlb.proofs.one.OneShape.has_eights.Goals as goal

pub returns : goal.returns
returns c = λ arrays fits is k. eights_alone arrays (fits.known.eights is)
