use Rattle.xl_tlb.proofs.PairLemmas.{pair_eights}
use Rattle.xl_tlb.proofs.paired.PairedShape.has_eights.Goals as goal

pub returns : goal.returns
returns g c = λ arrays fits is k. pair_eights _ k arrays fits.shape
