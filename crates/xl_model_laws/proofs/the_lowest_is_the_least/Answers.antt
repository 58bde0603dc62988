use Rattle.xl_model_laws.proofs.LeafLemmas.{the_lowest_is_the_least}
use Rattle.xl_model_laws.proofs.the_lowest_is_the_least.Goals as goal

pub returns : goal.returns
returns c = the_lowest_is_the_least
