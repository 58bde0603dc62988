use Rattle.xl_model_laws.proofs.LeafLemmas.{the_leaves_are_a_mapping}
use Rattle.xl_model_laws.proofs.the_leaves_are_a_mapping.Goals as goal

pub returns : goal.returns
returns c = the_leaves_are_a_mapping
