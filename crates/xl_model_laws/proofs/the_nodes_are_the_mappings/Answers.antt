use Rattle.xl_model_laws.proofs.NodeRunLemmas.{the_nodes_are_the_mappings}
use Rattle.xl_model_laws.proofs.the_nodes_are_the_mappings.Goals as goal

pub returns : goal.returns
returns c = the_nodes_are_the_mappings
