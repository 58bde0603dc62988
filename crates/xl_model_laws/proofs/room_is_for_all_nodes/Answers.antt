use Rattle.xl_model_laws.proofs.NodeRunLemmas.{room_is_for_all_nodes}
use Rattle.xl_model_laws.proofs.room_is_for_all_nodes.Goals as goal

pub returns : goal.returns
returns c = room_is_for_all_nodes
