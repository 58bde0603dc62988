use Rattle.xl_model_laws.proofs.WayLemmas.{keys_have_their_slots}
use Rattle.xl_model_laws.proofs.keys_have_their_slots.Goals as goal

pub returns : goal.returns
returns c = keys_have_their_slots
