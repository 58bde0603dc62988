use Rattle.xl_model_laws.proofs.WayLemmas.{the_pointer_is_below_the_slots}
use Rattle.xl_model_laws.proofs.the_pointer_is_below_the_slots.Goals as goal

pub returns : goal.returns
returns c = the_pointer_is_below_the_slots
