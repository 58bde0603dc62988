use Rattle.xl_model_laws.proofs.TagLawLemmas.{room_is_for_all_tags}
use Rattle.xl_model_laws.proofs.room_is_for_all_tags.Goals as goal

pub returns : goal.returns
returns c = room_is_for_all_tags
