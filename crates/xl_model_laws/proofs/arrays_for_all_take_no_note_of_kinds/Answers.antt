use Rattle.xl_model_laws.proofs.KindLemmas.{arrays_for_all_take_no_note_of_kinds}
use Rattle.xl_model_laws.proofs.arrays_for_all_take_no_note_of_kinds.Goals as goal

pub returns : goal.returns
returns c = arrays_for_all_take_no_note_of_kinds
