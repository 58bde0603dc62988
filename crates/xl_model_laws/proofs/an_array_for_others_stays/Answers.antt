use Rattle.xl_model_laws.proofs.KindLemmas.{an_array_for_others_stays}
use Rattle.xl_model_laws.proofs.an_array_for_others_stays.Goals as goal

pub returns : goal.returns
returns c = an_array_for_others_stays
