use Rattle.xl_model_laws.proofs.KindLemmas.{a_store_looks_up_as_a_load}
use Rattle.xl_model_laws.proofs.a_store_looks_up_as_a_load.Goals as goal

pub returns : goal.returns
returns c = a_store_looks_up_as_a_load
