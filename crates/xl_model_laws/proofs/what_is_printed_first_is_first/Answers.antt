use Rattle.xl_model_laws.proofs.SceneLawLemmas.{what_is_printed_first_is_first}
use Rattle.xl_model_laws.proofs.what_is_printed_first_is_first.Goals as goal

pub returns : goal.returns
returns c = what_is_printed_first_is_first
