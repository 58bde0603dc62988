use Rattle.xl_model_laws.proofs.SceneLawLemmas.{the_printed_text_only_grows}
use Rattle.xl_model_laws.proofs.the_printed_text_only_grows.Goals as goal

pub returns : goal.returns
returns c = the_printed_text_only_grows
