use Rattle.xl_model_laws.proofs.FreshLemmas.{nothing_is_stale}
use Rattle.xl_model_laws.proofs.nothing_is_stale.Goals as goal

pub returns : goal.returns
returns c = nothing_is_stale
