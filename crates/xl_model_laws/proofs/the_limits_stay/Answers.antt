use Rattle.xl_model_laws.proofs.LimitLawLemmas.{the_limits_stay}
use Rattle.xl_model_laws.proofs.the_limits_stay.Goals as goal

pub returns : goal.returns
returns c = the_limits_stay
