use Rattle.xl_model_laws.proofs.LimitLawLemmas.{each_call_keeps_the_limits}
use Rattle.xl_model_laws.proofs.each_call_keeps_the_limits.Goals as goal

pub returns : goal.returns
returns c = each_call_keeps_the_limits
