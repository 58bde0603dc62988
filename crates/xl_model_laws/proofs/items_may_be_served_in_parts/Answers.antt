use Rattle.xl_model_laws.proofs.SceneLawLemmas.{items_may_be_served_in_parts}
use Rattle.xl_model_laws.proofs.items_may_be_served_in_parts.Goals as goal

pub returns : goal.returns
returns c = items_may_be_served_in_parts
