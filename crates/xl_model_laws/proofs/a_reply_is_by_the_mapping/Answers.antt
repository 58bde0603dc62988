use Rattle.xl_model_laws.proofs.LeafLemmas.{a_reply_is_by_the_mapping}
use Rattle.xl_model_laws.proofs.a_reply_is_by_the_mapping.Goals as goal

pub returns : goal.returns
returns c = a_reply_is_by_the_mapping
