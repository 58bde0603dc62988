use Rattle.xl_model_laws.proofs.KeyLawLemmas.{each_leaf_has_its_key}
use Rattle.xl_model_laws.proofs.each_leaf_has_its_key.Goals as goal

pub returns : goal.returns
returns c = each_leaf_has_its_key
