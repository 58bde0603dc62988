use Rattle.xl_model_laws.proofs.TagLawLemmas.{the_tags_are_the_leaves}
use Rattle.xl_model_laws.proofs.the_tags_are_the_leaves.Goals as goal

pub returns : goal.returns
returns c = the_tags_are_the_leaves
