use Rattle.xl_model_laws.proofs.SceneLawLemmas.{printing_changes_no_row}
use Rattle.xl_model_laws.proofs.printing_changes_no_row.Goals as goal

pub returns : goal.returns
returns c = printing_changes_no_row
