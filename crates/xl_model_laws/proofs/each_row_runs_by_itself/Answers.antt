use Rattle.xl_model_laws.proofs.SceneLawLemmas.{each_row_runs_by_itself}
use Rattle.xl_model_laws.proofs.each_row_runs_by_itself.Goals as goal

pub returns : goal.returns
returns c = each_row_runs_by_itself
