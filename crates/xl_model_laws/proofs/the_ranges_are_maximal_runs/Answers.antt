use Rattle.xl_model_laws.proofs.SentenceLemmas.{the_ranges_are_maximal_runs}
use Rattle.xl_model_laws.proofs.the_ranges_are_maximal_runs.Goals as goal

pub returns : goal.returns
returns c = the_ranges_are_maximal_runs
