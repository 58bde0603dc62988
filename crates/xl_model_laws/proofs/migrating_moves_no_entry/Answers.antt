use Rattle.xl_model_laws.proofs.WayLemmas.{migrating_moves_no_entry}
use Rattle.xl_model_laws.proofs.migrating_moves_no_entry.Goals as goal

pub returns : goal.returns
returns c = migrating_moves_no_entry
