use Rattle.xl_config.proofs.Common.{◌∙◌}
use Rattle.xl_config.proofs.ItemLemmas.{names_view}
use Rattle.xl_config.proofs.rows.is_taken.Goals as goal

pub returns : goal.returns
returns c = c.any_named.ensures ∙ names_view c.args.name.now c.args.rows.now
