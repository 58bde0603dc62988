use Rattle.xl_config.proofs.Common.{◌∙◌, is_top_key}
use Rattle.xl_config.proofs.ItemLemmas.{known_view}
use Rattle.xl_config.proofs.rows.is_alone.Goals as goal

pub returns : goal.returns
returns c = c.all_top_keys.ensures ∙ known_view is_top_key c.args.table.now.entries
