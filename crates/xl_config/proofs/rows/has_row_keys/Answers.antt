use Rattle.xl_config.proofs.Common.{◌∙◌, is_known}
use Rattle.xl_config.proofs.ItemLemmas.{known_view}
use Rattle.xl_config.proofs.rows.has_row_keys.Goals as goal

pub returns : goal.returns
returns c = c.all_row_keys.ensures ∙ known_view (is_known c.args.kind) c.args.table.now.entries
