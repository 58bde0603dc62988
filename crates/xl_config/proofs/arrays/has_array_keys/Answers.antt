use Rattle.xl_config.proofs.Common.{◌∙◌, is_array_key}
use Rattle.xl_config.proofs.ItemLemmas.{known_view}
use Rattle.xl_config.proofs.arrays.has_array_keys.Goals as goal

pub returns : goal.returns
returns c = c.all_array_keys.ensures ∙ known_view is_array_key c.args.table.now.entries
