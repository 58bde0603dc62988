use Rattle.xl_config.proofs.Common.{◌∙◌}
use Rattle.xl_config.proofs.ItemLemmas.{tables_view}
use Rattle.xl_config.proofs.rows.all_tables.Goals as goal

pub returns : goal.returns
returns c = c.each_table.ensures ∙ tables_view c.args.values.now.items
