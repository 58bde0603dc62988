use Rattle.xl_model_table.proofs.Common.{is_leaf, not, rules, without_named}
use Rattle.std.proofs.lemmas.Fn.{filter_same}
use Rattle.xl_model_table.proofs.kept.take_out.Goals as goal

pub returns-clause-items : goal.returns-clause-items
unfolding without_named
returns-clause-items c =
    filter_same _ (λ leaf. not (is_leaf c.args.space c.args.first c.args.order leaf)) _ (λ x b f' k. search rules) _ _ c.retain.ensures.filtered
