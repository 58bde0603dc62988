use Rattle.xl_model_table.proofs.Common.{◌∙◌, ap, list_any, meets_any, meets_block}
use Rattle.xl_model_table.proofs.ReadLemmas.{meets-mapping}
use Rattle.xl_model_table.proofs.plain.ListTableStructure.meets.Goals as goal

pub returns : goal.returns
returns c =
    let a = c.args in
    c.any_meets.ensures
    ∙ ap (list_any (meets_block a.space a.first a.order)) c.deref.ensures.value
    ∙ meets-mapping a.space a.first a.order c.self.inside.leaves.items c.self.invariant.kept
    ∙ ap (λ t. meets_any a.space a.first a.order t.leaves) c.self.view_is
