use Rattle.xl_model_table.proofs.Common.{◌∙◌, ap, covers, find, leaf_at_page}
use Rattle.xl_model_table.proofs.ReadLemmas.{leaf-at-mapping}
use Rattle.xl_model_table.proofs.plain.ListTableStructure.leaf_at.Goals as goal

pub returns : goal.returns
returns c =
    let a = c.args in
    c.covering.ensures
    ∙ ap (find (covers a.space a.page)) c.deref.ensures.value
    ∙ leaf-at-mapping a.space a.page c.self.inside.leaves.items c.self.invariant.kept
    ∙ ap (λ t. leaf_at_page a.space a.page t.leaves) c.self.view_is
