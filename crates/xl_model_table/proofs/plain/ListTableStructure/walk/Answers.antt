use Rattle.xl_model_table.proofs.Common.{◌∙◌, ◌≡◌, ap, chains_reads, leaf_tag, map, orders_tried, refl}
use Rattle.xl_model_table.proofs.TableLemmas.{walk-made}
use Rattle.xl_model_table.proofs.plain.ListTableStructure.walk.Goals as goal

pub returns : goal.returns
returns c =
    let s = c.self.inside in
    let a = c.args in
    let reads : c.walk_loads-loads.result ≡ chains_reads 1 s.buckets (map (leaf_tag 1) s.leaves.items) a.space a.page (orders_tried c.leaf_at-leaf.result) =
    c.walk_loads-loads.ensures ∙ ap (λ xs. chains_reads 1 s.buckets (map (leaf_tag 1) xs) a.space a.page (orders_tried c.leaf_at-leaf.result)) c.deref.ensures.value in
    record { walks = walk-made s.buckets s.entries s.loads a.space a.page s.leaves.items c.leaf_at-leaf.result c.walk_loads-loads.result _ a.self.now c.self.view_is c.leaf_at-leaf.ensures reads refl }
