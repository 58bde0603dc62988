use Rattle.xl_treap.proofs.Common.{◌∙◌, ap, length, length-replicate}
use Rattle.xl_treap.proofs.BackLemmas.{opened}
use Rattle.xl_treap.proofs.treap.Treap.open.Goals as goal

pub invariant_of-result : goal.invariant_of-result
invariant_of-result c =
    let n = c.args.nodes in
    opened c.in_ok-words.words.items c.in_ok-free.free.items n (length c.in_ok-path.path.items) _
    (c.in_ok-words.ensures.items_if_clones_equal (λ y h. h)) c.in_ok-free.ensures.items
    (ap length (c.in_ok-path.ensures.items_if_clones_equal (λ y h. h)) ∙ length-replicate n 0) c.requires.1 c.in_ok-free.ensures.room
