use Rattle.xl_radix.proofs.Common.{◌-◌, arith, level-low, lit<}
use Rattle.xl_radix.proofs.TakingLemmas.{named-at_node, nearly-exact, small-of, taken-only}
use Rattle.xl_radix.proofs.store.Store.take_leaf.Goals as goal

pub take_leaf_below-given-requires : goal.take_leaf_below-given-requires
take_leaf_below-given-requires g c =
    let name = rw (← c.self.view_is) at c.requires.named in
    let at = named-at_node g.row.LEVELS _ c.args.space c.args.first c.args.order _ _ _ _ c.self.invariant name in
    let high = c.self.invariant.high in
    let low = level-low c.args.order in
    (lit< tt, (c.requires.exact, (c.requires.named, (rw (← c.self.view_is) at, (omega arith, omega arith)))))

pub returns-clause-nodes : goal.returns-clause-nodes
returns-clause-nodes g c =
    let high = c.self.invariant.high in
    let taken = rw (← c.self.view_is, ← c.self-2.view_is) at c.take_leaf_below-given.ensures.taken in
    let near = rw (← c.self-2.view_is) at c.take_leaf_below-given.ensures.nearly in
    let exact = nearly-exact g.row.LEVELS _ c.args.space c.args.first _ _ _ _ c.self-2.invariant near in
    rw (← c.self.view_is, ← c.self-2.view_is) (taken-only g.row.LEVELS _ _ (g.row.LEVELS - 1) c.take_leaf_below-given.result _ _ _ _ _ _ _ _ c.self.invariant c.self-2.invariant taken (omega arith) exact)

pub returns-clause-small : goal.returns-clause-small
returns-clause-small g c =
    let m = c.self-2.invariant.rooted.small in
    rw (← c.self-2.view_is) (small-of _ m)
