use Rattle.xl_radix.proofs.Common.{arith, level-low, lit<}
use Rattle.xl_radix.proofs.LookLemmas.{block-first, met-word}
use Rattle.xl_radix.proofs.store.Store.meets.Goals as goal

pub end_of-node-requires : goal.end_of-node-requires
end_of-node-requires g c =
    (lit< tt, (c.requires.exact, (c.requires.block.space_in, (block-first g.row.LEVELS _ c.args.space c.args.first c.args.order _ c.requires.block, let e = c.level.ensures in grind (arith, level-low)))))

pub returns : goal.returns
returns g c =
    let exact = rw (← c.self.view_is) at c.requires.exact in
    let block = rw (← c.self.view_is) at c.requires.block in
    let end = rw (← c.self.view_is) at c.end_of-node.ensures in
    let e = c.level.ensures in
    let there = rw e at end in
    rw (← c.self.view_is) (met-word g.row.LEVELS _ c.args.space c.args.first c.end_of-node.result.level c.end_of-node.result.node c.index_of.result c.get.result c.args.order _ _ _ _ (record { store = c.self.invariant; exact = exact }) block there c.index_of.ensures.value c.get.ensures)
