use Rattle.xl_radix.proofs.Common.{arith}
use Rattle.xl_radix.proofs.LookLemmas.{look-is}
use Rattle.xl_radix.proofs.UpLemmas.{up-low}
use Rattle.xl_radix.proofs.store.Store.leaf_at.Goals as goal

pub returns : goal.returns
returns g c =
    let exact = rw (← c.self.view_is) at c.requires.exact in
    let end = rw (← c.self.view_is) at c.end_of-node.ensures in
    rw (← c.self.view_is) (look-is g.row.LEVELS _ c.args.space c.args.page c.end_of-node.result.level c.end_of-node.result.node c.index_of.result c.get-word.result c.block_of.result c.leaf_of.result c.decode.result _ _ _ _ (record { store = c.self.invariant; exact = exact }) end c.index_of.ensures.value c.get-word.ensures c.block_of.ensures c.decode.ensures.value c.leaf_of.ensures)

pub leaf_of-requires : goal.leaf_of-requires
leaf_of-requires g c =
    let low = up-low c.end_of-node.result.level g.row.LEVELS c.args.page c.self.invariant.low c.requires.page in
    omega (arith, low, c.block_of.ensures)
