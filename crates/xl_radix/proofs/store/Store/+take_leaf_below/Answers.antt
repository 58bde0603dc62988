use Rattle.xl_radix.proofs.Common.{◌-◌, ◌≡◌, arith, leaf_in, lit<, None, slice_index, up}
use Rattle.xl_radix.proofs.StepLemmas.{at_node-in}
use Rattle.xl_radix.proofs.TakingLemmas.{empty-without, is-zero, named-needs, not-zero, stays, still-nearly}
use Rattle.xl_radix.proofs.store.Store.+take_leaf_below.Goals as goal

pub node_below-node-requires : goal.node_below-node-requires
node_below-node-requires g t c = (
  lit< tt,
  (
    c.requires.exact,
    (
      c.requires.at,
      (
        c.requires.high,
        named-needs c.args.space c.args.first c.args.from.level c.args.order _ c.requires.named (let a = c.requires.low in let b = c.level.ensures in let d = c.if-from-level.false in omega arith),
      ),
    ),
  ),
)

pub is_unused-requires : goal.is_unused-requires
is_unused-requires g t c =
    let taken = c.take_leaf_below-given.ensures.taken in
    let child = stays c.args.space c.args.first (c.args.from.level - 1) (c.args.from.level - 1) _ c.node_below-node.result _ _ taken (omega arith) c.node_below-node.ensures.at in
    (lit< tt, at_node-in c.args.space c.args.first (c.args.from.level - 1) c.node_below-node.result _ child)

pub returns-then-not-is_unused-clause-nearly : goal.returns-then-not-is_unused-clause-nearly
returns-then-not-is_unused-clause-nearly g t c =
    let taken = c.take_leaf_below-given.ensures.taken in
    let child = stays c.args.space c.args.first (c.args.from.level - 1) (c.args.from.level - 1) _ c.node_below-node.result _ _ taken (omega arith) c.node_below-node.ensures.at in
    let near = c.take_leaf_below-given.ensures.nearly in
    let some = not-zero c.is_unused.result _ c.is_unused.ensures c.if-not-is_unused.true in
    rw (← c.self.view_is) (still-nearly g.row.LEVELS _ c.args.space c.args.first c.args.from.level c.node_below-node.result _ _ _ _ c.self.invariant c.node_below-node.ensures.low c.requires.high (rw (← c.self.view_is) at child) (rw (← c.self.view_is) at some) (rw (← c.self.view_is) at near))

pub free_node-requires : goal.free_node-requires
free_node-requires g t c =
    let taken = c.take_leaf_below-given.ensures.taken in
    let child = stays c.args.space c.args.first (c.args.from.level - 1) (c.args.from.level - 1) _ c.node_below-node.result _ _ taken (omega arith) c.node_below-node.ensures.at in
    let own = stays c.args.space c.args.first (c.args.from.level - 1) c.args.from.level _ c.args.from.node _ _ taken (omega arith) c.requires.at in
    let empty = empty-without c.args.space c.args.from.level (up c.args.from.level c.args.first) c.args.space c.args.first _ c.node_below-node.ensures.empty in
    let zero-used : slice_index c.take_leaf_below-given.new.self.used c.node_below-node.result ≡ 0 = is-zero c.is_unused.result _ c.is_unused.ensures c.if-not-is_unused.false in
    let gone : leaf_in c.args.space c.args.from.level (up c.args.from.level c.args.first) c.take_leaf_below-given.new.self.leaves ≡ None = rw c.take_leaf_below-given.ensures.leaves empty in
    (lit< tt, (c.node_below-node.ensures.low, (c.requires.high, (own, (child, (gone, (zero-used, c.take_leaf_below-given.ensures.nearly)))))))
