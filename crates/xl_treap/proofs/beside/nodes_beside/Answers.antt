use Rattle.xl_treap.proofs.Common.{arith, High, Low}
use Rattle.xl_treap.proofs.BesideLemmas.{between-above, between-below, between-end, between-start, between-there, less-side}
use Rattle.xl_treap.proofs.beside.nodes_beside.Goals as goal

pub down-init : goal.down-init
down-init g c = between-start c.args.words.now g.tree c.args.key c.args.root c.requires

pub bounds-words-node : goal.bounds-words-node
bounds-words-node g c = let h = between-there c.down.invariant (omega arith) in omega arith

pub link_of-at-requires : goal.link_of-at-requires
link_of-at-requires g c = between-there c.down.invariant (omega arith)

pub link_of-at-requires-else-words-node : goal.link_of-at-requires-else-words-node
link_of-at-requires-else-words-node g c = between-there c.down.invariant (omega arith)

pub down-smaller-then-words-node : goal.down-smaller-then-words-node
down-smaller-then-words-node g c = rw c.link_of-at.ensures (less-side c.down.invariant (omega arith) High)

pub down-smaller : goal.down-smaller
down-smaller g c = rw c.link_of-at-else-words-node.ensures (less-side c.down.invariant (omega arith) Low)

pub down-preserved-then-words-node : goal.down-preserved-then-words-node
down-preserved-then-words-node g c = rw c.link_of-at.ensures (between-below c.down.invariant (omega arith) c.if-words-node.true)

pub down-preserved : goal.down-preserved
down-preserved g c = rw c.link_of-at-else-words-node.ensures (between-above c.down.invariant (omega arith) c.if-words-node.false)

pub returns : goal.returns
returns g c = between-end c.down.invariant (omega arith)
