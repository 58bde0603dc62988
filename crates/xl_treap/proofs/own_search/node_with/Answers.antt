use Rattle.xl_treap.proofs.Common.{◌*◌, ◌+◌, ◌-◌, arith}
use Rattle.xl_treap.proofs.OwnSearchLemmas.{left-above, left-below, left-end, left-here, left-less, left-start, left-there}
use Rattle.xl_treap.proofs.own_search.node_with.Goals as goal

pub down-init : goal.down-init
down-init g c = let r = c.ranges.root in left-start c.args.words.now g.tree c.args.key c.args.root (omega arith) c.requires.0

pub overflow_mul-line : goal.overflow_mul-line
overflow_mul-line g c = let s = c.down.invariant.small in omega arith

pub offset_bounds-words-line : goal.offset_bounds-words-line
offset_bounds-words-line g c = let s = c.down.invariant.small in omega arith

pub overflow_add-pages : goal.overflow_add-pages
overflow_add-pages g c = let s = c.down.invariant.small in omega arith

pub offset_bounds-words-line-in-down : goal.offset_bounds-words-line-in-down
offset_bounds-words-line-in-down g c = let s = c.down.invariant.small in omega arith

pub overflow_add-links : goal.overflow_add-links
overflow_add-links g c = let s = c.down.invariant.small in omega arith

pub offset_bounds-words-line-in-down-2 : goal.offset_bounds-words-line-in-down-2
offset_bounds-words-line-in-down-2 g c = let s = c.down.invariant.small in omega arith

pub bounds-words-line : goal.bounds-words-line
bounds-words-line g c = let h = left-there c.down.invariant (omega arith) in omega arith

pub bounds-words-line-in-down : goal.bounds-words-line-in-down
bounds-words-line-in-down g c = let h = left-there c.down.invariant (omega arith) in omega arith

pub bounds-words-line-in-down-2 : goal.bounds-words-line-in-down-2
bounds-words-line-in-down-2 g c = let h = left-there c.down.invariant (omega arith) in omega arith

pub overflow_add-loads : goal.overflow_add-loads
overflow_add-loads g c = let h = left-less c.down.invariant (omega arith) in let f = c.requires.1.0 in omega arith

pub returns-then-key-first : goal.returns-then-key-first
returns-then-key-first g c = left-here c.down.invariant (omega arith) c.requires.1.1 c.if-key-first.true

pub down-smaller-then-key-first-2 : goal.down-smaller-then-key-first-2
down-smaller-then-key-first-2 g c = let h = left-less c.down.invariant (omega arith) in omega arith

pub down-smaller : goal.down-smaller
down-smaller g c = let h = left-less c.down.invariant (omega arith) in omega arith

pub down-preserved-then-key-first-2 : goal.down-preserved-then-key-first-2
down-preserved-then-key-first-2 g c = left-below c.down.invariant (omega arith) c.if-key-first-2.true

pub down-preserved : goal.down-preserved
down-preserved g c =
    let w = c.type_inv.words (4 * (c.down.at - 1) + 3) in
    left-above c.down.invariant (omega arith) (omega arith) c.requires.1.1 c.if-key-first-2.false c.if-key-first.false

pub returns : goal.returns
returns g c = left-end c.down.invariant (omega arith)
