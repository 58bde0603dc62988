use Rattle.xl_range.proofs.Common.{◌∙◌, Bool, IsDone, Protect, subst, sym}
use Rattle.xl_range.proofs.MoveStepLemmas.{protect-done, protect-undone}
use Rattle.xl_range.proofs.StepLemmas.{cut-can, cut-room, leaf-at}
use Rattle.xl_range.proofs.changes.set_perm.Goals as goal

pub leaf_in-old-requires : goal.leaf_in-old-requires
leaf_in-old-requires c = leaf-at c.args.space c.args.first c.args.order c.range_with-range.result c.args.treap.now.seen.kept c.requires.whole.held c.range_with-range.ensures

pub cut-requires-clause-room : goal.cut-requires-clause-room
cut-requires-clause-room c = cut-room c.args.space c.args.first c.args.order c.args.ranges c.args.treap.now.seen c.range_with-range.result c.requires.whole c.range_with-range.ensures

pub put_within-made-requires-clause-range : goal.put_within-made-requires-clause-range
put_within-made-requires-clause-range c =
    (cut-can c.args.space c.args.first c.args.order c.args.ranges c.args.treap.now.seen c.cut.new.treap.seen c.range_with-range.result c.args.perm c.leaf_in-old.result c.requires.whole c.range_with-range.ensures c.cut.ensures c.leaf_in-old.ensures).range

pub put_within-made-requires-clause-held : goal.put_within-made-requires-clause-held
put_within-made-requires-clause-held c =
    (cut-can c.args.space c.args.first c.args.order c.args.ranges c.args.treap.now.seen c.cut.new.treap.seen c.range_with-range.result c.args.perm c.leaf_in-old.result c.requires.whole c.range_with-range.ensures c.cut.ensures c.leaf_in-old.ensures).held

pub put_within-made-requires-clause-clear : goal.put_within-made-requires-clause-clear
put_within-made-requires-clause-clear c =
    (cut-can c.args.space c.args.first c.args.order c.args.ranges c.args.treap.now.seen c.cut.new.treap.seen c.range_with-range.result c.args.perm c.leaf_in-old.result c.requires.whole c.range_with-range.ensures c.cut.ensures c.leaf_in-old.ensures).clear

pub put_within-requires-clause-range : goal.put_within-requires-clause-range
put_within-requires-clause-range c =
    (cut-can c.args.space c.args.first c.args.order c.args.ranges c.args.treap.now.seen c.put_within-made.new.treap.seen c.range_with-range.result c.leaf_in-old.result.perm c.leaf_in-old.result c.requires.whole c.range_with-range.ensures (c.put_within-made.ensures.same c.if-not-made.true ∙ c.cut.ensures) c.leaf_in-old.ensures).range

pub put_within-requires-clause-held : goal.put_within-requires-clause-held
put_within-requires-clause-held c =
    (cut-can c.args.space c.args.first c.args.order c.args.ranges c.args.treap.now.seen c.put_within-made.new.treap.seen c.range_with-range.result c.leaf_in-old.result.perm c.leaf_in-old.result c.requires.whole c.range_with-range.ensures (c.put_within-made.ensures.same c.if-not-made.true ∙ c.cut.ensures) c.leaf_in-old.ensures).held

pub put_within-requires-clause-clear : goal.put_within-requires-clause-clear
put_within-requires-clause-clear c =
    (cut-can c.args.space c.args.first c.args.order c.args.ranges c.args.treap.now.seen c.put_within-made.new.treap.seen c.range_with-range.result c.leaf_in-old.result.perm c.leaf_in-old.result c.requires.whole c.range_with-range.ensures (c.put_within-made.ensures.same c.if-not-made.true ∙ c.cut.ensures) c.leaf_in-old.ensures).clear

pub returns-then-not-made : goal.returns-then-not-made
returns-then-not-made c =
    let D : Bool → Type 0 = λ b. IsDone (Protect c.args.space c.args.first c.args.order c.args.perm) c.args.ranges c.args.treap.now.seen b c.put_within.new.treap.seen in
    subst D (sym c.if-not-made.true) (protect-undone c.args.space c.args.first c.args.order c.args.perm c.args.ranges c.args.treap.now.seen c.cut.new.treap.seen c.put_within-made.new.treap.seen c.put_within.new.treap.seen c.range_with-range.result c.leaf_in-old.result c.put_within.result c.requires.whole c.range_with-range.ensures c.cut.ensures c.leaf_in-old.ensures (sym c.if-not-made.true ∙ c.put_within-made.ensures.test) (c.put_within-made.ensures.same c.if-not-made.true) c.put_within.ensures.test c.put_within.ensures.made)

pub returns-else-not-made : goal.returns-else-not-made
returns-else-not-made c =
    let D : Bool → Type 0 = λ b. IsDone (Protect c.args.space c.args.first c.args.order c.args.perm) c.args.ranges c.args.treap.now.seen b c.put_within-made.new.treap.seen in
    subst D (sym c.if-not-made.false) (protect-done c.args.space c.args.first c.args.order c.args.perm c.args.ranges c.args.treap.now.seen c.cut.new.treap.seen c.put_within-made.new.treap.seen c.range_with-range.result c.leaf_in-old.result c.requires.whole c.range_with-range.ensures c.cut.ensures c.leaf_in-old.ensures (sym c.if-not-made.false ∙ c.put_within-made.ensures.test) (c.put_within-made.ensures.made c.if-not-made.false))
