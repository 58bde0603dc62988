use Rattle.xl_range.proofs.Common.{◌∙◌, Bool, IsDone, Relocate, subst, sym}
use Rattle.xl_range.proofs.MoveStepLemmas.{back-room, has-both, HasBoth, IsMoving, move-done, move-undone, moving, no-both}
use Rattle.xl_range.proofs.StepLemmas.{leaf-at}
use Rattle.xl_range.proofs.changes.move_to.Goals as goal

pub leaf_in-old-requires : goal.leaf_in-old-requires
leaf_in-old-requires c =
    leaf-at c.args.space c.args.first c.args.order c.range_with.result c.args.treap.now.seen.kept c.requires.whole.held c.range_with.ensures

pub put_within-requires-clause-range : goal.put_within-requires-clause-range
put_within-requires-clause-range c =
    let m : IsMoving c.args.space c.args.first c.args.to c.args.order c.args.ranges c.args.treap.now.seen (record c.leaf_in-old.result { first = c.args.to }) = moving c.args.space c.args.first c.args.to c.args.order c.args.ranges c.args.treap.now.seen c.range_with.result c.leaf_in-old.result c.requires.whole c.range_with.ensures c.leaf_in-old.ensures c.requires.block c.requires.free in
    m.range

pub put_within-requires-clause-clear : goal.put_within-requires-clause-clear
put_within-requires-clause-clear c =
    let m : IsMoving c.args.space c.args.first c.args.to c.args.order c.args.ranges c.args.treap.now.seen (record c.leaf_in-old.result { first = c.args.to }) = moving c.args.space c.args.first c.args.to c.args.order c.args.ranges c.args.treap.now.seen c.range_with.result c.leaf_in-old.result c.requires.whole c.range_with.ensures c.leaf_in-old.ensures c.requires.block c.requires.free in
    m.clear

pub returns-then-not-put_within : goal.returns-then-not-put_within
returns-then-not-put_within c =
    let m : IsMoving c.args.space c.args.first c.args.to c.args.order c.args.ranges c.args.treap.now.seen (record c.leaf_in-old.result { first = c.args.to }) = moving c.args.space c.args.first c.args.to c.args.order c.args.ranges c.args.treap.now.seen c.range_with.result c.leaf_in-old.result c.requires.whole c.range_with.ensures c.leaf_in-old.ensures c.requires.block c.requires.free in
    no-both c.args.space c.args.first c.args.to c.args.order c.args.ranges c.args.treap.now.seen c.put_within.new.treap.seen (record c.leaf_in-old.result { first = c.args.to }) m (sym c.if-not-put_within.true ∙ c.put_within.ensures.test) (c.put_within.ensures.same c.if-not-put_within.true)

pub range_with-range-requires : goal.range_with-range-requires
range_with-range-requires c =
    let m : IsMoving c.args.space c.args.first c.args.to c.args.order c.args.ranges c.args.treap.now.seen (record c.leaf_in-old.result { first = c.args.to }) = moving c.args.space c.args.first c.args.to c.args.order c.args.ranges c.args.treap.now.seen c.range_with.result c.leaf_in-old.result c.requires.whole c.range_with.ensures c.leaf_in-old.ensures c.requires.block c.requires.free in
    let e = c.put_within.ensures.made c.if-not-put_within.false in
    let b : HasBoth c.args.space c.args.first c.args.to c.args.order c.args.treap.now.seen c.put_within.new.treap.seen (record c.leaf_in-old.result { first = c.args.to }) = has-both c.args.space c.args.first c.args.to c.args.order c.args.ranges c.args.treap.now.seen c.put_within.new.treap.seen (record c.leaf_in-old.result { first = c.args.to }) m e in
    record {
      held = b.held;
      named = b.old_named;
    }

pub cut_within-made-requires-clause-held : goal.cut_within-made-requires-clause-held
cut_within-made-requires-clause-held c =
    let m : IsMoving c.args.space c.args.first c.args.to c.args.order c.args.ranges c.args.treap.now.seen (record c.leaf_in-old.result { first = c.args.to }) = moving c.args.space c.args.first c.args.to c.args.order c.args.ranges c.args.treap.now.seen c.range_with.result c.leaf_in-old.result c.requires.whole c.range_with.ensures c.leaf_in-old.ensures c.requires.block c.requires.free in
    let e = c.put_within.ensures.made c.if-not-put_within.false in
    let b : HasBoth c.args.space c.args.first c.args.to c.args.order c.args.treap.now.seen c.put_within.new.treap.seen (record c.leaf_in-old.result { first = c.args.to }) = has-both c.args.space c.args.first c.args.to c.args.order c.args.ranges c.args.treap.now.seen c.put_within.new.treap.seen (record c.leaf_in-old.result { first = c.args.to }) m e in
    b.held

pub range_with-range-requires-then-not-made : goal.range_with-range-requires-then-not-made
range_with-range-requires-then-not-made c =
    let m : IsMoving c.args.space c.args.first c.args.to c.args.order c.args.ranges c.args.treap.now.seen (record c.leaf_in-old.result { first = c.args.to }) = moving c.args.space c.args.first c.args.to c.args.order c.args.ranges c.args.treap.now.seen c.range_with.result c.leaf_in-old.result c.requires.whole c.range_with.ensures c.leaf_in-old.ensures c.requires.block c.requires.free in
    let e = c.put_within.ensures.made c.if-not-put_within.false in
    let s = c.cut_within-made.ensures.same c.if-not-made.true in
    let b : HasBoth c.args.space c.args.first c.args.to c.args.order c.args.treap.now.seen c.cut_within-made.new.treap.seen (record c.leaf_in-old.result { first = c.args.to }) = has-both c.args.space c.args.first c.args.to c.args.order c.args.ranges c.args.treap.now.seen c.cut_within-made.new.treap.seen (record c.leaf_in-old.result { first = c.args.to }) m (s ∙ e) in
    record {
      held = b.held;
      named = b.new_named;
    }

pub cut-requires-clause-held : goal.cut-requires-clause-held
cut-requires-clause-held c =
    let m : IsMoving c.args.space c.args.first c.args.to c.args.order c.args.ranges c.args.treap.now.seen (record c.leaf_in-old.result { first = c.args.to }) = moving c.args.space c.args.first c.args.to c.args.order c.args.ranges c.args.treap.now.seen c.range_with.result c.leaf_in-old.result c.requires.whole c.range_with.ensures c.leaf_in-old.ensures c.requires.block c.requires.free in
    let e = c.put_within.ensures.made c.if-not-put_within.false in
    let s = c.cut_within-made.ensures.same c.if-not-made.true in
    let b : HasBoth c.args.space c.args.first c.args.to c.args.order c.args.treap.now.seen c.cut_within-made.new.treap.seen (record c.leaf_in-old.result { first = c.args.to }) = has-both c.args.space c.args.first c.args.to c.args.order c.args.ranges c.args.treap.now.seen c.cut_within-made.new.treap.seen (record c.leaf_in-old.result { first = c.args.to }) m (s ∙ e) in
    b.held

pub cut-requires-clause-room : goal.cut-requires-clause-room
cut-requires-clause-room c =
    let m : IsMoving c.args.space c.args.first c.args.to c.args.order c.args.ranges c.args.treap.now.seen (record c.leaf_in-old.result { first = c.args.to }) = moving c.args.space c.args.first c.args.to c.args.order c.args.ranges c.args.treap.now.seen c.range_with.result c.leaf_in-old.result c.requires.whole c.range_with.ensures c.leaf_in-old.ensures c.requires.block c.requires.free in
    back-room c.args.space c.args.first c.args.to c.args.order c.args.ranges c.args.treap.now.seen c.put_within.new.treap.seen c.cut_within-made.new.treap.seen (record c.leaf_in-old.result { first = c.args.to }) c.range_with-range-then-not-made.result m (c.put_within.ensures.made c.if-not-put_within.false) (c.cut_within-made.ensures.same c.if-not-made.true) c.range_with-range-then-not-made.ensures

pub returns-then-not-made : goal.returns-then-not-made
returns-then-not-made c =
    let m : IsMoving c.args.space c.args.first c.args.to c.args.order c.args.ranges c.args.treap.now.seen (record c.leaf_in-old.result { first = c.args.to }) = moving c.args.space c.args.first c.args.to c.args.order c.args.ranges c.args.treap.now.seen c.range_with.result c.leaf_in-old.result c.requires.whole c.range_with.ensures c.leaf_in-old.ensures c.requires.block c.requires.free in
    let D : Bool → Type 0 = λ b. IsDone (Relocate c.args.space c.args.first c.args.to c.args.order) c.args.ranges c.args.treap.now.seen b c.cut.new.treap.seen in
    subst D (sym c.if-not-made.true) (move-undone c.args.space c.args.first c.args.to c.args.order c.args.ranges c.args.treap.now.seen c.put_within.new.treap.seen c.cut_within-made.new.treap.seen c.cut.new.treap.seen (record c.leaf_in-old.result { first = c.args.to }) c.range_with-range.result c.range_with-range-then-not-made.result m (c.put_within.ensures.made c.if-not-put_within.false) (sym c.if-not-put_within.false ∙ c.put_within.ensures.test) c.range_with-range.ensures (sym c.if-not-made.true ∙ c.cut_within-made.ensures.test) (c.cut_within-made.ensures.same c.if-not-made.true) c.range_with-range-then-not-made.ensures c.cut.ensures)

pub returns-else-not-made : goal.returns-else-not-made
returns-else-not-made c =
    let m : IsMoving c.args.space c.args.first c.args.to c.args.order c.args.ranges c.args.treap.now.seen (record c.leaf_in-old.result { first = c.args.to }) = moving c.args.space c.args.first c.args.to c.args.order c.args.ranges c.args.treap.now.seen c.range_with.result c.leaf_in-old.result c.requires.whole c.range_with.ensures c.leaf_in-old.ensures c.requires.block c.requires.free in
    let D : Bool → Type 0 = λ b. IsDone (Relocate c.args.space c.args.first c.args.to c.args.order) c.args.ranges c.args.treap.now.seen b c.cut_within-made.new.treap.seen in
    subst D (sym c.if-not-made.false) (move-done c.args.space c.args.first c.args.to c.args.order c.args.ranges c.args.treap.now.seen c.put_within.new.treap.seen c.cut_within-made.new.treap.seen (record c.leaf_in-old.result { first = c.args.to }) c.range_with-range.result m (c.put_within.ensures.made c.if-not-put_within.false) (sym c.if-not-put_within.false ∙ c.put_within.ensures.test) c.range_with-range.ensures (sym c.if-not-made.false ∙ c.cut_within-made.ensures.test) (c.cut_within-made.ensures.made c.if-not-made.false))
