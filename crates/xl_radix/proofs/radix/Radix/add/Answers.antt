use Rattle.xl_radix.proofs.Common.{◌-◌, ◌<◌, ◌≡◌, ◌≤◌, arith, false, nat_le, nat_tests, refl, sym, Table, true, ℕ}
use Rattle.xl_radix.proofs.LookLemmas.{room-is}
use Rattle.xl_radix.proofs.ShapeLemmas.{shape-added}
use Rattle.xl_radix.proofs.radix.Radix.add.Goals as goal

too-many : (k free have lack : ℕ) → lack ≡ k → free ≡ have → free < lack → nat_le k have ≡ false
too-many k free have lack e f h = grind (arith, nat_tests)

enough : (k free have lack : ℕ) → lack ≡ k → free ≡ have → lack ≤ free → nat_le k have ≡ true
enough k free have lack e f h = grind (arith, nat_tests)

pub returns-then-lacking-self-clause-answer : goal.returns-then-lacking-self-clause-answer
returns-then-lacking-self-clause-answer g c =
    let e = c.level.ensures in
    let end = c.end_for-end.ensures.end in
    let i = c.self.inside in
    let t : Table = record { leaves = i.store.leaves; nodes = i.store.nodes; words = i.store.words; spaces = i.store.spaces; loads = i.loads } in
    rw (← c.self.view_is) (sym (room-is g.row.LEVELS _ c.args.leaf t false end.lacks (too-many _ c.self.inside.free _ (c.end_for-end.result.level - c.level.result) (rw e refl) c.self.invariant.1 c.if-lacking-self.true)))

pub returns-clause-answer : goal.returns-clause-answer
returns-clause-answer g c =
    let e = c.level.ensures in
    let end = c.end_for-end.ensures.end in
    let i = c.self.inside in
    let t : Table = record { leaves = i.store.leaves; nodes = i.store.nodes; words = i.store.words; spaces = i.store.spaces; loads = i.loads } in
    rw (← c.self.view_is) (sym (room-is g.row.LEVELS _ c.args.leaf t true end.lacks (enough _ c.self.inside.free _ (c.end_for-end.result.level - c.level.result) (rw e refl) c.self.invariant.1 c.if-lacking-self.false)))

pub returns-clause-shape : goal.returns-clause-shape
returns-clause-shape g c =
    let i = c.self.inside in
    let p = c.add_leaf.new.self in
    let h = shape-added g.row.LEVELS i.store.spaces c.args.leaf i.store.leaves p.leaves i.store.nodes p.nodes c.add_leaf.ensures.exact c.add_leaf.ensures.leaves c.add_leaf.ensures.nodes in
    rw (← c.self.view_is, c.add_leaf.ensures.spaces) h
