use Rattle.xl_radix.proofs.Common.{◌-◌, ◌≡◌, nat_le, refl, sym, Table, ℕ}
use Rattle.xl_radix.proofs.LookLemmas.{room-is}
use Rattle.xl_radix.proofs.radix.Radix.has_room.Goals as goal

same_test : (k free have lack : ℕ) → lack ≡ k → free ≡ have → nat_le k have ≡ nat_le lack free
same_test k free have lack e f = rw (e, f) refl

pub returns : goal.returns
returns g c =
    let e = c.level.ensures in
    let end = c.end_for-end.ensures.end in
    let i = c.self.inside in
    let t : Table = record { leaves = i.store.leaves; nodes = i.store.nodes; words = i.store.words; spaces = i.store.spaces; loads = i.loads } in
    rw (← c.self.view_is) (sym (room-is g.row.LEVELS _ c.args.leaf t _ end.lacks (same_test _ c.self.inside.free _ (c.end_for-end.result.level - c.level.result) (rw e refl) c.self.invariant.1)))
