use Rattle.xl_harts.proofs.Common.{has-frames, kept_leaves, no-frames, row_table, state_of, sym}
use Rattle.xl_harts.proofs.harts.Harts.frames_refusal.Goals as goal

pub returns-then-can_take : goal.returns-then-can_take
returns-then-can_take c =
    let i = c.self.inside in
    rw (← c.self.view_is) (sym (has-frames i.spec.frames c.args.order (kept_leaves (state_of i.spec (row_table 3 i.table) i.requests.items i.harts.items i.current i.accepted i.refused)) i.frames c.self.invariant.pool_is c.if-can_take.ensures.yes))

pub returns : goal.returns
returns c =
    let i = c.self.inside in
    rw (← c.self.view_is) (sym (no-frames i.spec.frames c.args.order (kept_leaves (state_of i.spec (row_table 3 i.table) i.requests.items i.harts.items i.current i.accepted i.refused)) i.frames c.self.invariant.pool_is c.if-can_take.ensures.no))
