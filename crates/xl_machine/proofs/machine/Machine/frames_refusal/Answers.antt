use Rattle.xl_machine.proofs.Common.{has-frames, no-frames, row_of, sym}
use Rattle.xl_machine.proofs.machine.Machine.frames_refusal.Goals as goal

pub returns-then-can_take : goal.returns-then-can_take
returns-then-can_take g c =
    rw (← c.self.view_is) (sym (has-frames (row_of c.self.inside.row).frames c.args.order (g.S.Structure.table c.self.inside.table).leaves c.self.inside.frames c.self.invariant.served.pool_is c.if-can_take.ensures.yes))

pub returns : goal.returns
returns g c =
    rw (← c.self.view_is) (sym (no-frames (row_of c.self.inside.row).frames c.args.order (g.S.Structure.table c.self.inside.table).leaves c.self.inside.frames c.self.invariant.served.pool_is c.if-can_take.ensures.no))
