use Rattle.xl_radix.proofs.Common.{◌∙◌}
use Rattle.xl_radix.proofs.ShiftLemmas.{room-moved}
use Rattle.xl_radix.proofs.radix.Radix.has_room_to.Goals as goal

pub returns : goal.returns
returns g c =
    c.has_room.ensures
    ∙ room-moved g.row.LEVELS c.args.space c.args.first c.args.to c.args.order c.moved-moved.result c.args.self.now c.moved-moved.ensures
