use Rattle.xl_curve.proofs.Common.{◌<◌, ◌∙◌, ap, arith, get_or, get_or_default, length, map_over_more, moved, set}
use Rattle.xl_curve.proofs.kernel.move_to_front.Goals as goal

pub loop-slot-preserved : goal.loop-slot-preserved
loop-slot-preserved c =
    let old = c.args.ranks.now in
    let ranks = c.loop-slot.ranks in
    let slot = c.loop-slot.slot in
    let l : slot < length old = omega arith in
    let m : slot < length ranks = omega arith in
    ap (set ranks slot) c.rank_after.ensures
    ∙ map_over_more (moved c.args.rank) old ranks slot (get_or ranks slot 0) l c.loop-slot.invariant (get_or_default ranks slot 0 (get_or ranks slot 0) m)
