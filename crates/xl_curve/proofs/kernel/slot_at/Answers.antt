use Rattle.xl_curve.proofs.Common.{◌<◌}
use Rattle.xl_curve.proofs.RankLemmas.{slot_below}
use Rattle.xl_curve.proofs.kernel.slot_at.Goals as goal

pub returns : goal.returns
returns c =
    let within : c.first_of.result < 64 = slot_below c.args.ranks.now c.args.rank c.first_of.result (c.requires.ranks c.args.rank c.requires.rank) c.first_of.ensures.passed in
    record { within = within; first = record { is = c.first_of.ensures.there within; others = c.first_of.ensures.passed } }
