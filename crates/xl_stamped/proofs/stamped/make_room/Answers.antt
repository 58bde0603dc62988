use Rattle.xl_stamped.proofs.Common.{◌∙◌, ap, newest_first}
use Rattle.xl_stamped.proofs.RankLemmas.{renumbered_same, stamps_renumbered}
use Rattle.xl_stamped.proofs.stamped.make_room.Goals as goal

pub returns-clause-same : goal.returns-clause-same
returns-clause-same c = ap newest_first c.renumber.ensures ∙ renumbered_same c.args.places.now

pub returns-clause-stamps : goal.returns-clause-stamps
returns-clause-stamps c = rw (c.renumber.ensures) (stamps_renumbered c.args.places.now c.args.last.now c.requires.stamps)
