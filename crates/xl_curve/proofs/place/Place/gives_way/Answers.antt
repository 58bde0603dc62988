use Rattle.xl_curve.proofs.Common.{◌∙◌, ap, leaf_in, not, same_leaf, sym}
use Rattle.xl_curve.proofs.KernelLemmas.{hole_stays, solid_gives}
use Rattle.xl_curve.proofs.place.Place.gives_way.Goals as goal

pub returns-then-is_hole : goal.returns-then-is_hole
returns-then-is_hole c = hole_stays (same_leaf (leaf_in c.args.leaf)) c.args.self (sym c.is_hole.ensures ∙ c.if-is_hole.true)

pub returns : goal.returns
returns c = ap not c.is_same.ensures.same ∙ solid_gives (same_leaf (leaf_in c.args.leaf)) c.args.self (sym c.is_hole.ensures ∙ c.if-is_hole.false)
