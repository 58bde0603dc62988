use Rattle.xl_curve.proofs.Common.{◌∙◌}
use Rattle.xl_curve.proofs.CurveLemmas.{all_hits_known}
use Rattle.xl_curve.proofs.curve.Curve.all_hits.Goals as goal

pub returns : goal.returns
returns c =
    let i = c.self.inside in
    rw (← c.self.view_is) (c.totals.ensures ∙ all_hits_known i.stacks.items i.counts i.lookups)
