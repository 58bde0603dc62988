use Rattle.xl_lackey.proofs.Common.{Access, ap, Gathered, List, Runs, subst, take}
use Rattle.xl_lackey.proofs.batch.Batch.skim_plain.Goals as goal

pub returns-clause-runs : goal.returns-clause-runs
returns-clause-runs c =
    let plain = c.skim_plain-plain.result in
    let after : List Access = take plain.len c.skim_plain-plain.new.slots in
    subst (λ (xs : List Access). Runs c.args.text.now xs after plain.run) (ap (λ (g : Gathered). g.items) c.self.view_is) c.skim_plain-plain.ensures.runs
