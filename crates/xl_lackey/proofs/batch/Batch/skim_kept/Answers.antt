use Rattle.xl_lackey.proofs.Common.{◌+◌, Access, ap, Gathered, List, Runs, subst, take}
use Rattle.xl_lackey.proofs.batch.Batch.skim_kept.Goals as goal

pub returns-clause-runs : goal.returns-clause-runs
returns-clause-runs c =
    let run = c.skim_kept-run.result in
    let after : List Access = take (c.self.inside.len + run.taken) c.skim_kept-run.new.slots in
    subst (λ (xs : List Access). Runs c.args.text.now xs after run) (ap (λ (g : Gathered). g.items) c.self.view_is) c.skim_kept-run.ensures.runs
