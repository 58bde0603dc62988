use Rattle.xl_lackey.proofs.Common.{List, Runs, subst, take_rest, ℕ}
use Rattle.xl_lackey.proofs.SkimLemmas.{runs_then}
use Rattle.xl_lackey.proofs.skim.skim_some.Goals as goal

pub returns-clause-runs : goal.returns-clause-runs
returns-clause-runs c =
    let text = c.args.text.now in
    let kept = c.skim_kept-kept.result in
    let more = c.skim_plain.result in
    let first = c.skim_kept-kept.new.self.items in
    let last = c.skim_plain.new.self.items in
    let plain = subst (λ (t : List ℕ). Runs t first last more) (take_rest text kept.used) c.skim_plain.ensures.runs in
    rw c.then.ensures (runs_then text c.args.into.now.items first last kept more c.skim_kept-kept.ensures.runs plain)
