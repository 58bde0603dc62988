use Rattle.xl_lackey.proofs.Common.{ap, arith, List, Run, Runs, subst, take_rest, ℕ}
use Rattle.xl_lackey.proofs.SkimLemmas.{runs_none, runs_then}
use Rattle.xl_lackey.proofs.skim.skim_lines.Goals as goal

pub skim-init : goal.skim-init
skim-init c = record { runs = runs_none c.args.text.now c.args.into.now.items; few = omega arith }

pub skim-preserved : goal.skim-preserved
skim-preserved c =
    let text = c.args.text.now in
    let old = c.skim.run in
    let more = c.skim_some-more.result in
    let new = subst (λ (t : List ℕ). Runs t c.skim.into.items c.skim_some-more.new.into.items more) (take_rest text old.used) c.skim_some-more.ensures.runs in
    let sum = ap (λ (r : Run). r.taken) c.then-run.ensures in record {
      runs = rw c.then-run.ensures (runs_then text c.args.into.now.items c.skim.into.items c.skim_some-more.new.into.items old more c.skim.invariant.runs new);
      few = omega (arith, sum, c.skim_some-more.ensures.few, c.skim.invariant.few);
    }

pub returns-clause-runs : goal.returns-clause-runs
returns-clause-runs c =
    let text = c.args.text.now in
    let old = c.skim.run in
    let more = c.skim_some-more.result in
    let new = subst (λ (t : List ℕ). Runs t c.skim.into.items c.skim_some-more.new.into.items more) (take_rest text old.used) c.skim_some-more.ensures.runs in
    rw c.then-run.ensures (runs_then text c.args.into.now.items c.skim.into.items c.skim_some-more.new.into.items old more c.skim.invariant.runs new)
