use Rattle.xl_harts.proofs.Common.{◌<◌, ◌∙◌, ◌≤◌, arith, length}
use Rattle.xl_harts.proofs.StepLemmas.{hart-after, hart-bad, hart-done, hart-good, refused-after, refused-outcome}
use Rattle.xl_hart_model.specs.declared.hart.HartEvent.TheVariants as step
use Rattle.xl_hart_model.specs.declared.hart.HartRefusal.TheVariants as why
use Rattle.xl_harts.proofs.harts.Harts.choose_or_refuse.Goals as goal

pub returns-then-hart-len-clause-outcome : goal.returns-then-hart-len-clause-outcome
returns-then-hart-len-clause-outcome c =
    let past : length c.args.self.now.harts ≤ c.args.hart = rw (← c.self.view_is) (omega arith) in
    c.refuse.ensures.outcome ∙ refused-outcome (step.Hart c.args.hart) c.args.self.now why.BadHart (hart-bad c.args.self.now c.args.hart past)

pub returns-then-hart-len-clause-after : goal.returns-then-hart-len-clause-after
returns-then-hart-len-clause-after c =
    let past : length c.args.self.now.harts ≤ c.args.hart = rw (← c.self.view_is) (omega arith) in
    c.refuse.ensures.after ∙ refused-after (step.Hart c.args.hart) c.args.self.now why.BadHart (hart-bad c.args.self.now c.args.hart past)

pub returns-clause-outcome : goal.returns-clause-outcome
returns-clause-outcome c =
    let below : c.args.hart < length c.args.self.now.harts = rw (← c.self.view_is) (omega arith) in
    hart-done c.args.self.now c.args.hart (hart-good c.args.self.now c.args.hart below)

pub returns-clause-after : goal.returns-clause-after
returns-clause-after c =
    let below : c.args.hart < length c.args.self.now.harts = rw (← c.self.view_is) (omega arith) in
    c.choose.ensures ∙ hart-after c.args.self.now c.args.hart (hart-good c.args.self.now c.args.hart below)
