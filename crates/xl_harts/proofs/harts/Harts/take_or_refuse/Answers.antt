use Rattle.xl_harts.proofs.Common.{◌∙◌, sym}
use Rattle.xl_harts.proofs.StepLemmas.{refused-after, refused-outcome, take-done}
use Rattle.xl_hart_model.specs.declared.hart.HartEvent.TheVariants as step
use Rattle.xl_harts.proofs.harts.Harts.take_or_refuse.Goals as goal

pub returns-in-Some-clause-outcome : goal.returns-in-Some-clause-outcome
returns-in-Some-clause-outcome c = c.refuse.ensures.outcome ∙ refused-outcome (step.Take c.args.hart) c.args.self.now c.in-Some.refusal (sym c.take_refusal.ensures ∙ c.in-Some.is)

pub returns-in-Some-clause-after : goal.returns-in-Some-clause-after
returns-in-Some-clause-after c = c.refuse.ensures.after ∙ refused-after (step.Take c.args.hart) c.args.self.now c.in-Some.refusal (sym c.take_refusal.ensures ∙ c.in-Some.is)

pub returns-clause-outcome : goal.returns-clause-outcome
returns-clause-outcome c = take-done c.args.self.now c.args.hart (sym c.take_refusal.ensures ∙ c.in_default.is)
