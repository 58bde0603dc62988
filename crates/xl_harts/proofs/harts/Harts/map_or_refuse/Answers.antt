use Rattle.xl_harts.proofs.Common.{◌∙◌, sym}
use Rattle.xl_harts.proofs.StepLemmas.{map-done, refused-after, refused-outcome}
use Rattle.xl_hart_model.specs.declared.hart.HartEvent.TheVariants as step
use Rattle.xl_model.specs.declared.event.Event.TheVariants as event
use Rattle.xl_harts.proofs.harts.Harts.map_or_refuse.Goals as goal

pub returns-in-Some-clause-outcome : goal.returns-in-Some-clause-outcome
returns-in-Some-clause-outcome c = c.refuse.ensures.outcome ∙ refused-outcome (step.Own (event.Map c.args.space c.args.va c.args.order c.args.perm)) c.args.self.now c.in-Some.refusal (sym c.map_refusal.ensures ∙ c.in-Some.is)

pub returns-in-Some-clause-after : goal.returns-in-Some-clause-after
returns-in-Some-clause-after c = c.refuse.ensures.after ∙ refused-after (step.Own (event.Map c.args.space c.args.va c.args.order c.args.perm)) c.args.self.now c.in-Some.refusal (sym c.map_refusal.ensures ∙ c.in-Some.is)

pub returns-clause-outcome : goal.returns-clause-outcome
returns-clause-outcome c = map-done c.args.self.now c.args.space c.args.va c.args.order c.args.perm (sym c.map_refusal.ensures ∙ c.in_default.is)
