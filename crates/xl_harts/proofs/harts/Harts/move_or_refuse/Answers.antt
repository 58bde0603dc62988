use Rattle.xl_harts.proofs.Common.{◌∙◌}
use Rattle.xl_harts.proofs.StepLemmas.{move-done, refused-after, refused-outcome}
use Rattle.xl_hart_model.specs.declared.hart.HartEvent.TheVariants as step
use Rattle.xl_model.specs.declared.event.Event.TheVariants as event
use Rattle.xl_harts.proofs.harts.Harts.move_or_refuse.Goals as goal

pub returns-in-Ok-clause-outcome : goal.returns-in-Ok-clause-outcome
returns-in-Ok-clause-outcome c = move-done c.args.self.now c.args.space c.args.from c.args.to c.args.order c.in-Ok.ensures.allowed

pub returns-in-Err-clause-outcome : goal.returns-in-Err-clause-outcome
returns-in-Err-clause-outcome c = c.refuse.ensures.outcome ∙ refused-outcome (step.Own (event.Move c.args.space c.args.from c.args.to c.args.order)) c.args.self.now c.in-Err.refusal c.in-Err.ensures.refused

pub returns-in-Err-clause-after : goal.returns-in-Err-clause-after
returns-in-Err-clause-after c = c.refuse.ensures.after ∙ refused-after (step.Own (event.Move c.args.space c.args.from c.args.to c.args.order)) c.args.self.now c.in-Err.refusal c.in-Err.ensures.refused
