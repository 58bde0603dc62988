use Rattle.xl_machine.proofs.Common.{◌∙◌}
use Rattle.xl_machine.proofs.StepLemmas.{protect-rule, refused-after, refused-outcome}
use Rattle.xl_model.specs.declared.event.Event.TheVariants as event
use Rattle.xl_machine.proofs.machine.Machine.protect_or_refuse.Goals as goal

pub protect-requires-clause-ruled : goal.protect-requires-clause-ruled
protect-requires-clause-ruled g c = protect-rule c.args.self.now c.args.space c.args.va c.args.order c.args.perm ∙ c.in-Ok.ensures.allowed

pub returns-in-Err-clause-outcome : goal.returns-in-Err-clause-outcome
returns-in-Err-clause-outcome g c = c.refuse_event.ensures.outcome ∙ refused-outcome (event.Protect c.args.space c.args.va c.args.order c.args.perm) c.args.self.now c.in-Err.refusal (protect-rule c.args.self.now c.args.space c.args.va c.args.order c.args.perm ∙ c.in-Err.ensures.refused)

pub returns-in-Err-clause-after : goal.returns-in-Err-clause-after
returns-in-Err-clause-after g c = c.refuse_event.ensures.after ∙ refused-after (event.Protect c.args.space c.args.va c.args.order c.args.perm) c.args.self.now c.in-Err.refusal (protect-rule c.args.self.now c.args.space c.args.va c.args.order c.args.perm ∙ c.in-Err.ensures.refused)
