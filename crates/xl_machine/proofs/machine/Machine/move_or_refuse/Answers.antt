use Rattle.xl_machine.proofs.Common.{◌∙◌}
use Rattle.xl_machine.proofs.StepLemmas.{refused-after, refused-outcome}
use Rattle.xl_model.specs.declared.event.Event.TheVariants as event
use Rattle.xl_machine.proofs.machine.Machine.move_or_refuse.Goals as goal

pub returns-in-Err-clause-outcome : goal.returns-in-Err-clause-outcome
returns-in-Err-clause-outcome g c = c.refuse_event.ensures.outcome ∙ refused-outcome (event.Move c.args.space c.args.from c.args.to c.args.order) c.args.self.now c.in-Err.refusal c.in-Err.ensures.refused

pub returns-in-Err-clause-after : goal.returns-in-Err-clause-after
returns-in-Err-clause-after g c = c.refuse_event.ensures.after ∙ refused-after (event.Move c.args.space c.args.from c.args.to c.args.order) c.args.self.now c.in-Err.refusal c.in-Err.ensures.refused
