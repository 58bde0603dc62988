use Rattle.xl_machine.proofs.Common.{◌∙◌, ap, Reply}
use Rattle.xl_machine.proofs.StepLemmas.{access-outcome}
use Rattle.xl_model.specs.declared.event.Outcome.TheVariants as outcome
use Rattle.xl_machine.proofs.machine.Machine.step.Goals as goal

pub returns-in-Access-clause-outcome : goal.returns-in-Access-clause-outcome
returns-in-Access-clause-outcome g c =
    rw c.in-Access.is (ap (λ (r : Reply). outcome.Replied r) c.access.ensures.reply_is ∙ access-outcome c.in-Access.va c.in-Access.kind c.args.self.now)
