use Rattle.xl_harts.proofs.Common.{◌∙◌, ap, Reply, sym}
use Rattle.xl_harts.proofs.AccessLemmas.{access-event}
use Rattle.xl_harts.proofs.StepLemmas.{access-done}
use Rattle.xl_hart_model.specs.declared.hart.HartOutcome.TheVariants as outcome
use Rattle.xl_harts.proofs.harts.Harts.command.Goals as goal

pub returns-in-Access-clause-outcome : goal.returns-in-Access-clause-outcome
returns-in-Access-clause-outcome c =
    rw c.in-Access.is (ap (λ (r : Reply). outcome.Replied r) c.access.ensures.reply ∙ access-done c.args.self.now c.in-Access.va c.in-Access.kind)

pub returns-in-Access-clause-after : goal.returns-in-Access-clause-after
returns-in-Access-clause-after c = rw c.in-Access.is (c.access.ensures.after ∙ sym (access-event c.args.self.now c.in-Access.va c.in-Access.kind))
