use Rattle.xl_machine.proofs.Common.{◌∙◌, sym}
use Rattle.xl_machine.proofs.StepLemmas.{refused-after, refused-outcome}
use Rattle.xl_model.specs.declared.event.Event.TheVariants as event
use Rattle.xl_machine.proofs.machine.Machine.map_or_refuse.Goals as goal

pub map-requires : goal.map-requires
map-requires g c = sym (c.map_refusal.ensures c.args.perm) ∙ c.in-None.is

pub returns-in-Some-clause-outcome : goal.returns-in-Some-clause-outcome
returns-in-Some-clause-outcome g c = c.refuse_event.ensures.outcome ∙ refused-outcome (event.Map c.args.space c.args.va c.args.order c.args.perm) c.args.self.now c.in-Some.refusal (sym (c.map_refusal.ensures c.args.perm) ∙ c.in-Some.is)

pub returns-in-Some-clause-after : goal.returns-in-Some-clause-after
returns-in-Some-clause-after g c = c.refuse_event.ensures.after ∙ refused-after (event.Map c.args.space c.args.va c.args.order c.args.perm) c.args.self.now c.in-Some.refusal (sym (c.map_refusal.ensures c.args.perm) ∙ c.in-Some.is)
