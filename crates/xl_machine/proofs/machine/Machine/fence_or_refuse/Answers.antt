use Rattle.xl_machine.proofs.Common.{◌∙◌, ap, row_of, Served}
use Rattle.xl_machine.proofs.StepLemmas.{fence-outcome, fence-rule, refused-after, refused-outcome}
use Rattle.xl_model.specs.declared.event.Event.TheVariants as event
use Rattle.xl_machine.proofs.machine.Machine.fence_or_refuse.Goals as goal

pub fence-requires : goal.fence-requires
fence-requires g c = fence-rule (row_of c.self.inside.row) c.args.self.now c.args.scope c.fence_refusal.result (ap (λ (v : Served). v.row) c.self.view_is) c.fence_refusal.ensures ∙ c.in_default.is

pub returns-in-Some-clause-outcome : goal.returns-in-Some-clause-outcome
returns-in-Some-clause-outcome g c = c.refuse_event.ensures.outcome ∙ refused-outcome (event.Fence c.args.scope) c.args.self.now c.in-Some.refusal (fence-rule (row_of c.self.inside.row) c.args.self.now c.args.scope c.fence_refusal.result (ap (λ (v : Served). v.row) c.self.view_is) c.fence_refusal.ensures ∙ c.in-Some.is)

pub returns-in-Some-clause-after : goal.returns-in-Some-clause-after
returns-in-Some-clause-after g c = c.refuse_event.ensures.after ∙ refused-after (event.Fence c.args.scope) c.args.self.now c.in-Some.refusal (fence-rule (row_of c.self.inside.row) c.args.self.now c.args.scope c.fence_refusal.result (ap (λ (v : Served). v.row) c.self.view_is) c.fence_refusal.ensures ∙ c.in-Some.is)

pub returns-clause-outcome : goal.returns-clause-outcome
returns-clause-outcome g c = fence-outcome c.args.scope c.args.self.now (fence-rule (row_of c.self.inside.row) c.args.self.now c.args.scope c.fence_refusal.result (ap (λ (v : Served). v.row) c.self.view_is) c.fence_refusal.ensures ∙ c.in_default.is)
