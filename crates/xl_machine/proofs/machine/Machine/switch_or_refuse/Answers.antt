use Rattle.xl_machine.proofs.Common.{◌∙◌, ap, row_of, Served}
use Rattle.xl_machine.proofs.StepLemmas.{refused-after, refused-outcome, space-outcome, space-rule}
use Rattle.xl_model.specs.declared.event.Event.TheVariants as event
use Rattle.xl_machine.proofs.machine.Machine.switch_or_refuse.Goals as goal

pub switch-requires : goal.switch-requires
switch-requires g c = space-rule (row_of c.self.inside.row) c.args.self.now c.args.space c.space_refusal.result (ap (λ (v : Served). v.row) c.self.view_is) c.space_refusal.ensures ∙ c.in_default.is

pub returns-in-Some-clause-outcome : goal.returns-in-Some-clause-outcome
returns-in-Some-clause-outcome g c = c.refuse_event.ensures.outcome ∙ refused-outcome (event.Space c.args.space) c.args.self.now c.in-Some.refusal (space-rule (row_of c.self.inside.row) c.args.self.now c.args.space c.space_refusal.result (ap (λ (v : Served). v.row) c.self.view_is) c.space_refusal.ensures ∙ c.in-Some.is)

pub returns-in-Some-clause-after : goal.returns-in-Some-clause-after
returns-in-Some-clause-after g c = c.refuse_event.ensures.after ∙ refused-after (event.Space c.args.space) c.args.self.now c.in-Some.refusal (space-rule (row_of c.self.inside.row) c.args.self.now c.args.space c.space_refusal.result (ap (λ (v : Served). v.row) c.self.view_is) c.space_refusal.ensures ∙ c.in-Some.is)

pub returns-clause-outcome : goal.returns-clause-outcome
returns-clause-outcome g c = space-outcome c.args.space c.args.self.now (space-rule (row_of c.self.inside.row) c.args.self.now c.args.space c.space_refusal.result (ap (λ (v : Served). v.row) c.self.view_is) c.space_refusal.ensures ∙ c.in_default.is)
