use Rattle.xl_harts.proofs.Common.{◌∙◌, ap, HartsState, None, Some}
use Rattle.xl_harts.proofs.StepLemmas.{refused-after, refused-outcome, space-after, space-done, space-known, space-none, space-refused}
use Rattle.xl_hart_model.specs.declared.hart.HartEvent.TheVariants as step
use Rattle.xl_hart_model.specs.declared.hart.HartRefusal.TheVariants as why
use Rattle.xl_model.specs.declared.event.Event.TheVariants as event
use Rattle.xl_harts.proofs.harts.Harts.switch_or_refuse.Goals as goal

pub returns-in-Some-clause-outcome : goal.returns-in-Some-clause-outcome
returns-in-Some-clause-outcome c =
    let known = space-known c.self.inside.spec c.args.self.now c.args.space c.space_refusal.result (Some c.in-Some.refusal) (ap (λ (v : HartsState). v.spec) c.self.view_is) c.space_refusal.ensures c.in-Some.is in
    c.refuse.ensures.outcome ∙ refused-outcome (step.Own (event.Space c.args.space)) c.args.self.now (why.Mapping c.in-Some.refusal) (space-refused c.args.self.now c.args.space c.in-Some.refusal known)

pub returns-in-Some-clause-after : goal.returns-in-Some-clause-after
returns-in-Some-clause-after c =
    let known = space-known c.self.inside.spec c.args.self.now c.args.space c.space_refusal.result (Some c.in-Some.refusal) (ap (λ (v : HartsState). v.spec) c.self.view_is) c.space_refusal.ensures c.in-Some.is in
    c.refuse.ensures.after ∙ refused-after (step.Own (event.Space c.args.space)) c.args.self.now (why.Mapping c.in-Some.refusal) (space-refused c.args.self.now c.args.space c.in-Some.refusal known)

pub returns-clause-outcome : goal.returns-clause-outcome
returns-clause-outcome c =
    let known = space-known c.self.inside.spec c.args.self.now c.args.space c.space_refusal.result None (ap (λ (v : HartsState). v.spec) c.self.view_is) c.space_refusal.ensures c.in_default.is in
    space-done c.args.self.now c.args.space (space-none c.args.self.now c.args.space known)

pub returns-clause-after : goal.returns-clause-after
returns-clause-after c =
    let known = space-known c.self.inside.spec c.args.self.now c.args.space c.space_refusal.result None (ap (λ (v : HartsState). v.spec) c.self.view_is) c.space_refusal.ensures c.in_default.is in
    c.switch.ensures ∙ space-after c.args.self.now c.args.space (space-none c.args.self.now c.args.space known)
