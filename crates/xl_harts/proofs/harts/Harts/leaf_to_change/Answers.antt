use Rattle.xl_harts.proofs.Common.{◌∷◌, ◌≡◌, [], ap, HartsState, None, place_rule, shared_row, Some}
use Rattle.xl_harts.proofs.RefusalLemmas.{place-of, unmap-place, unmap-there}
use Rattle.xl_harts.proofs.harts.Harts.leaf_to_change.Goals as goal

pub returns-in-Some-clause-refused : goal.returns-in-Some-clause-refused
returns-in-Some-clause-refused c =
    unmap-place c.args.self.now c.args.space c.args.order c.args.va c.in-Some.refusal
    (place-of c.self.inside.spec c.args.self.now c.args.space c.args.order (c.args.va ∷ []) c.place_refusal.result (Some c.in-Some.refusal) (ap (λ (v : HartsState). v.spec) c.self.view_is) c.place_refusal.ensures c.in-Some.is)

pub returns-clause-refused : goal.returns-clause-refused
returns-clause-refused c =
    let place : place_rule (shared_row c.args.self.now.spec) c.args.space c.args.order (c.args.va ∷ []) ≡ None =
    place-of c.self.inside.spec c.args.self.now c.args.space c.args.order (c.args.va ∷ []) c.place_refusal.result None (ap (λ (v : HartsState). v.spec) c.self.view_is) c.place_refusal.ensures c.in_default.is in
    rw (unmap-there c.args.self.now c.args.space c.args.order c.args.va place) c.leaf_named.ensures.refused

pub returns-clause-allowed : goal.returns-clause-allowed
returns-clause-allowed c =
    let place : place_rule (shared_row c.args.self.now.spec) c.args.space c.args.order (c.args.va ∷ []) ≡ None =
    place-of c.self.inside.spec c.args.self.now c.args.space c.args.order (c.args.va ∷ []) c.place_refusal.result None (ap (λ (v : HartsState). v.spec) c.self.view_is) c.place_refusal.ensures c.in_default.is in
    rw (unmap-there c.args.self.now c.args.space c.args.order c.args.va place) c.leaf_named.ensures.allowed
