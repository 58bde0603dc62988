use Rattle.xl_harts.proofs.Common.{◌∙◌, ◌∷◌, ◌≡◌, [], ap, HartsState, None, place_rule, shared_row, Some, sym}
use Rattle.xl_harts.proofs.RefusalLemmas.{is-error, move-overlap, move-place, move-there, place-of}
use Rattle.xl_harts.proofs.harts.Harts.leaf_to_move.Goals as goal

pub returns-in-Some-clause-refused : goal.returns-in-Some-clause-refused
returns-in-Some-clause-refused c =
    move-place c.args.self.now c.args.space c.args.order c.args.from c.args.to c.in-Some.refusal
    (place-of c.self.inside.spec c.args.self.now c.args.space c.args.order (c.args.from ∷ c.args.to ∷ []) c.places_refusal.result (Some c.in-Some.refusal) (ap (λ (v : HartsState). v.spec) c.self.view_is) c.places_refusal.ensures c.in-Some.is)

pub returns-in_err-leaf-clause-refused : goal.returns-in_err-leaf-clause-refused
returns-in_err-leaf-clause-refused c =
    let place : place_rule (shared_row c.args.self.now.spec) c.args.space c.args.order (c.args.from ∷ c.args.to ∷ []) ≡ None =
    place-of c.self.inside.spec c.args.self.now c.args.space c.args.order (c.args.from ∷ c.args.to ∷ []) c.places_refusal.result None (ap (λ (v : HartsState). v.spec) c.self.view_is) c.places_refusal.ensures c.in_default.is in
    rw (is-error c.from_residual.result c.in_err-leaf.field-0.0 c.from_residual.ensures.1)
    (move-there c.args.self.now c.args.space c.args.order c.args.from c.args.to c.in_err-leaf.field-0.0 place c.in_err-leaf.ensures.refused)

pub returns-in-Some-overlap_refusal-clause-refused : goal.returns-in-Some-overlap_refusal-clause-refused
returns-in-Some-overlap_refusal-clause-refused c =
    let place : place_rule (shared_row c.args.self.now.spec) c.args.space c.args.order (c.args.from ∷ c.args.to ∷ []) ≡ None =
    place-of c.self.inside.spec c.args.self.now c.args.space c.args.order (c.args.from ∷ c.args.to ∷ []) c.places_refusal.result None (ap (λ (v : HartsState). v.spec) c.self.view_is) c.places_refusal.ensures c.in_default.is in
    move-overlap c.args.self.now c.args.space c.args.order c.args.from c.args.to place c.in_ok-leaf.ensures.allowed ∙ sym c.overlap_refusal.ensures ∙ c.in-Some-overlap_refusal.is

pub returns-clause-allowed : goal.returns-clause-allowed
returns-clause-allowed c =
    let place : place_rule (shared_row c.args.self.now.spec) c.args.space c.args.order (c.args.from ∷ c.args.to ∷ []) ≡ None =
    place-of c.self.inside.spec c.args.self.now c.args.space c.args.order (c.args.from ∷ c.args.to ∷ []) c.places_refusal.result None (ap (λ (v : HartsState). v.spec) c.self.view_is) c.places_refusal.ensures c.in_default.is in
    move-overlap c.args.self.now c.args.space c.args.order c.args.from c.args.to place c.in_ok-leaf.ensures.allowed ∙ sym c.overlap_refusal.ensures ∙ c.in_default-overlap_refusal.is
