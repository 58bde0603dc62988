use Rattle.xl_machine.proofs.Common.{◌∷◌, ◌≡◌, [], ap, None, place_rule, row_of, Served, Some}
use Rattle.xl_machine.proofs.RefusalLemmas.{place-of, unmap-place, unmap-there}
use Rattle.xl_machine.proofs.machine.Machine.leaf_to_change.Goals as goal

pub returns-in-Some-clause-refused : goal.returns-in-Some-clause-refused
returns-in-Some-clause-refused g c =
    let place : place_rule c.args.self.now.row c.args.space c.args.order (c.args.va ∷ []) ≡ Some c.in-Some.refusal =
    place-of (row_of c.self.inside.row) c.args.self.now c.args.space c.args.order (c.args.va ∷ []) c.place_refusal.result (Some c.in-Some.refusal) (ap (λ (v : Served). v.row) c.self.view_is) c.place_refusal.ensures c.in-Some.is in
    unmap-place c.args.self.now c.args.space c.args.order c.args.va c.in-Some.refusal place

pub returns-clause-refused : goal.returns-clause-refused
returns-clause-refused g c =
    let place : place_rule c.args.self.now.row c.args.space c.args.order (c.args.va ∷ []) ≡ None =
    place-of (row_of c.self.inside.row) c.args.self.now c.args.space c.args.order (c.args.va ∷ []) c.place_refusal.result None (ap (λ (v : Served). v.row) c.self.view_is) c.place_refusal.ensures c.in_default.is in
    rw (unmap-there c.args.self.now c.args.space c.args.order c.args.va place) c.leaf_named.ensures.refused

pub returns-clause-allowed : goal.returns-clause-allowed
returns-clause-allowed g c =
    let place : place_rule c.args.self.now.row c.args.space c.args.order (c.args.va ∷ []) ≡ None =
    place-of (row_of c.self.inside.row) c.args.self.now c.args.space c.args.order (c.args.va ∷ []) c.place_refusal.result None (ap (λ (v : Served). v.row) c.self.view_is) c.place_refusal.ensures c.in_default.is in
    rw (unmap-there c.args.self.now c.args.space c.args.order c.args.va place) c.leaf_named.ensures.allowed
