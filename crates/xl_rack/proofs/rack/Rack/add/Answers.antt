use Rattle.xl_rack.proofs.Common.{◌++◌, ◌∙◌, ◌∷◌, [], All-push, ap, arith, IsNamed, List, map, map-append, opened, row_of, Served, served_of}
use Rattle.xl_rack.proofs.rack.Rack.add.Goals as goal

pub invariant_of-self : goal.invariant_of-self
invariant_of-self c =
    let room = c.self.invariant.0 in
    let kept = c.push.ensures.capacity in
    (grind arith, rw c.in-Ok.ensures.items (All-push IsNamed c.self.inside.slots.items c.in_ok-slot.slot c.self.invariant.1 c.in_ok-slot.ensures.named))

pub returns-clause-added : goal.returns-clause-added
returns-clause-added c =
    let old = c.self.inside.slots.items in
    ap (map served_of) c.in-Ok.ensures.items ∙ map-append served_of old (c.in_ok-slot.slot ∷ [])
    ∙ ap (λ (v : Served). map served_of old ++ v ∷ []) c.in_ok-slot.ensures.served ∙ ap (λ (vs : List Served). vs ++ opened (row_of c.args.row) ∷ []) c.self.view_is
