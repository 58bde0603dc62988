use Rattle.xl_machine.proofs.Common.{◌∙◌, ◌∷◌, ◌≡◌, [], ap, None, row_of, Served, Some, sym}
use Rattle.xl_machine.proofs.RefusalLemmas.{map-frames, map-overlap, map-place, place-of}
use Rattle.xl_machine.proofs.machine.Machine.map_refusal.Goals as goal

pub returns-in-Some : goal.returns-in-Some
returns-in-Some g c = λ perm.
    let e : row_of c.self.inside.row ≡ c.args.self.now.row = ap (λ (v : Served). v.row) c.self.view_is in
    map-place c.args.self.now c.args.space c.args.order c.args.va perm c.in-Some.refusal
    (place-of (row_of c.self.inside.row) c.args.self.now c.args.space c.args.order (c.args.va ∷ []) c.place_refusal.result (Some c.in-Some.refusal) e c.place_refusal.ensures c.in-Some.is)

pub returns-in-Some-overlap_refusal : goal.returns-in-Some-overlap_refusal
returns-in-Some-overlap_refusal g c = λ perm.
    let e : row_of c.self.inside.row ≡ c.args.self.now.row = ap (λ (v : Served). v.row) c.self.view_is in
    map-overlap c.args.self.now c.args.space c.args.order c.args.va perm c.in-Some-overlap_refusal.refusal
    (place-of (row_of c.self.inside.row) c.args.self.now c.args.space c.args.order (c.args.va ∷ []) c.place_refusal.result None e c.place_refusal.ensures c.in_default.is)
    (sym c.overlap_refusal.ensures ∙ c.in-Some-overlap_refusal.is)

pub returns : goal.returns
returns g c = λ perm.
    let e : row_of c.self.inside.row ≡ c.args.self.now.row = ap (λ (v : Served). v.row) c.self.view_is in
    c.frames_refusal.ensures ∙ map-frames c.args.self.now c.args.space c.args.order c.args.va perm
    (place-of (row_of c.self.inside.row) c.args.self.now c.args.space c.args.order (c.args.va ∷ []) c.place_refusal.result None e c.place_refusal.ensures c.in_default.is)
    (sym c.overlap_refusal.ensures ∙ c.in_default-overlap_refusal.is)
