use Rattle.xl_harts.proofs.Common.{◌∙◌, ◌∷◌, [], ap, HartsState, None, Some, sym}
use Rattle.xl_harts.proofs.RefusalLemmas.{map-frames, map-overlap, map-place, place-of}
use Rattle.xl_harts.proofs.harts.Harts.map_rule.Goals as goal

pub returns-in-Some : goal.returns-in-Some
returns-in-Some c =
    map-place c.args.self.now c.args.space c.args.order c.args.va c.args._perm c.in-Some.refusal
    (place-of c.self.inside.spec c.args.self.now c.args.space c.args.order (c.args.va ∷ []) c.place_refusal.result (Some c.in-Some.refusal) (ap (λ (v : HartsState). v.spec) c.self.view_is) c.place_refusal.ensures c.in-Some.is)

pub returns-in-Some-overlap_refusal : goal.returns-in-Some-overlap_refusal
returns-in-Some-overlap_refusal c =
    map-overlap c.args.self.now c.args.space c.args.order c.args.va c.args._perm c.in-Some-overlap_refusal.refusal
    (place-of c.self.inside.spec c.args.self.now c.args.space c.args.order (c.args.va ∷ []) c.place_refusal.result None (ap (λ (v : HartsState). v.spec) c.self.view_is) c.place_refusal.ensures c.in_default.is)
    (sym c.overlap_refusal.ensures ∙ c.in-Some-overlap_refusal.is)

pub returns : goal.returns
returns c =
    c.frames_refusal.ensures ∙ map-frames c.args.self.now c.args.space c.args.order c.args.va c.args._perm
    (place-of c.self.inside.spec c.args.self.now c.args.space c.args.order (c.args.va ∷ []) c.place_refusal.result None (ap (λ (v : HartsState). v.spec) c.self.view_is) c.place_refusal.ensures c.in_default.is)
    (sym c.overlap_refusal.ensures ∙ c.in_default-overlap_refusal.is)
