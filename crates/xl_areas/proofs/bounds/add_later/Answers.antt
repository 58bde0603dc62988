use Rattle.xl_areas.proofs.Common.{◌∙◌, ◌≡◌, ap, slice_set, sym, with_later}
use Rattle.std.proofs.lemmas.List.Edits.{map_over_more}
use Rattle.xl_areas.proofs.bounds.add_later.Goals as goal

pub loop-bound-preserved : goal.loop-bound-preserved
loop-bound-preserved c =
    let add = with_later c.args.area.now in
    let i = c.loop-bound.bound-index in
    let step : c.later.result ≡ add c.bound-item.result = c.later.ensures ∙ ap add (sym c.bound-item.is) in
    ap (slice_set c.loop-bound.bounds i) step ∙ map_over_more add c.args.bounds.now c.loop-bound.bounds i c.bound-item.result c.loop-bound-test.true c.loop-bound.invariant c.bound-item.is
