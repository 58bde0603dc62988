-- What a table takes stays the same, at each call and in every run.
use Rattle.xl_model_laws.proofs.Common.{◌∙◌, levels_of, limits-changed, limits-fenced, limits-walked, opening, opening_shape, refl, Shape, shape-same, shape_after, widened, widened-same}
use Rattle.xl_model_lemmas.specs.Limits.{SameLimits}
use Rattle.xl_model_laws.proofs.ShapeLemmas.{run-shape}
use Rattle.xl_model_laws.specs.Limits.{EachCallKeepsTheLimits, TheLimitsStay}

pub each_call_keeps_the_limits : EachCallKeepsTheLimits
each_call_keeps_the_limits t = (λ c. limits-changed c t, λ space page. limits-walked space page t, λ to. limits-fenced to t)

on : (a b c : Shape) → SameLimits a b → SameLimits b c → SameLimits a c
on a b c h k = record { spaces = k.spaces ∙ h.spaces; pages = k.pages ∙ h.pages }

pub the_limits_stay : TheLimitsStay
unfolding opening
the_limits_stay row items =
    let first : Shape = opening_shape (levels_of row.mode) row.spaces row.table in
    run-shape (λ s. SameLimits first s) (record {
      made = λ c leaves shape h. on first shape (shape_after c leaves shape) h (shape-same c leaves shape);
      refused = λ leaf shape h. on first shape (widened leaf shape) h (widened-same leaf shape);
    }) row (record { spaces = refl; pages = refl }) items
