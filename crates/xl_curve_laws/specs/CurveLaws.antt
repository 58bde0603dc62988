-- The curve of a row's run: each of its points is what one array of that width counts.
use Rattle.std.specs.Prelude.{ℕ, ◌≡◌, ◌<◌, ◌≤◌, List, [], ◌∷◌, slice_index_or}
use Rattle.xl_model.specs.declared.script.Item.{Item}
use Rattle.xl_curve_model.specs.Curves.{hits_at, spec_of_width}
use Rattle.xl_curve_model.specs.CurveRun.{curve_of_run}
use Rattle.xl_model.specs.Items.{run}
use Rattle.xl_model.specs.Rows.{Row}

-- The row with one array in place of its own: of this width, at level 1, of all orders.
abbrev pub with_array : ℕ → ℕ → Row → Row
with_array sets width row = record row { tlb = spec_of_width sets width ∷ [] }

-- The hits at a width are those that the row has whose one array has that width.
abbrev pub TheCurveIsThatOfEachWidth : Type 0
TheCurveIsThatOfEachWidth =
    (row : Row) (sets width : ℕ) (items : List Item) → 0 < width → width ≤ 64
    → hits_at width (curve_of_run row sets items)
    ≡ slice_index_or (run (with_array sets width row) items).counts.hits 0 0
