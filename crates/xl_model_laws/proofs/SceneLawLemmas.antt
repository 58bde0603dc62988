-- Laws of all rows together.
use Rattle.xl_model_laws.proofs.Common.{◌∙◌, ◌∷◌, ◌≡◌, [], ap, Area, areas_after, Bool, false, Item, List, opening, refl, Row, run, state_after, states_after, sym}
use Rattle.xl_model.specs.Scenes.{Live, live_after, lives_after, opened, opening_scene, rows_after, scene_after, scenes_after, Served, unprinted}
use Rattle.xl_model_lemmas.proofs.SceneLemmas.{lives-append, lives-printed, printed-append, scene-is}
use Rattle.xl_model_laws.specs.Scenes.{EachRowRunsByItself, ItemsMayBeServedInParts, PrintingChangesNoRow, ran_by, rows_by, ThePrintedTextOnlyGrows, WhatIsPrintedFirstIsFirst}

-- each row is served by itself
none-by : (areas : List Area) (rows : List Served) → rows_by [] areas rows ≡ rows
none-by areas [] = refl
none-by areas (r ∷ rows) = ap (λ (rest : List Served). r ∷ rest) (none-by areas rows)

more-by : (item : Item) (items : List Item) (areas : List Area) (rows : List Served) → rows_by items (areas_after item areas) (rows_after item areas rows) ≡ rows_by (item ∷ items) areas rows
more-by item items areas [] = refl
more-by item items areas (r ∷ rows) =
    ap (λ (rest : List Served). record r { state = states_after r.row items (areas_after item areas) (state_after r.row item areas r.state) } ∷ rest) (more-by item items areas rows)

pub rows-alone : (answers : Bool) (items : List Item) (l : Live) → (lives_after answers items l).scene.rows ≡ rows_by items l.scene.areas l.scene.rows
unfolding scene_after
rows-alone answers [] l = sym (none-by l.scene.areas l.scene.rows)
rows-alone answers (i ∷ items) l = rows-alone answers items (live_after answers i l) ∙ more-by i items l.scene.areas l.scene.rows

-- each row's run
opened-run : (items : List Item) (rows : List Row) → rows_by items [] (opened rows) ≡ ran_by items rows
unfolding run
opened-run items [] = refl
opened-run items (row ∷ rows) = ap (λ (rest : List Served). record { row = row; state = states_after row items [] (opening row) } ∷ rest) (opened-run items rows)

pub rows-run : (items : List Item) (rows : List Row) → (scenes_after items (opening_scene rows)).rows ≡ ran_by items rows
rows-run items rows = rows-alone false items (unprinted (opening_scene rows)) ∙ opened-run items rows

pub items_may_be_served_in_parts : ItemsMayBeServedInParts
items_may_be_served_in_parts = lives-append

pub the_printed_text_only_grows : ThePrintedTextOnlyGrows
the_printed_text_only_grows answers items l = ap (λ (m : Live). m.printed) (lives-printed answers items l)

pub what_is_printed_first_is_first : WhatIsPrintedFirstIsFirst
what_is_printed_first_is_first = printed-append

pub printing_changes_no_row : PrintingChangesNoRow
printing_changes_no_row = scene-is

pub each_row_runs_by_itself : EachRowRunsByItself
each_row_runs_by_itself = rows-run
