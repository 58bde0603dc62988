-- What holds of all rows together: items served in parts, and the lines written meanwhile.
use Rattle.std.specs.Prelude.{◌≡◌, Bool, List, ◌++◌, [], ◌∷◌}
use Rattle.xl_model.specs.declared.script.Item.{Item}
use Rattle.xl_model.specs.Rows.{Row}
use Rattle.xl_model.specs.Scenes.{Live, Scene, lives_after, opening_scene, printed_by, scenes_after, Served}
use Rattle.xl_model.specs.Items.{run, states_after}
use Rattle.xl_model.specs.declared.script.Area.{Area}

-- each row after some items, served by itself
abbrev pub rows_by : List Item → List Area → List Served → List Served
rows_by items areas [] = []
rows_by items areas (r ∷ rows) =
    record r { state = states_after r.row items areas r.state } ∷ rows_by items areas rows

-- each row with its own run over some items
abbrev pub ran_by : List Item → List Row → List Served
ran_by items [] = []
ran_by items (row ∷ rows) = record { row = row; state = run row items } ∷ ran_by items rows

-- Items may be served in two parts, one after the other.
abbrev pub ItemsMayBeServedInParts : Type 0
ItemsMayBeServedInParts =
    (answers : Bool) (xs ys : List Item) (l : Live)
    → lives_after answers (xs ++ ys) l ≡ lives_after answers ys (lives_after answers xs l)

-- Lines that were written stay: items add their lines after them, whatever they are.
abbrev pub ThePrintedTextOnlyGrows : Type 0
ThePrintedTextOnlyGrows =
    (answers : Bool) (items : List Item) (l : Live)
    → (lives_after answers items l).printed ≡ l.printed ++ printed_by answers items l.scene

-- The lines of some items are the beginning of their lines with others after them.
abbrev pub WhatIsPrintedFirstIsFirst : Type 0
WhatIsPrintedFirstIsFirst =
    (answers : Bool) (xs ys : List Item) (s : Scene)
    → printed_by answers (xs ++ ys) s ≡ printed_by answers xs s ++ printed_by answers ys (scenes_after xs s)

-- What is served does not depend on which lines are written.
abbrev pub PrintingChangesNoRow : Type 0
PrintingChangesNoRow =
    (answers : Bool) (items : List Item) (l : Live) → (lives_after answers items l).scene ≡ scenes_after items l.scene

-- Rows that are served together end as each ends alone.
abbrev pub EachRowRunsByItself : Type 0
EachRowRunsByItself =
    (items : List Item) (rows : List Row) → (scenes_after items (opening_scene rows)).rows ≡ ran_by items rows
