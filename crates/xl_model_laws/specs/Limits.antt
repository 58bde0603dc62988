-- What a table takes stays the same.
use Rattle.std.specs.Prelude.{ℕ, List}
use Rattle.xl_model.specs.declared.event.Reach.{Reach}
use Rattle.xl_model.specs.declared.script.Item.{Item}
use Rattle.xl_model.specs.Changes.{Change}
use Rattle.xl_model.specs.Structures.{TableState, table_after, table_walked, table_fenced}
use Rattle.xl_model.specs.Rows.{Row}
use Rattle.xl_model.specs.RowRun.{opening}
use Rattle.xl_model.specs.Items.{run}
use Rattle.xl_model_lemmas.specs.Limits.{SameLimits}

-- A table takes the same spaces and pages after each call.
abbrev pub EachCallKeepsTheLimits : Type 0
EachCallKeepsTheLimits =
    (t : TableState) → ((c : Change) → SameLimits t.shape (table_after c t).shape)
    × ((space page : ℕ) → SameLimits t.shape (table_walked space page t).shape)
    × ((to : Reach) → SameLimits t.shape (table_fenced to t).shape)

-- After every list of items a row's table takes the spaces and pages that it took when it was
-- opened.
abbrev pub TheLimitsStay : Type 0
TheLimitsStay =
    (row : Row) (items : List Item)
    → SameLimits (opening row).table.shape (run row items).table.shape
