-- Rows that are served with their lines.
use Rattle.std.specs.Prelude.{◌≡◌, ℕ, Bool, List, map}
use Rattle.std.specs.List.{All}
use Rattle.xl_model.specs.declared.script.Area.{Area}
use Rattle.xl_model.specs.declared.script.Item.{Item}
use Rattle.xl_model.specs.Rows.{Row}
use Rattle.xl_model.specs.Scenes.{Served, rows_after, rows_lines}
use Rattle.xl_outside.specs.Sinks.{SinkMeaning, SinkAfter}
use Rattle.xl_course.specs.Serving.{EqualWhere}
use Rattle.xl_rack.specs.declared.slot.Slot.{Slot}
use Rattle.xl_rack.specs.Slots.{served_of, IsNamed}

-- The designs of rows.
abbrev pub designs : List Served → List Row
designs rows = map (λ (v : Served). v.row) rows

-- A row was served, and its lines were written: whole, or up to a put that failed. Its design stays.
pub record HasAnswered {K : Type 0} (sink : SinkMeaning K) (after : Served → Served) (lines : Served → List ℕ) (v w : Served) (k l : K) (whole : Bool) : Type 0 where
  pub row_stays : w.row ≡ v.row
  pub row_is : EqualWhere whole w (after v)
  pub writes : SinkAfter sink (lines v) k l whole

-- Each slot's row was served an item, and the lines were written, row by row: whole, or up to a put
-- that failed. In either case the designs stay, and each slot stays of the form that its row names.
pub record EachAnswered {K : Type 0} (sink : SinkMeaning K) (item : Item) (areas : List Area) (old new : List Slot) (k l : K) (whole : Bool) : Type 0 where
  pub rows_are : EqualWhere whole (map served_of new) (rows_after item areas (map served_of old))
  pub stay : designs (map served_of new) ≡ designs (map served_of old)
  pub named : All IsNamed old → All IsNamed new
  pub writes : SinkAfter sink (rows_lines item areas (map served_of old)) k l whole
