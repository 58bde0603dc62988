-- All rows together. Each item, with the events of its demand, is served whole by one row after
-- another; and the text that is written meanwhile: the lines of accesses and commands in the order
-- served.
use Rattle.std.specs.Prelude.{ℕ, Bool, true, false, List, [], ◌∷◌, ◌++◌, Option, None, Some}
use Rattle.xl_model.specs.declared.address.Kind.{Kind}
use Rattle.xl_model.specs.declared.event.Event.{Event}
use Rattle.xl_model.specs.declared.event.Event.TheVariants as event
use Rattle.xl_model.specs.declared.event.Outcome.{Outcome}
use Rattle.xl_model.specs.declared.event.Outcome.TheVariants as outcome
use Rattle.xl_model.specs.declared.script.Area.{Area}
use Rattle.xl_model.specs.declared.script.Item.{Item}
use Rattle.xl_model.specs.declared.script.Item.TheVariants.{Command, Declared, Referenced}
use Rattle.xl_model.specs.Rows.{Row}
use Rattle.xl_model.specs.RowRun.{RowState, opening, after_event, outcome_of, reply_to}
use Rattle.xl_model.specs.Items.{area_wanted, map_of, areas_after, state_after}
use Rattle.xl_model.specs.Lines.{answer_line, command_line}

-- A row with its state.
pub record Served : Type 0 where
  pub row : Row
  pub state : RowState

-- All rows in their order, and the areas declared so far.
pub record Scene : Type 0 where
  pub rows : List Served
  pub areas : List Area

-- A row after an item.
abbrev pub served_after : Item → List Area → Served → Served
served_after item areas r = record r { state = state_after r.row item areas r.state }

-- The rows after an item, each by itself.
abbrev pub rows_after : Item → List Area → List Served → List Served
rows_after item areas [] = []
rows_after item areas (r ∷ rows) = served_after item areas r ∷ rows_after item areas rows

-- The scene after an item.
unfoldable pub scene_after : Item → Scene → Scene
scene_after item s = record { rows = rows_after item s.areas s.rows; areas = areas_after item s.areas }

-- The line of an access in a row.
abbrev pub access_line : Row → ℕ → ℕ → Kind → RowState → List ℕ
access_line row number va k s = answer_line row.name number k s.space va (reply_to row s va k)

-- The line of a command's event in a row.
abbrev pub event_line : Row → Event → RowState → List ℕ
event_line row e s = command_line row.name e (outcome_of row e s)

-- The line of the second access of a demand, where its map was done.
abbrev pub second_line : Outcome → Row → ℕ → ℕ → Kind → RowState → List ℕ
second_line outcome.Done row number va k s = access_line row number va k s
second_line result row number va k s = []

-- The lines of a demand: that of its map, and that of its second access.
abbrev pub demand_lines : Option Area → Row → ℕ → ℕ → Kind → RowState → List ℕ
demand_lines None row number va k s = []
demand_lines (Some area) row number va k s =
    event_line row (map_of area va) s
    ++ second_line (outcome_of row (map_of area va) s) row number va k (after_event row (map_of area va) s)

-- The lines of an item in a row.
unfoldable pub item_lines : Item → List Area → Row → RowState → List ℕ
item_lines (Command e) areas row s = event_line row e s
item_lines (Declared area) areas row s = []
item_lines (Referenced number va k) areas row s =
    access_line row number va k s
    ++ demand_lines (area_wanted row va k areas s) row number va k (after_event row (event.Access va k) s)

-- The lines of an item, row by row.
abbrev pub rows_lines : Item → List Area → List Served → List ℕ
rows_lines item areas [] = []
rows_lines item areas (r ∷ rows) = item_lines item areas r.row r.state ++ rows_lines item areas rows

-- The lines of an item where they are asked for.
abbrev pub lines_where : Bool → Item → Scene → List ℕ
lines_where true item s = rows_lines item s.areas s.rows
lines_where false item s = []

-- The scene, and the text so far.
pub record Live : Type 0 where
  pub scene : Scene
  pub printed : List ℕ

-- One step: an item is served, and its lines are written where they are asked for.
abbrev pub live_after : Bool → Item → Live → Live
live_after answers item l =
    record { scene = scene_after item l.scene; printed = l.printed ++ lines_where answers item l.scene }

-- Some items are served, one after another.
abbrev pub lives_after : Bool → List Item → Live → Live
lives_after answers [] l = l
lives_after answers (i ∷ items) l = lives_after answers items (live_after answers i l)

-- Each row in its opening state.
abbrev pub opened : List Row → List Served
opened [] = []
opened (row ∷ rows) = record { row = row; state = opening row } ∷ opened rows

-- All rows in their opening states; nothing is declared.
abbrev pub opening_scene : List Row → Scene
opening_scene rows = record { rows = opened rows; areas = [] }

-- A scene before any line.
abbrev pub unprinted : Scene → Live
unprinted s = record { scene = s; printed = [] }

-- The text of some items from a scene on.
abbrev pub printed_by : Bool → List Item → Scene → List ℕ
printed_by answers items s = (lives_after answers items (unprinted s)).printed

-- The scene after some items.
abbrev pub scenes_after : List Item → Scene → Scene
scenes_after items s = (lives_after false items (unprinted s)).scene
