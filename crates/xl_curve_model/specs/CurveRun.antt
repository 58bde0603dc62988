-- The curve of a row: what the events of its run do to arrays of each width.
use Rattle.std.specs.Prelude.{ℕ, Bool, true, false, List, [], ◌∷◌, Option, None, Some}
use Rattle.xl_model.specs.declared.leaf.Leaf.{Leaf}
use Rattle.xl_model.specs.declared.event.Event.{Event}
use Rattle.xl_model.specs.declared.event.Event.TheVariants as event
use Rattle.xl_model.specs.declared.event.Outcome.{Outcome}
use Rattle.xl_model.specs.declared.event.Outcome.TheVariants as outcome
use Rattle.xl_model.specs.declared.row.Purge.{Purge}
use Rattle.xl_model.specs.declared.script.Area.{Area}
use Rattle.xl_model.specs.declared.script.Item.{Item}
use Rattle.xl_model.specs.declared.script.Item.TheVariants.{Command, Declared, Referenced}
use Rattle.xl_model.specs.Addresses.{is_canonical, page_of}
use Rattle.xl_model.specs.Changes.{Change, old_leaf}
use Rattle.xl_curve_model.specs.Curves.{HitCurve, curve_accessed, curve_missed, curve_without, opening_curve}
use Rattle.xl_model.specs.Items.{map_of, area_wanted, areas_after}
use Rattle.xl_model.specs.Mapping.{leaf_at_page}
use Rattle.xl_model.specs.RowRun.{RowState, opening, after_event, outcome_of, reach_of}
use Rattle.xl_model.specs.Rows.{Row}
use Rattle.xl_model.specs.Rules.{change_of}
use Rattle.xl_model.specs.Tlb.{is_purged, reaches_leaf}

-- A look-up, by the leaf that covers the page, if there is one.
abbrev pub curve_looked : Option Leaf → HitCurve → HitCurve
curve_looked None c = curve_missed c
curve_looked (Some leaf) c = curve_accessed leaf c

-- A non-canonical access looks at nothing.
abbrev pub curve_looked_where : Bool → Option Leaf → HitCurve → HitCurve
curve_looked_where true leaf c = curve_looked leaf c
curve_looked_where false leaf c = c

-- The curve after a purge of the leaf as it was; without such a leaf nothing is purged.
abbrev pub curve_purged : Purge → Option Leaf → HitCurve → HitCurve
curve_purged purge None c = c
curve_purged purge (Some old) c = curve_without (is_purged purge old) c

-- The leaf as it was before a change, if there is one.
abbrev pub old_of : Option Change → List Leaf → Option Leaf
old_of None leaves = None
old_of (Some change) leaves = old_leaf change leaves

-- The curve after an event that is not refused: an access looks for the leaf of its page; a fence
-- and the purge of a change take from each array what they take from the row's.
abbrev pub curve_followed : Row → Event → RowState → HitCurve → HitCurve
curve_followed row (event.Access va kind) s c =
    curve_looked_where (is_canonical row.mode va) (leaf_at_page s.space (page_of row.mode va) s.table.leaves) c
curve_followed row (event.Space space) s c = c
curve_followed row (event.Fence to) s c = curve_without (reaches_leaf (reach_of row to)) c
curve_followed row e s c = curve_purged row.purge (old_of (change_of row s.table.leaves e) s.table.leaves) c

-- A refused event changes nothing.
abbrev pub unless_refused : Outcome → HitCurve → HitCurve → HitCurve
unless_refused (outcome.Refused r) after before = before
unless_refused result after before = after

-- The curve after an event that a row in this state is served.
unfoldable pub curve_after : Row → Event → RowState → HitCurve → HitCurve
curve_after row e s c = unless_refused (outcome_of row e s) (curve_followed row e s c) c

-- A row's state, and its curve.
pub record Charted : Type 0 where
  pub state : RowState
  pub curve : HitCurve

-- Both after an event.
abbrev pub charted_event : Row → Event → Charted → Charted
charted_event row e p = record { state = after_event row e p.state; curve = curve_after row e p.state p.curve }

-- Where the map of a demand is done, the access is served once more.
abbrev pub charted_again : Outcome → Row → Event → Charted → Charted
charted_again outcome.Done row access p = charted_event row access p
charted_again result row access p = p

-- Both after the map that a demand is, and after its second access.
abbrev pub charted_demand : Option Area → Row → ℕ → Event → Charted → Charted
charted_demand None row va access p = p
charted_demand (Some area) row va access p =
    charted_again (outcome_of row (map_of area va) p.state) row access (charted_event row (map_of area va) p)

-- Both after an item.
unfoldable pub charted_item : Row → Item → List Area → Charted → Charted
charted_item row (Command e) areas p = charted_event row e p
charted_item row (Declared area) areas p = p
charted_item row (Referenced number va kind) areas p =
    charted_demand (area_wanted row va kind areas p.state) row va (event.Access va kind) (charted_event row (event.Access va kind) p)

-- Both after some items.
abbrev pub charted_items : Row → List Item → List Area → Charted → Charted
charted_items row [] areas p = p
charted_items row (i ∷ items) areas p = charted_items row items (areas_after i areas) (charted_item row i areas p)

-- The curve of a row's run over some items.
unfoldable pub curve_of_run : Row → ℕ → List Item → HitCurve
curve_of_run row sets items = (charted_items row items [] (record { state = opening row; curve = opening_curve sets })).curve
