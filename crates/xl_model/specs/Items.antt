-- What a row is served, item by item: commands, demand areas and the accesses of the trace; and its run.
use Rattle.std.specs.Prelude.{ℕ, ◌+◌, ◌*◌, ◌/◌, ◌==◌, Bool, ◌&&◌, nat_le, nat_lt, List, [], ◌∷◌, ◌++◌, find, Option, None, Some}
use Rattle.xl_model.specs.declared.address.Kind.{Kind}
use Rattle.xl_model.specs.declared.leaf.Reply.{Reply}
use Rattle.xl_model.specs.declared.leaf.Reply.TheVariants as reply
use Rattle.xl_model.specs.declared.event.Event.{Event}
use Rattle.xl_model.specs.declared.event.Event.TheVariants as event
use Rattle.xl_model.specs.declared.event.Outcome.{Outcome}
use Rattle.xl_model.specs.declared.event.Outcome.TheVariants as outcome
use Rattle.xl_model.specs.declared.script.Area.{Area}
use Rattle.xl_model.specs.declared.script.Item.{Item}
use Rattle.xl_model.specs.declared.script.Item.TheVariants.{Command, Declared, Referenced}
use Rattle.xl_model.specs.Addresses.{pages_of}
use Rattle.xl_model.specs.Rows.{Row}
use Rattle.xl_model.specs.RowRun.{RowState, opening, after_event, outcome_of, reply_to}

-- A page of a space lies in an area. Pages are those of 4 KiB, numbered by address / 4096.
abbrev pub in_area : ℕ → ℕ → Area → Bool
in_area space page area = (area.space == space) && (nat_le area.page page && nat_lt page (area.page + area.pages))

-- The first area of the space that has the address's page.
abbrev pub area_for : ℕ → ℕ → List Area → Option Area
area_for space va areas = find (in_area space (va / 4096)) areas

-- The map that an area demands for an address, rounded down to the area's order.
abbrev pub map_of : Area → ℕ → Event
map_of area va = event.Map area.space (va / (4096 * pages_of area.order) * (4096 * pages_of area.order)) area.order area.perm

-- Where the map is done, the access is served once more.
abbrev pub again_where : Outcome → Row → Event → RowState → RowState
again_where outcome.Done row access s = after_event row access s
again_where result row access s = s

-- The state after the map that a demand is, and after its second access.
abbrev pub demanded : Option Area → Row → ℕ → Event → RowState → RowState
demanded None row va access s = s
demanded (Some area) row va access s =
    again_where (outcome_of row (map_of area va) s) row access (after_event row (map_of area va) s)

-- The area that an access demands: its page's, where it is replied to as unmapped.
abbrev pub wanted : Reply → Option Area → Option Area
wanted reply.Unmapped area = area
wanted answer area = None

-- The area that an access of a state demands, of those declared so far.
abbrev pub area_wanted : Row → ℕ → Kind → List Area → RowState → Option Area
area_wanted row va kind areas s = wanted (reply_to row s va kind) (area_for s.space va areas)

-- The state after an access, with the events of its demand.
unfoldable pub referenced : Row → ℕ → Kind → List Area → RowState → RowState
referenced row va kind areas s =
    demanded (area_wanted row va kind areas s) row va (event.Access va kind) (after_event row (event.Access va kind) s)

-- The areas declared so far, after an item. They are the same for all rows.
abbrev pub areas_after : Item → List Area → List Area
areas_after (Command e) areas = areas
areas_after (Declared area) areas = areas ++ area ∷ []
areas_after (Referenced number va kind) areas = areas

-- A row's state after an item.
unfoldable pub state_after : Row → Item → List Area → RowState → RowState
state_after row (Command e) areas s = after_event row e s
state_after row (Declared area) areas s = s
state_after row (Referenced number va kind) areas s = referenced row va kind areas s

-- A row's state after some items.
abbrev pub states_after : Row → List Item → List Area → RowState → RowState
states_after row [] areas s = s
states_after row (i ∷ items) areas s = states_after row items (areas_after i areas) (state_after row i areas s)

-- The run of a row over some items, from its opening state.
unfoldable pub run : Row → List Item → RowState
run row items = states_after row items [] (opening row)
