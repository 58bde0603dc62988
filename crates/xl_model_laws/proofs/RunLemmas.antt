-- What every event keeps, every run keeps.
use Rattle.xl_model_laws.proofs.Common.{◌∷◌, [], after_event, again_where, Area, area_wanted, areas_after, demanded, Event, Item, List, map_of, None, opening, Option, outcome_of, referenced, Row, RowState, run, Some, state_after, states_after, ℕ}
use Rattle.xl_model.specs.declared.event.Outcome.{Outcome}
use Rattle.xl_model.specs.declared.script.Item.TheVariants.{Command, Declared, Referenced}
use Rattle.xl_model.specs.declared.event.Event.TheVariants as event
use Rattle.xl_model.specs.declared.event.Outcome.TheVariants as outcome

-- a fact that each event keeps
abbrev pub Keeps : Row → (RowState → Type 0) → Type 0
Keeps row P = (e : Event) (s : RowState) → P s → P (after_event row e s)

again-keeps : (row : Row) (P : RowState → Type 0) → Keeps row P → (o : Outcome) (e : Event) (s : RowState) → P s → P (again_where o row e s)
again-keeps row P keeps outcome.Done e s p = keeps e s p
again-keeps row P keeps (outcome.Replied answer) e s p = p
again-keeps row P keeps (outcome.Refused r) e s p = p

demanded-keeps : (row : Row) (P : RowState → Type 0) → Keeps row P → (area : Option Area) (va : ℕ) (e : Event) (s : RowState) → P s → P (demanded area row va e s)
demanded-keeps row P keeps None va e s p = p
demanded-keeps row P keeps (Some area) va e s p =
    again-keeps row P keeps (outcome_of row (map_of area va) s) e (after_event row (map_of area va) s) (keeps (map_of area va) s p)

item-keeps : (row : Row) (P : RowState → Type 0) → Keeps row P → (i : Item) (areas : List Area) (s : RowState) → P s → P (state_after row i areas s)
unfolding state_after referenced
item-keeps row P keeps (Command e) areas s h = keeps e s h
item-keeps row P keeps (Declared area) areas s h = h
item-keeps row P keeps (Referenced number va k) areas s h =
    demanded-keeps row P keeps (area_wanted row va k areas s) va (event.Access va k)
    (after_event row (event.Access va k) s) (keeps (event.Access va k) s h)

items-keep : (row : Row) (P : RowState → Type 0) → Keeps row P → (items : List Item) (areas : List Area) (s : RowState) → P s → P (states_after row items areas s)
items-keep row P keeps [] areas s h = h
items-keep row P keeps (i ∷ items) areas s h = items-keep row P keeps items (areas_after i areas) (state_after row i areas s) (item-keeps row P keeps i areas s h)

pub run-keeps : (row : Row) (P : RowState → Type 0) → Keeps row P → P (opening row) → (items : List Item) → P (run row items)
unfolding run
run-keeps row P keeps first items = items-keep row P keeps items [] (opening row) first
