-- What contracts see of harts, and what harts keep.
use Rattle.std.specs.Prelude.{ℕ, ◌≡◌, ◌<◌, ◌^◌, Bool, List, [], ◌∷◌, Option}
use Rattle.xl_model.specs.declared.address.Mode.TheVariants as mode
use Rattle.xl_model.specs.declared.address.Order.{Order}
use Rattle.xl_model.specs.declared.event.Event.{Event}
use Rattle.xl_hart_model.specs.declared.hart.HartEvent.TheVariants as step
use Rattle.xl_hart_model.specs.declared.hart.HartRefusal.{HartRefusal}
use Rattle.xl_hart_model.specs.declared.hart.HartSpec.{HartSpec}
use Rattle.xl_hart_model.specs.declared.hart.Request.{Request}
use Rattle.xl_model.specs.declared.leaf.Leaf.{Leaf}
use Rattle.xl_model.specs.declared.perm.Perm.{Perm}
use Rattle.xl_model.specs.Addresses.{page_of}
use Rattle.xl_hart_model.specs.Harts.{Hart, HartsState, current_hart, kept_leaves, hart_refusal, after_hart_event, shared_row}
use Rattle.xl_model.specs.Mapping.{leaf_at_page}
use Rattle.xl_model.specs.Structures.{TableState}
use Rattle.xl_model_lemmas.specs.Fresh.{InSets}
use Rattle.xl_model_lemmas.specs.Mappings.{IsLeafOf, IsMapping}
use Rattle.xl_model_lemmas.specs.Pools.{IsPoolOf}
use Rattle.xl_hart_laws.specs.Kept.{IsKept, IsHartSpec, IsTable}

-- Harts with what they share.
abbrev pub state_of : HartSpec → TableState → List Request → List Hart → ℕ → ℕ → List ℕ → HartsState
state_of spec table requests harts current accepted refused = record {
  spec = spec;
  table = table;
  requests = requests;
  harts = harts;
  current = current;
  accepted = accepted;
  refused = refused;
}

-- Harts keep what the definitions' harts keep; the pool is that of the leaves whose frames no map may take; and as many
-- requests can be kept as a queue holds.
pub record IsHarts (s : HartsState) (capacity : ℕ) (pool : List Bool) : Type 0 where
  pub kept : IsKept s
  pub pool_is : IsPoolOf s.spec.frames (kept_leaves s) pool
  pub room : capacity ≡ s.spec.queue

-- A hart may be served by a table: its space is one of the table's, the table holds a mapping, and
-- each leaf of the hart's array is one that was in a mapping.
pub record IsServed (spec : HartSpec) (table : TableState) (h : Hart) : Type 0 where
  pub spec_is : IsHartSpec spec
  pub table_is : IsTable spec table.shape
  pub mapping : IsMapping (shared_row spec) table.leaves
  pub space_in : h.space < spec.spaces
  pub valid : (x : Leaf) → InSets x h.array.sets → IsLeafOf (shared_row spec) x

-- Harts of which the current one, which is this, is served by their table.
pub record IsCurrent (s : HartsState) (table : TableState) (h : Hart) : Type 0 where
  pub kept : IsKept s
  pub table_is : table ≡ s.table
  pub hart_is : h ≡ current_hart s

-- The first refusal of an event that is served for the current hart.
abbrev pub refusal_of : Event → HartsState → Option HartRefusal
refusal_of e s = hart_refusal s (step.Own e)

-- The state after an event that is served for the current hart.
abbrev pub after_own : Event → HartsState → HartsState
after_own e s = after_hart_event (step.Own e) s

-- The leaf that covers the page of an address, if there is one.
abbrev pub leaf_of : ℕ → ℕ → HartsState → Option Leaf
leaf_of space va s = leaf_at_page space (page_of mode.Sv39 va) s.table.leaves

-- The leaf that a map of an address brings, in the frames from one on.
abbrev pub leaf_at : ℕ → ℕ → Order → ℕ → Perm → Leaf
leaf_at space va o frame perm = record { space = space; first = page_of mode.Sv39 va; order = o; frame = frame; perm = perm }

-- Every queue is short enough for a request more.
abbrev pub AllShort : List Hart → Type 0
AllShort [] = Unit {0}
AllShort (h ∷ hs) = (h.waiting < 2 ^ 63) × AllShort hs
