-- What a script and a trace give: records with their accesses, and the events of a command.
use Rattle.std.specs.Prelude.{ℕ, zero, suc, ◌+◌, ◌*◌, List, [], ◌∷◌, Option}
use Rattle.xl_model.specs.declared.address.Kind.{Kind}
use Rattle.xl_model.specs.declared.address.Order.{Order}
use Rattle.xl_model.specs.declared.event.Event.{Event}
use Rattle.xl_model.specs.declared.fault.InputFault.{InputFault}
use Rattle.xl_model.specs.declared.script.Item.{Item}
use Rattle.xl_model.specs.declared.script.Item.TheVariants as item
use Rattle.xl_model.specs.Addresses.{pages_of}

-- A record of the trace: its number, and the address and kind of each of its accesses.
pub record Accesses : Type 0 where
  pub number : ℕ
  pub accesses : List (ℕ × Kind)

-- The records of a trace that are left, and the fault that ends them: a bad line, a trace that is
-- too long, or a trace that isn't there; none where the trace was good to its end.
pub record Trail : Type 0 where
  pub records : List Accesses
  pub fault : Option InputFault

-- No record is left.
abbrev pub at_end : Option InputFault → Trail
at_end fault = record { records = []; fault = fault }

-- The events of a command, n of them, from the one of this number on.
abbrev pub events_from : (ℕ → Event) → ℕ → ℕ → List Item
events_from event_at i zero = []
events_from event_at i (suc n) = item.Command (event_at i) ∷ events_from event_at (suc i) n

-- The address of the block of this number after an address.
abbrev pub block_address : ℕ → Order → ℕ → ℕ
block_address va o i = va + i * (4096 * pages_of o)

-- The accesses of a record, each with the record's number.
abbrev pub accesses_items : ℕ → List (ℕ × Kind) → List Item
accesses_items number [] = []
accesses_items number (a ∷ accesses) = item.Referenced number a.0 a.1 ∷ accesses_items number accesses
