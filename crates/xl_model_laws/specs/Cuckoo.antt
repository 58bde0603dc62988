-- Laws of elastic cuckoo tables.
use Rattle.std.specs.Prelude.{ℕ, ◌≡◌, ◌^◌, ◌<◌, ◌≤◌, ◌==◌, Bool, false, List, map}
use Rattle.xl_model.specs.declared.way.Entry.{Entry}
use Rattle.xl_model.specs.declared.way.Moves.{Moves}
use Rattle.xl_model.specs.declared.way.WayRegs.{WayRegs}
use Rattle.xl_model.specs.Ways.{WayShape, slot, advanced}
use Rattle.xl_model.specs.Placing.{AtCap, insertion}
use Rattle.xl_model.specs.Shapes.{Shape, Radix, Chained, Cuckoo, Runs}
use Rattle.xl_model.specs.Rows.{Row}
use Rattle.xl_model.specs.declared.script.Item.{Item}
use Rattle.xl_model.specs.Items.{run}
use Rattle.xl_list_lemmas.specs.Members.{In}
use Rattle.xl_list_lemmas.specs.Tallies.{tally}
use Rattle.xl_model_lemmas.specs.Sections.{entries_of}

-- an entry is in this slot of a way
abbrev pub is_at : WayRegs → ℕ → ℕ → Entry → Bool
is_at r number at e = slot r number e.key == at

-- no slot of the way has two keys
abbrev pub SlotsApart : WayShape → Type 0
SlotsApart w = (at : ℕ) → tally (is_at w.regs w.number at) w.entries ≤ 1

-- each of the ways is such
abbrev pub EachWay : (WayShape → Type 0) → List WayShape → Type 0
EachWay P ways = (w : WayShape) → In w ways → P w

-- each way of a cuckoo table is such, for each order
abbrev pub ShapeEach : (WayShape → Type 0) → Shape → Type 0
ShapeEach P (Radix levels spaces nodes) = Unit {0}
ShapeEach P (Chained group buckets entries tags) = Unit {0}
ShapeEach P (Cuckoo rules ways) = EachWay P ways.k4 × (EachWay P ways.m2 × EachWay P ways.g1)
ShapeEach P (Runs ranges) = Unit {0}

-- After every list of items two keys of one way have two slots.
abbrev pub KeysHaveTheirSlots : Type 0
KeysHaveTheirSlots =
    (row : Row) (items : List Item) → ShapeEach SlotsApart (run row items).table.shape

-- the rehash pointer is below the way's slots, and 0 where the way does not grow
pub record IsPointer (r : WayRegs) : Type 0 where
  pub below : r.p < 2 ^ r.s
  pub still : r.growing ≡ false → r.p ≡ 0

-- the pointer of a way
abbrev pub HasPointer : WayShape → Type 0
HasPointer w = IsPointer w.regs

-- After every list of items the rehash pointer of each way is below the way's slots.
abbrev pub ThePointerIsBelowTheSlots : Type 0
ThePointerIsBelowTheSlots =
    (row : Row) (items : List Item) → ShapeEach HasPointer (run row items).table.shape

-- An insertion that finds every way at its cap leaves each way's keys and words as they were.
abbrev pub ARefusalKeepsEveryWord : Type 0
ARefusalKeepsEveryWord =
    (limit most threshold : ℕ) (ways after : List WayShape) (x : Entry) (m : Moves)
    → insertion limit most threshold ways x ≡ AtCap after m
    → map entries_of after ≡ map entries_of ways

-- Migrating slots moves no entry of a way's list.
abbrev pub MigratingMovesNoEntry : Type 0
MigratingMovesNoEntry = (n : ℕ) (w : WayShape) → (advanced n w).entries ≡ w.entries
