-- One way of an elastic cuckoo table (Skarlatos and others, 2020): its registers, and the slot of a
-- key.
use Rattle.std.specs.Prelude.{ℕ, ◌+◌, ◌-◌, ◌%◌, ◌^◌, ◌==◌, Bool, true, false, ◌&&◌, nat_lt, if◌then◌else◌, List, [], ◌∷◌, find, map, Option, None, Some}
use Rattle.xl_model.specs.declared.way.Entry.{Entry}
use Rattle.xl_model.specs.declared.way.WayRegs.{WayRegs}
use Rattle.xl_model.specs.Hashes.{way_hash}

-- A way: its number, its cap on s, its registers, and its keys with their words, sorted by key.
pub record WayShape : Type 0 where
  pub number : ℕ
  pub cap : ℕ
  pub regs : WayRegs
  pub entries : List Entry

-- The slot of a hash: in a growing way a slot below the rehash pointer is already one of 2^(s + 1).
abbrev pub slot_at : WayRegs → ℕ → ℕ
slot_at r hash =
    if r.growing && nat_lt (hash % 2 ^ r.s) r.p then hash % 2 ^ (r.s + 1) else (hash % 2 ^ r.s)

-- A key's slot in a way with these registers.
unfoldable pub slot : WayRegs → ℕ → ℕ → ℕ
slot r way key = slot_at r (way_hash way key)

-- An entry has this key.
abbrev pub has_key : ℕ → Entry → Bool
has_key key e = e.key == key

-- the entry that is in the key's slot
unfoldable pub occupant : WayShape → ℕ → Option Entry
occupant w key = find (λ e. slot w.regs w.number e.key == slot w.regs w.number key) w.entries

-- Entries with one more, by rising key.
abbrev pub with_entry : Entry → List Entry → List Entry
with_entry x [] = x ∷ []
with_entry x (y ∷ ys) = if nat_lt y.key x.key then y ∷ with_entry x ys else (x ∷ y ∷ ys)

-- Entries without that of a key.
abbrev pub without_key : ℕ → List Entry → List Entry
without_key key [] = []
without_key key (y ∷ ys) = if y.key == key then ys else (y ∷ without_key key ys)

-- Entries without one of them, if there is one.
abbrev pub without_occupant : Option Entry → List Entry → List Entry
without_occupant None es = es
without_occupant (Some e) es = without_key e.key es

-- the way with this entry in its slot; the entry that was there is out
unfoldable pub swapped : WayShape → Entry → WayShape
swapped w x = record w { entries = with_entry x (without_occupant (occupant w x.key) w.entries) }

-- the way with another word for a key
abbrev pub reworded : ℕ → ℕ → Entry → Entry
reworded key word e = if e.key == key then record e { word = word } else e

-- A way with another word for a key.
unfoldable pub with_word : ℕ → ℕ → WayShape → WayShape
with_word key word w = record w { entries = map (reworded key word) w.entries }

-- A way without the entry of a key.
unfoldable pub without_entry : ℕ → WayShape → WayShape
without_entry key w = record w { entries = without_key key w.entries }

-- the slots that a growing way has still to migrate
abbrev pub slots_left : WayRegs → ℕ
slots_left r = 2 ^ r.s - r.p

-- The registers of a way that begins to grow.
abbrev pub begun_regs : WayRegs → WayRegs
begun_regs r = record { s = r.s; p = 0; growing = true }

-- Migrating n slots moves no entry of the list: the pointer rises, and where it reaches the end the
-- way has doubled and grows no more.
abbrev pub regs_after : ℕ → WayRegs → WayRegs
regs_after n r =
    if n == slots_left r then record { s = r.s + 1; p = 0; growing = false } else record r { p = r.p + n }

-- A way that migrated n slots more.
unfoldable pub advanced : ℕ → WayShape → WayShape
advanced n w = record w { regs = regs_after n w.regs }

-- A way that begins to grow.
unfoldable pub begun : WayShape → WayShape
begun w = record w { regs = begun_regs w.regs }

-- an empty way
unfoldable pub opening_way : ℕ → ℕ → ℕ → WayShape
opening_way start cap number =
    record { number = number; cap = cap; regs = record { s = start; p = 0; growing = false }; entries = [] }
