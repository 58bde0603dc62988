-- A way as an array of slots: the entries that the slots hold, and the word that is kept for a key.
use Rattle.std.specs.Prelude.{ℕ, ◌==◌, if◌then◌else◌, List, [], ◌∷◌, find, Option, None, Some, slice_index_or}
use Rattle.xl_model.specs.declared.way.Entry.{Entry}
use Rattle.xl_model.specs.declared.way.WayRegs.{WayRegs}
use Rattle.xl_model.specs.Ways.{WayShape, has_key, with_entry}

-- A way, and the loads made of it.
pub record WayState : Type 0 where
  pub shape : WayShape
  pub loads : ℕ

-- Where the keys of a way are: its number and its registers.
pub record PlacesState : Type 0 where
  pub number : ℕ
  pub regs : WayRegs

-- An empty slot.
abbrev pub no_entry : Entry
no_entry = record { key = 0; word = 0 }

-- What is in a slot.
abbrev pub cell : List Entry → ℕ → Entry
cell slots i = slice_index_or slots i no_entry

-- Entries with that of a slot, unless the slot is empty.
abbrev pub put : Entry → List Entry → List Entry
put x es = if x.word == 0 then es else with_entry x es

-- The entries that slots hold, by rising key.
unfoldable pub entries_of : List Entry → List Entry
entries_of [] = []
entries_of (x ∷ xs) = put x (entries_of xs)

-- The word of an entry, if there is one.
abbrev pub word_in : Option Entry → Option ℕ
word_in None = None
word_in (Some e) = Some e.word

-- The word that is kept for a key.
unfoldable pub word_of : ℕ → List Entry → Option ℕ
word_of key entries = word_in (find (has_key key) entries)
