-- The words of a way: slot i has words 2 * i, the key, and 2 * i + 1, the leaf word; both are 0 where it is empty.
-- A way has as many slots as it may grow to, filled up to a whole line of four words.
use Rattle.std.specs.Prelude.{ℕ, ◌^◌, ◌==◌, if◌then◌else◌, List, [], ◌∷◌, find, Option, None, Some}
use Rattle.xl_model.specs.declared.way.Entry.{Entry}
use Rattle.xl_model.specs.Ways.{WayShape, slot}
use Rattle.xl_list_lemmas.specs.Buckets.{gather}
use Rattle.xl_way.specs.Slots.{no_entry}

-- The slots of a way that may grow to 2^cap of them: those, and no fewer than a line has.
abbrev pub slots_of : ℕ → ℕ
slots_of cap = if cap == 0 then 2 else 2 ^ cap

-- An entry, or that of an empty slot.
abbrev pub or_empty : Option Entry → Entry
or_empty None = no_entry
or_empty (Some e) = e

-- The entry whose slot this is, or that of an empty slot.
unfoldable pub standing : WayShape → ℕ → Entry
standing w i = or_empty (find (λ e. slot w.regs w.number e.key == i) w.entries)

-- The two words of a slot.
abbrev pub slot_words : WayShape → ℕ → List ℕ
slot_words w i = (standing w i).key ∷ (standing w i).word ∷ []

-- The words of a way, slot by slot.
unfoldable pub words_of : WayShape → List ℕ
words_of w = gather (slot_words w) (slots_of w.cap)
