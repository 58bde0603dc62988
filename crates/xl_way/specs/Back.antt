-- What the words of a way say of a key.
use Rattle.std.specs.Prelude.{ℕ, ◌+◌, ◌*◌, ◌/◌, ◌==◌, ◌&&◌, not, nat_lt, if◌then◌else◌, List, length, slice_index, Option, None, Some}
use Rattle.xl_model.specs.declared.way.WayRegs.{WayRegs}
use Rattle.xl_model.specs.Ways.{slot}
use Rattle.xl_way.specs.declared.found.Look.{Look}
use Rattle.xl_way.specs.declared.found.Look.TheVariants.{Found, Absent, OutOfBus}

-- What a slot with these two words says of a key: its word, where the slot has the key and isn't
-- empty.
abbrev pub found_in : ℕ → ℕ → ℕ → Look
found_in key held word = if held == key && not (word == 0) then Found word else Absent

-- What the words at a slot say of a key, where the slot's line is there.
abbrev pub slot_says : List ℕ → ℕ → ℕ → Look
slot_says words at key =
    if nat_lt (length words) (4 * (at / 2) + 4)
    then OutOfBus
    else found_in key (slice_index words (2 * at)) (slice_index words (2 * at + 1))

-- What words say of a key, in a way with these registers: its slot is looked at, and no other.
unfoldable pub slot_back : List ℕ → WayRegs → ℕ → ℕ → Look
slot_back words r way key = slot_says words (slot r way key) key

-- The result of a look where this word is kept for the key, or none.
abbrev pub look_of : Option ℕ → Look
look_of None = Absent
look_of (Some word) = Found word
