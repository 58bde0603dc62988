-- What is done in the slots of a way.
use Rattle.std.specs.Prelude.{ℕ, ◌==◌, Bool, ◌&&◌, not, if◌then◌else◌, List, slice_set, Option, None, Some}
use Rattle.xl_model.specs.declared.way.Entry.{Entry}
use Rattle.xl_model.specs.declared.way.WayRegs.{WayRegs}
use Rattle.xl_model.specs.Ways.{slot, has_key, regs_after}
use Rattle.xl_way.specs.Slots.{no_entry, cell}

-- What is in a slot, if it isn't empty and passes a test.
abbrev pub passing : (Entry → Bool) → Entry → Option Entry
passing p x = if p x && not (x.word == 0) then Some x else None

-- What a slot keeps for a key.
abbrev pub kept_of : ℕ → Entry → Option Entry
kept_of key x = passing (has_key key) x

-- The slots after the one at the rehash pointer was migrated.
abbrev pub moved : WayRegs → ℕ → List Entry → List Entry
moved r number slots =
    if (cell slots r.p).word == 0
    then slice_set slots r.p no_entry
    else slice_set (slice_set slots r.p no_entry) (slot (regs_after 1 r) number (cell slots r.p).key) (cell slots r.p)
