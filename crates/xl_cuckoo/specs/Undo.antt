-- Displacements undone: at each step back the entry in hand goes into the way before, and what was
-- there is in hand.
use Rattle.std.specs.Prelude.{ℕ, zero, suc, ◌+◌, ◌-◌, ◌%◌, List, [], ◌∷◌, ◌++◌, length, Option, None, Some}
use Rattle.xl_model.specs.declared.way.Entry.{Entry}
use Rattle.xl_model.specs.Ways.{occupant}
use Rattle.xl_model.specs.Placing.{Displaced}
use Rattle.xl_way.specs.Slots.{WayState}
use Rattle.xl_cuckoo.specs.declared.moved.Moved.{Moved}
use Rattle.xl_cuckoo.specs.State.{state_at, put_at}

-- What the log has of a displaced key.
abbrev pub displaced : Moved → Displaced
displaced m = record { key = m.key; way = m.way }

-- What the log has of a displaced key, if there is one.
abbrev pub known : Option Moved → Option Displaced
known None = None
known (Some m) = Some (displaced m)

-- The way before this one, round all ways.
abbrev pub previous_way : ℕ → ℕ → ℕ
previous_way count at = (at + (count - 1)) % count

-- What is taken in hand: the entry that was in the slot.
abbrev pub in_hand : Option Entry → Entry → Entry
in_hand None hand = hand
in_hand (Some e) hand = e

-- The ways after n displacements were undone.
unfoldable pub undone : ℕ → List WayState → ℕ → Entry → List WayState
undone zero ways at hand = ways
undone (suc n) ways at hand =
    undone n (put_at ways (previous_way (length ways) at) hand) (previous_way (length ways) at)
    (in_hand (occupant (state_at ways (previous_way (length ways) at)).shape hand.key) hand)

-- The key of a logged displacement.
abbrev pub key_of : Moved → ℕ
key_of m = m.key

-- The keys that are in hand while n displacements are undone, in the order of the displacements:
-- the one in hand at first is the last.
unfoldable pub keys_in_hand : ℕ → List WayState → ℕ → Entry → List ℕ
keys_in_hand zero ways at hand = []
keys_in_hand (suc n) ways at hand =
    keys_in_hand n (put_at ways (previous_way (length ways) at) hand) (previous_way (length ways) at)
    (in_hand (occupant (state_at ways (previous_way (length ways) at)).shape hand.key) hand)
    ++ hand.key ∷ []
