-- The ways of a cuckoo table.
use Rattle.std.specs.Prelude.{ℕ, List, map, slice_index_or, slice_set}
use Rattle.xl_model.specs.declared.way.Entry.{Entry}
use Rattle.xl_model.specs.Ways.{WayShape, swapped, opening_way}
use Rattle.xl_model.specs.Placing.{forced, settled_way, begun_if_full}
use Rattle.xl_way.specs.Slots.{WayState}

-- A way that isn't there.
abbrev pub no_way : WayState
no_way = record { shape = opening_way 0 0 0; loads = 0 }

-- The way of this number.
abbrev pub state_at : List WayState → ℕ → WayState
state_at ways at = slice_index_or ways at no_way

-- Ways by what they hold, without the loads made of them.
abbrev pub shapes : List WayState → List WayShape
shapes ways = map (λ w. w.shape) ways

-- A way with an entry in its slot.
abbrev pub with_swapped : Entry → WayState → WayState
with_swapped x w = record w { shape = swapped w.shape x }

-- The ways with an entry in its slot of one of them.
abbrev pub put_at : List WayState → ℕ → Entry → List WayState
put_at ways at x = slice_set ways at (with_swapped x (state_at ways at))

-- A way whose keys and words are changed.
abbrev pub changed_by : (WayShape → WayShape) → WayState → WayState
changed_by change w = record w { shape = change w.shape }

-- A way after a forced growth.
abbrev pub with_forced : WayState → WayState
with_forced w = record w { shape = forced w.shape }

-- A way that migrated some slots, if it was growing.
abbrev pub with_settled : ℕ → WayState → WayState
with_settled most w = record w { shape = settled_way most w.shape }

-- A way that begins to grow if it is fuller than the threshold.
abbrev pub with_begun : ℕ → WayState → WayState
with_begun threshold w = record w { shape = begun_if_full threshold w.shape }
