-- Inserting into an elastic cuckoo table (Skarlatos and others, 2020): an attempt with its displacements,
-- growth after a failed attempt, and what settles after one that succeeded.
use Rattle.std.specs.Prelude.{ℕ, zero, suc, ◌+◌, ◌-◌, ◌*◌, ◌%◌, ◌^◌, Bool, ◌&&◌, not, nat_lt, nat_le, min, if◌then◌else◌, List, [], ◌∷◌, ◌++◌, map, length, Option, None, Some, slice_set, slice_index_or}
use Rattle.std.specs.List.{list_any}
use Rattle.xl_model.specs.declared.way.Entry.{Entry}
use Rattle.xl_model.specs.declared.way.Moves.{Moves}
use Rattle.xl_model.specs.Base.{plus, one_if}
use Rattle.xl_model.specs.Hashes.{way_hash}
use Rattle.xl_model.specs.Ways.{WayShape, has_key, occupant, swapped, slots_left, advanced, begun, opening_way}

-- Nothing was displaced, migrated or grown.
abbrev pub no_moves : Moves
no_moves = record { kicks = 0; undone = 0; migrated = 0; growths = 0 }

-- a displaced key, and the way that it went to
pub record Displaced : Type 0 where
  pub key : ℕ
  pub way : ℕ

-- The way of this number.
abbrev pub way_at : List WayShape → ℕ → WayShape
way_at ways at = slice_index_or ways at (opening_way 0 0 0)

-- The ways with an entry in its slot of one of them.
abbrev pub put_in : List WayShape → ℕ → Entry → List WayShape
put_in ways at x = slice_set ways at (swapped (way_at ways at) x)

-- The way after this one, round all ways.
abbrev pub next_way : ℕ → ℕ → ℕ
next_way count at = (at + 1) % count

-- An attempt succeeds, with what it displaced, or fails.
pub data Attempt : Type 0 where
  Succeeds : (ways : List WayShape) → (moved : List Displaced) → Attempt
  Fails : Attempt

-- What follows where the slot is empty, and where an entry is in it.
abbrev pub by_occupant : Option Entry → Attempt → (Entry → Attempt) → Attempt
by_occupant None free taken = free
by_occupant (Some e) free taken = taken e

-- The entry in hand is placed where its slot in this way is empty. Else it takes the slot, and the
-- displaced entry goes to the next way, while displacements are left; then the attempt fails.
unfoldable pub attempt : ℕ → List WayShape → ℕ → Entry → List Displaced → Attempt
attempt zero ways at hand moved =
    by_occupant (occupant (way_at ways at) hand.key) (Succeeds (put_in ways at hand) moved) (λ e. Fails)
attempt (suc left) ways at hand moved =
    by_occupant (occupant (way_at ways at) hand.key) (Succeeds (put_in ways at hand) moved)
    (λ e. attempt left (put_in ways at hand) (next_way (length ways) at) e
    (moved ++ record { key = e.key; way = next_way (length ways) at } ∷ []))

-- the way at which a key's attempt begins
abbrev pub start_way : ℕ → ℕ → ℕ
start_way count key = way_hash count key % count

-- After a failed attempt the way with the least s grows, of those that are below their cap; of
-- several the one with the lowest number.
pub record Candidate : Type 0 where
  pub way : ℕ
  pub size : ℕ

-- A way that may grow: one that is below its cap.
abbrev pub candidate : ℕ → WayShape → Option Candidate
candidate i w = if nat_lt w.regs.s w.cap then Some (record { way = i; size = w.regs.s }) else None

-- Of two ways that may grow the one with fewer slots, and of equal ones the first.
abbrev pub smaller : Option Candidate → Option Candidate → Option Candidate
smaller None b = b
smaller (Some a) None = Some a
smaller (Some a) (Some b) = if nat_le a.size b.size then Some a else Some b

-- The way that is to grow, from this number on.
abbrev pub to_grow : ℕ → List WayShape → Option Candidate
to_grow i [] = None
to_grow i (w ∷ ways) = smaller (candidate i w) (to_grow (i + 1) ways)

-- a growth completed at once: it begins where the way isn't growing, and all its slots are migrated
abbrev pub growing_now : WayShape → WayShape
growing_now w = if w.regs.growing then w else begun w

-- How many growths begin for it: none where the way is growing.
abbrev pub growths_begun : WayShape → ℕ
growths_begun w = if w.regs.growing then 0 else 1

-- A way after a forced growth.
unfoldable pub forced : WayShape → WayShape
forced w = advanced (slots_left (growing_now w).regs) (growing_now w)

-- What was done, with a forced growth more.
abbrev pub forced_moves : WayShape → Moves → Moves
forced_moves w m = record m { migrated = plus m.migrated (slots_left (growing_now w).regs); growths = plus m.growths (growths_begun w) }

-- An entry was placed, or every way is at its cap; with the ways after, and what was done.
pub data Placing : Type 0 where
  Placed : (ways : List WayShape) → (moved : List Displaced) → (moves : Moves) → Placing
  AtCap : (ways : List WayShape) → (moves : Moves) → Placing

-- The kicks of a failed attempt count as kicks and as undone; the ways are as before it.
abbrev pub after_attempt : Attempt → ℕ → Moves → (Moves → Placing) → Placing
after_attempt (Succeeds ways moved) limit m failed = Placed ways moved (record m { kicks = plus m.kicks (length moved) })
after_attempt Fails limit m failed = failed (record m { kicks = plus m.kicks limit; undone = plus m.undone limit })

-- What follows where a way may grow, and where none may.
abbrev pub with_growth : Option Candidate → Placing → (ℕ → Placing) → Placing
with_growth None refused grown = refused
with_growth (Some c) refused grown = grown c.way

-- how many growths the ways have left
abbrev pub growths_left : List WayShape → ℕ
growths_left [] = 0
growths_left (w ∷ ways) = (w.cap - w.regs.s) + growths_left ways

-- Attempts and growths in turn, as many as growths are left, until one attempt succeeds.
unfoldable pub placing : ℕ → ℕ → List WayShape → Entry → Moves → Placing
placing zero limit ways x m =
    after_attempt (attempt limit ways (start_way (length ways) x.key) x []) limit m (λ n. AtCap ways n)
placing (suc room) limit ways x m =
    after_attempt (attempt limit ways (start_way (length ways) x.key) x []) limit m
    (λ n. with_growth (to_grow 0 ways) (AtCap ways n)
    (λ i. placing room limit (slice_set ways i (forced (way_at ways i))) x (forced_moves (way_at ways i) n)))

-- Where a new entry is placed, or that every way is at its cap.
unfoldable pub place : ℕ → List WayShape → Entry → Placing
place limit ways x = placing (growths_left ways) limit ways x no_moves

-- After a successful attempt each growing way migrates some slots; then each way that isn't
-- growing, is below its cap and holds more than its threshold, in hundredths of its slots, begins
-- to grow.
abbrev pub slots_settled : ℕ → WayShape → ℕ
slots_settled most w = if w.regs.growing then min most (slots_left w.regs) else 0

-- A way that is growing, after it migrated `most` slots at most.
abbrev pub settled_way : ℕ → WayShape → WayShape
settled_way most w = if w.regs.growing then advanced (min most (slots_left w.regs)) w else w

-- A way begins to grow: it is not growing, is below its cap, and is fuller than the threshold.
abbrev pub begins : ℕ → WayShape → Bool
begins threshold w =
    not w.regs.growing && (nat_lt w.regs.s w.cap && nat_lt (threshold * 2 ^ w.regs.s) (length w.entries * 100))

-- A way that is fuller than the threshold begins to grow.
abbrev pub begun_if_full : ℕ → WayShape → WayShape
begun_if_full threshold w = if begins threshold w then begun w else w

-- A sum over all ways.
abbrev pub total : (WayShape → ℕ) → List WayShape → ℕ
total f [] = 0
total f (w ∷ ways) = f w + total f ways

-- The ways after an insertion has settled.
unfoldable pub settled : ℕ → ℕ → List WayShape → List WayShape
settled most threshold ways = map (begun_if_full threshold) (map (settled_way most) ways)

-- What was done, with the slots that migrated and the growths that began while it settled.
abbrev pub settled_moves : ℕ → ℕ → List WayShape → Moves → Moves
settled_moves most threshold ways m = record m {
  migrated = plus m.migrated (total (slots_settled most) ways);
  growths = plus m.growths (total (λ w. one_if (begins threshold w)) (map (settled_way most) ways));
}

-- A placed entry settles; where every way is at its cap nothing settles.
abbrev pub after_placing : ℕ → ℕ → Placing → Placing
after_placing most threshold (Placed ways moved m) =
    Placed (settled most threshold ways) moved (settled_moves most threshold ways m)
after_placing most threshold (AtCap ways m) = AtCap ways m

-- an insertion: place, then settle
unfoldable pub insertion : ℕ → ℕ → ℕ → List WayShape → Entry → Placing
insertion limit most threshold ways x = after_placing most threshold (place limit ways x)

-- A way holds a key.
abbrev pub is_held : WayShape → ℕ → Bool
is_held w key = list_any (has_key key) w.entries

-- the way that holds a key
abbrev pub holder_from : ℕ → List WayShape → ℕ → Option ℕ
holder_from i [] key = None
holder_from i (w ∷ ways) key =
    if is_held w key then Some i else holder_from (i + 1) ways key
