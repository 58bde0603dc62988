-- A table as the layers above see it: its leaves, shape, caches and loads; and what its calls answer and leave.
use Rattle.std.specs.Prelude.{ℕ, ◌+◌, ◌-◌, ◌^◌, ◌<◌, ◌≤◌, ◌≡◌, ◌*◌, Bool, true, false, List, Option, None, Some, Result, Ok, Err}
use Rattle.xl_model.specs.declared.address.Order.{Order}
use Rattle.xl_model.specs.declared.leaf.Leaf.{Leaf}
use Rattle.xl_model.specs.declared.event.Reach.{Reach}
use Rattle.xl_model.specs.declared.way.Moves.{Moves}
use Rattle.xl_model.specs.declared.work.NoRoom.TheVariants as why
use Rattle.xl_model.specs.declared.work.Refused.{Refused}
use Rattle.xl_model.specs.declared.work.Walk.{Walk}
use Rattle.xl_model.specs.declared.work.Work.{Work}
use Rattle.xl_model.specs.Addresses.{pages_of}
use Rattle.xl_model.specs.Mapping.{leaf_at_page}
use Rattle.xl_model.specs.Changes.{Change, changed}
use Rattle.xl_model.specs.Base.{plus}
use Rattle.xl_model.specs.Placing.{no_moves}
use Rattle.xl_model.specs.Shapes.{Shape, Radix, Chained, Cuckoo, Runs, brought, widened, shape_after, placed_leaf, moves_of, is_placed}
use Rattle.xl_model.specs.Room.{has_room}
use Rattle.xl_model.specs.Caches.{Caches, entries_in, caches_purged, caches_fenced}
use Rattle.xl_model.specs.Walks.{walked}

-- A table as the layers above see it.
pub record TableState : Type 0 where
  pub leaves : List Leaf
  pub shape : Shape
  pub caches : Caches
  pub loads : ℕ

-- the result of the attempt of a cuckoo table, where a change makes one
abbrev pub moves_made : Option Leaf → Shape → Moves
moves_made None shape = no_moves
moves_made (Some leaf) (Cuckoo rules ways) = moves_of (placed_leaf rules ways leaf)
moves_made (Some leaf) (Radix levels spaces nodes) = no_moves
moves_made (Some leaf) (Chained group buckets entries tags) = no_moves
moves_made (Some leaf) (Runs ranges) = no_moves

-- The leaf that a change brings finds a place in the ways of a cuckoo table; other tables have no
-- ways.
abbrev pub finds_place : Option Leaf → Shape → Bool
finds_place None shape = true
finds_place (Some leaf) (Cuckoo rules ways) = is_placed (placed_leaf rules ways leaf)
finds_place (Some leaf) (Radix levels spaces nodes) = true
finds_place (Some leaf) (Chained group buckets entries tags) = true
finds_place (Some leaf) (Runs ranges) = true

-- The work of a change: what the ways did, and how many entries left the caches.
abbrev pub work_of : Moves → ℕ → Work
work_of m invalidated = record {
  kicks = m.kicks;
  undone = m.undone;
  migrated = m.migrated;
  growths = m.growths;
  invalidated = invalidated;
}

-- A change is made; or there is no room, and nothing changes; or there is no place in the ways, and
-- the forced growths stay.
pub data Verdict : Type 0 where
  Made : Verdict
  NoSpace : Verdict
  NoPlace : Verdict

-- First room is tested, then place.
abbrev pub verdict_by : Bool → Bool → Verdict
verdict_by false placed = NoSpace
verdict_by true false = NoPlace
verdict_by true true = Made

-- What becomes of a change.
unfoldable pub verdict : Change → TableState → Verdict
verdict c t = verdict_by (has_room c t.leaves t.shape) (finds_place (brought c t.leaves) t.shape)

-- the table after a change that is made
unfoldable pub table_made : Change → TableState → TableState
table_made c t = record t {
  leaves = changed c t.leaves;
  shape = shape_after c t.leaves t.shape;
  caches = caches_purged c t.leaves t.shape (shape_after c t.leaves t.shape) t.caches;
}

-- The answer of a verdict, with the work of the change.
abbrev pub answer_by : Verdict → Change → TableState → Result Work Refused
answer_by NoSpace c t = Err (record { why = why.NoTable; work = work_of no_moves 0 })
answer_by NoPlace c t = Err (record { why = why.WayAtCap; work = work_of (moves_made (brought c t.leaves) t.shape) 0 })
answer_by Made c t =
    Ok (work_of (moves_made (brought c t.leaves) t.shape) (entries_in t.caches - entries_in (table_made c t).caches))

-- The table after a verdict.
abbrev pub after_by : Verdict → Change → TableState → TableState
after_by NoSpace c t = t
after_by NoPlace c t = record t { shape = widened (brought c t.leaves) t.shape }
after_by Made c t = table_made c t

-- the answer to a change, and the table after it
unfoldable pub table_answer : Change → TableState → Result Work Refused
table_answer c t = answer_by (verdict c t) c t

-- The table after a change.
unfoldable pub table_after : Change → TableState → TableState
table_after c t = after_by (verdict c t) c t

-- What a walk finds: the leaf that covers the page, and how many caches hit.
unfoldable pub walk_answer : ℕ → ℕ → TableState → Walk
walk_answer space page t = record {
  leaf = leaf_at_page space page t.leaves;
  cache_hits = (walked t.shape t.caches t.leaves space page).cache_hits;
}

-- The table after a walk: its caches are touched and filled, and its loads are counted.
unfoldable pub table_walked : ℕ → ℕ → TableState → TableState
table_walked space page t = record t {
  caches = (walked t.shape t.caches t.leaves space page).caches;
  loads = plus t.loads (walked t.shape t.caches t.leaves space page).reads;
}

-- How many entries a fence takes from the caches.
unfoldable pub fence_answer : Reach → TableState → ℕ
fence_answer to t = entries_in t.caches - entries_in (caches_fenced to t.caches)

-- The table after a fence.
unfoldable pub table_fenced : Reach → TableState → TableState
table_fenced to t = record t { caches = caches_fenced to t.caches }

-- The result of a change is that of the definitions, and so is the table after it.
pub record IsChange (c : Change) (old : TableState) (result : Result Work Refused) (new : TableState) : Type 0 where
  pub answer : result ≡ table_answer c old
  pub after : new ≡ table_after c old

-- The result of a walk is that of the definitions, and so is the table after it.
pub record IsWalk (space page : ℕ) (old : TableState) (result : Walk) (new : TableState) : Type 0 where
  pub answer : result ≡ walk_answer space page old
  pub after : new ≡ table_walked space page old

-- The result of a fence is that of the definitions, and so is the table after it.
pub record IsFence (to : Reach) (old : TableState) (result : ℕ) (new : TableState) : Type 0 where
  pub answer : result ≡ fence_answer to old
  pub after : new ≡ table_fenced to old

-- spaces and pages that a table of this shape takes
abbrev pub spaces_of : Shape → ℕ
spaces_of (Radix levels spaces nodes) = spaces
spaces_of (Chained group buckets entries tags) = 64
spaces_of (Cuckoo rules ways) = 64
spaces_of (Runs ranges) = 64

-- Pages below this number are those that a table of this shape takes.
abbrev pub page_limit : Shape → ℕ
page_limit (Radix levels spaces nodes) = 2 ^ (9 * levels)
page_limit (Chained group buckets entries tags) = 2 ^ 45
page_limit (Cuckoo rules ways) = 2 ^ 45
page_limit (Runs ranges) = 2 ^ 45

-- A page of a space that a table of this shape takes.
pub record IsPage (shape : Shape) (space page : ℕ) : Type 0 where
  pub space_in : space < spaces_of shape
  pub page_in : page < page_limit shape

-- a block of pages whose first page is a multiple of its size
pub record IsBlock (shape : Shape) (space first : ℕ) (order : Order) : Type 0 where
  pub space_in : space < spaces_of shape
  pub pages_in : first + pages_of order ≤ page_limit shape
  pub aligned : (e : ℕ) × (first ≡ e * pages_of order)

-- a leaf that a table of this shape can take
pub record IsLeafFor (shape : Shape) (leaf : Leaf) : Type 0 where
  pub block : IsBlock shape leaf.space leaf.first leaf.order
  pub frames_in : leaf.frame + pages_of leaf.order ≤ 2 ^ 44
  pub frames_aligned : (e : ℕ) × (leaf.frame ≡ e * pages_of leaf.order)
