-- A table of ranges as the layers above see it, what its type keeps, and the results of its
-- changes.
use Rattle.std.specs.Prelude.{ℕ, ◌+◌, ◌^◌, ◌<◌, ◌≤◌, ◌≡◌, Bool, true, false, nat_lt, List, [], length, Option, None, Some}
use Rattle.xl_model.specs.declared.address.Order.{Order}
use Rattle.xl_model.specs.declared.leaf.Leaf.{Leaf}
use Rattle.xl_model.specs.declared.leaf.Range.{Range}
use Rattle.xl_model.specs.Mapping.{leaf_at_page, leaf_named}
use Rattle.xl_model.specs.Changes.{Change, changed}
use Rattle.xl_model.specs.Ranges.{holds_page}
use Rattle.xl_model.specs.Room.{has_room}
use Rattle.xl_model.specs.Shapes.{Runs}
use Rattle.xl_model.specs.Caches.{Cached, RangeCache, empty_cache}
use Rattle.xl_model.specs.Structures.{TableState}
use Rattle.xl_list_lemmas.specs.Members.{In}
use Rattle.xl_range.specs.HeldRanges.{IsHeld, IsLeafIn, spread, leaf_in}
use Rattle.xl_treap.specs.Treaps.{TreapView, TreapState, keeping, IsFit}

-- A page of a range.
pub record IsAt (page : ℕ) (r : Range) : Type 0 where
  pub fit : IsFit r
  pub from : r.start ≤ page
  pub below : page < r.start + r.pages

-- The last range that begins below the end of a block reaches into the block.
abbrev pub meets_where : ℕ → Option Range → Bool
meets_where first None = false
meets_where first (Some r) = nat_lt first (r.start + r.pages)

-- The table of a treap that may hold `ranges` ranges, and of a range TLB.
abbrev pub row_of : ℕ → TreapView → Cached Range → TableState
row_of ranges t c = record {
  leaves = spread t.kept;
  shape = Runs ranges;
  caches = RangeCache c;
  loads = t.loads;
}

-- A table of ranges as contracts see it.
pub record RowState : Type 0 where
  pub treap : TreapState
  pub tlb : Cached Range
  pub ranges : ℕ

-- The table as the layers above see it.
abbrev pub row_table : RowState → TableState
row_table s = row_of s.ranges s.treap.seen s.tlb

-- An empty table that may hold `ranges` ranges, with an empty range TLB of a width.
abbrev pub opening_table : ℕ → ℕ → TableState
opening_table ranges width = record { leaves = []; shape = Runs ranges; caches = RangeCache (empty_cache width); loads = 0 }

-- Each page of a range is covered by the leaf that the range has there: with its frame, order and
-- permission.
abbrev pub IsFresh : List Leaf → Range → Type 0
IsFresh leaves r = (page : ℕ) → holds_page r.space page r ≡ true → leaf_at_page r.space page leaves ≡ Some (leaf_in page r)

-- Each of the ranges is fresh.
abbrev pub AllFresh : List Leaf → List Range → Type 0
AllFresh leaves items = (r : Range) → In r items → IsFit r × IsFresh leaves r

-- A treap holds maximal ranges, at most `ranges`, and has a node more.
pub record IsTable (ranges : ℕ) (t : TreapView) : Type 0 where
  pub held : IsHeld 0 t.kept
  pub few : length t.kept ≤ ranges
  pub nodes : ranges < t.nodes
  pub loads_in : t.loads < 2 ^ 64

-- A treap holds maximal ranges, and nothing stale is cached.
pub record IsRow (ranges : ℕ) (t : TreapView) (c : Cached Range) : Type 0 where
  pub whole : IsTable ranges t
  pub fresh : AllFresh (spread t.kept) c.items

-- A treap holds the maximal ranges of these leaves; else it is as it was.
pub record HasRanges (xs : List Leaf) (old new : TreapView) : Type 0 where
  pub held : IsHeld 0 new.kept
  pub leaves : spread new.kept ≡ xs
  pub rest : new ≡ keeping old new.kept

-- A change is made exactly where there is room: then the treap holds the ranges of the leaves that
-- the change leaves. Else it is as it was.
pub record IsDone (c : Change) (ranges : ℕ) (old : TreapView) (result : Bool) (new : TreapView) : Type 0 where
  pub room : result ≡ has_room c (spread old.kept) (Runs ranges)
  pub made : result ≡ true → HasRanges (changed c (spread old.kept)) old new
  pub same : result ≡ false → new ≡ old

-- The held range of a leaf that is there.
pub record HasLeaf (space first : ℕ) (o : Order) (held : List Range) (r : Range) : Type 0 where
  pub member : In r held
  pub place : IsLeafIn space first o r
  pub named : leaf_named space first o (spread held) ≡ Some (leaf_in first r)
