-- How one list of places for each set, and how often each distance was met, represent a curve.
use Rattle.std.specs.Prelude.{◌≡◌, ℕ, ◌^◌, ◌%◌, ◌/◌, ◌<◌, ◌≤◌, ◌==◌, ◌&&◌, Bool, true, List, [], map, take, slice_index_or, slice_set, length, Option, None, Some}
use Rattle.std.specs.List.{list_all, range_with_len, sum}
use Rattle.xl_model.specs.declared.leaf.Leaf.{Leaf}
use Rattle.xl_model.specs.Addresses.{pages_of}
use Rattle.xl_model.specs.Base.{plus}
use Rattle.xl_curve_model.specs.Curves.{Point, HitCurve, same_leaf, spec_of_width}
use Rattle.xl_curve.specs.Places.{held, place_without, shifted}

-- The hits of a width: each distance below it is a hit.
abbrev pub hits_below : List ℕ → ℕ → ℕ
hits_below counts width = sum (take width counts) % 2 ^ 64

-- The point of a width: each set's list of places gives its recency list.
abbrev pub point_at : List (List (Option Leaf)) → List ℕ → ℕ → Point
point_at stacks counts width = record {
  array = record { spec = spec_of_width (length stacks) width; sets = map (held width) stacks };
  hits = hits_below counts width;
}

-- The curve of all widths.
unfoldable pub curve_of : List (List (Option Leaf)) → List ℕ → ℕ → HitCurve
curve_of stacks counts lookups =
    record { points = map (point_at stacks counts) (range_with_len 1 64); lookups = lookups }

-- A distance is counted, where there is one.
abbrev pub counted : Option ℕ → List ℕ → List ℕ
counted None counts = counts
counted (Some d) counts = slice_set counts d (plus (slice_index_or counts d 0) 1)

-- The set of a leaf.
abbrev pub set_of : ℕ → Leaf → ℕ
set_of sets leaf = leaf.first / pages_of leaf.order % sets

-- One list of places is brought up to date, and the others stay.
abbrev pub with_front : ℕ → Leaf → List (List (Option Leaf)) → List (List (Option Leaf))
with_front set leaf stacks = slice_set stacks set (take 64 (shifted (same_leaf leaf) leaf (slice_index_or stacks set [])))

-- The leaves of one set that pass a test leave holes, and the other sets stay.
abbrev pub with_removed : (Leaf → Bool) → ℕ → List (List (Option Leaf)) → List (List (Option Leaf))
with_removed q set stacks = slice_set stacks set (map (place_without q) (slice_index_or stacks set []))

-- Some lists are those, with the leaves of one set removed that pass a test.
pub record IsRemovedIn (q : Leaf → Bool) (set : ℕ) (old new : List (List (Option Leaf))) : Type 0 where
  pub is : new ≡ with_removed q set old

-- The leaves that pass a test leave holes in every set.
abbrev pub removed : (Leaf → Bool) → List (List (Option Leaf)) → List (List (Option Leaf))
removed q stacks = map (map (place_without q)) stacks

-- A leaf is in its own set, and its first page is a multiple of its order's pages.
abbrev pub is_placed : ℕ → ℕ → Option Leaf → Bool
is_placed sets set None = true
is_placed sets set (Some leaf) = (set_of sets leaf == set) && (leaf.first % pages_of leaf.order == 0)

-- There are from 1 to 256 sets, and each leaf is in its own.
pub record IsCurve (stacks : List (List (Option Leaf))) : Type 0 where
  pub some : 0 < length stacks
  pub most : length stacks ≤ 256
  pub placed : (set : ℕ) → list_all (is_placed (length stacks) set) (slice_index_or stacks set []) ≡ true
