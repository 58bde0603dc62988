-- Ranges (Karakostas and others, 2015): the maximal runs of leaves of one space, order and permission that
-- are consecutive in pages and frames; and which ranges a search of the treap reads.
use Rattle.std.specs.Prelude.{ℕ, ◌+◌, ◌*◌, ◌^◌, ◌==◌, Bool, ◌&&◌, ◌||◌, not, nat_le, nat_lt, if◌then◌else◌, List, [], ◌∷◌}
use Rattle.std.specs.List.{list_all}
use Rattle.xl_model.specs.declared.perm.Perm.{Perm}
use Rattle.xl_model.specs.declared.leaf.Leaf.{Leaf}
use Rattle.xl_model.specs.declared.leaf.Range.{Range}
use Rattle.xl_model.specs.Addresses.{pages_of, same_order}
use Rattle.xl_model.specs.Hashes.{mix}
use Rattle.xl_model.specs.Base.{same_bit, one_if}

-- Two permissions are the same.
abbrev pub same_perm : Perm → Perm → Bool
same_perm a b = (same_bit a.r b.r && same_bit a.w b.w) && (same_bit a.x b.x && same_bit a.u b.u)

-- The range of a single leaf.
abbrev pub range_of_leaf : Leaf → Range
range_of_leaf leaf = record {
  space = leaf.space;
  start = leaf.first;
  pages = pages_of leaf.order;
  frame = leaf.frame;
  order = leaf.order;
  perm = leaf.perm;
}

-- a leaf joins a range that begins where the leaf ends
abbrev pub goes_into : Leaf → Range → Bool
goes_into leaf r =
    ((leaf.space == r.space) && (same_order leaf.order r.order && same_perm leaf.perm r.perm))
    && ((leaf.first + pages_of leaf.order == r.start) && (leaf.frame + pages_of leaf.order == r.frame))

-- A leaf in front of the ranges after it: it goes into the first of them where it can.
abbrev pub joined : Leaf → List Range → List Range
joined leaf [] = range_of_leaf leaf ∷ []
joined leaf (r ∷ rs) =
    if goes_into leaf r
    then record (range_of_leaf leaf) { pages = pages_of leaf.order + r.pages } ∷ rs
    else (range_of_leaf leaf ∷ r ∷ rs)

-- the ranges of a sorted list of leaves, sorted as they are
unfoldable pub ranges_of : List Leaf → List Range
ranges_of [] = []
ranges_of (leaf ∷ leaves) = joined leaf (ranges_of leaves)

-- A range holds a page of a space.
abbrev pub holds_page : ℕ → ℕ → Range → Bool
holds_page space page r = (r.space == space) && (nat_le r.start page && nat_lt page (r.start + r.pages))

-- The key of a range: 2^52 for each space before it, and its first page.
abbrev pub range_key : Range → ℕ
range_key r = r.space * 2 ^ 52 + r.start

-- The key after a range's last page.
abbrev pub end_key : Range → ℕ
end_key r = range_key r + r.pages

-- Of two ranges of a treap, by their keys, the one with the lesser priority is above; the priority
-- is the hash of the key, and of two equal ones the lesser key is above.
abbrev pub is_above : ℕ → ℕ → Bool
is_above a b = nat_lt (mix a) (mix b) || ((mix a == mix b) && nat_le a b)

-- The place of a key is the range that holds it, or the gap where a range that begins there would
-- be. The range that begins at key z and ends at `end` lies from the range at key y to the place of
-- the key `at`, both inclusive.
abbrev pub is_between : ℕ → ℕ → ℕ → ℕ → Bool
is_between at y z end =
    if nat_le y at then nat_le y z && nat_le z at else (nat_le z y && nat_lt at end)

-- A range is read exactly where it has the least priority among the ranges from it to the place.
abbrev pub is_read : List Range → ℕ → Range → Bool
is_read ranges at y =
    list_all (λ z. not (is_between at (range_key y) (range_key z) (end_key z)) || is_above (range_key y) (range_key z)) ranges

-- How many of these ranges are read.
abbrev pub reads_among : List Range → ℕ → List Range → ℕ
reads_among ranges at [] = 0
reads_among ranges at (y ∷ ys) = one_if (is_read ranges at y) + reads_among ranges at ys

-- How many ranges a search for a page of a space reads.
unfoldable pub range_reads : List Range → ℕ → ℕ → ℕ
range_reads ranges space page = reads_among ranges (space * 2 ^ 52 + page) ranges
