-- What holds of every mapping: its leaves are valid for the row and sorted, no two of one space
-- cover a page, and no two of any spaces hold a frame.
use Rattle.std.specs.Prelude.{List, false, true, ℕ, ◌*◌, ◌+◌, ◌<◌, ◌^◌, ◌≡◌, ◌≤◌}
use Rattle.xl_list_lemmas.specs.Members.{In}
use Rattle.xl_model.specs.Addresses.{levels_of, pages_of}
use Rattle.xl_model.specs.Changes.{Change, Insert, Protect, Relocate, Remove}
use Rattle.xl_model.specs.Mapping.{covers, holds_frames, meets_any}
use Rattle.xl_model.specs.Rows.{Row}
use Rattle.xl_model.specs.declared.address.Order.{Order}
use Rattle.xl_model.specs.declared.leaf.Leaf.{Leaf}
use Rattle.xl_model_lemmas.specs.Lowest.{IsFree}
use Rattle.xl_model_lemmas.specs.Sorted.{IsSorted}

-- a leaf that is at its own places in the row's pages and frames; its permission is legal by its
-- type
pub record IsLeafOf (row : Row) (leaf : Leaf) : Type 0 where
  pub space_in : leaf.space < row.spaces
  pub pages_in : leaf.first + pages_of leaf.order ≤ 2 ^ (9 * levels_of row.mode)
  pub pages_aligned : (e : ℕ) × (leaf.first ≡ e * pages_of leaf.order)
  pub frames_in : leaf.frame + pages_of leaf.order ≤ row.frames
  pub frames_aligned : (e : ℕ) × (leaf.frame ≡ e * pages_of leaf.order)

-- the leaves are valid for the row and sorted; no two of one space cover a page, and no two hold a
-- frame
pub record IsMapping (row : Row) (leaves : List Leaf) : Type 0 where
  pub sorted : IsSorted leaves
  pub valid : (x : Leaf) → In x leaves → IsLeafOf row x
  pub pages : (x y : Leaf) (page : ℕ) → In x leaves → In y leaves → covers x.space page x ≡ true → covers x.space page y ≡ true → x ≡ y
  pub frames : (x y : Leaf) (frame : ℕ) → In x leaves → In y leaves → holds_frames frame 1 x ≡ true → holds_frames frame 1 y ≡ true → x ≡ y

-- A leaf that a walk finds for a page: one of the leaves, which covers the page and is at a
-- multiple of its size.
pub record IsFound (space page : ℕ) (leaves : List Leaf) (leaf : Leaf) : Type 0 where
  pub member : In leaf leaves
  pub covers_page : covers space page leaf ≡ true
  pub aligned : (e : ℕ) × (leaf.first ≡ e * pages_of leaf.order)

-- What a command that no refusal stops has shown of its change: a new leaf is valid, overlaps no
-- leaf and holds free frames; a new place is a block of the row's pages that no leaf overlaps.
pub record IsNewLeaf (row : Row) (leaves : List Leaf) (leaf : Leaf) : Type 0 where
  pub valid : IsLeafOf row leaf
  pub apart : meets_any leaf.space leaf.first leaf.order leaves ≡ false
  pub free : IsFree (pages_of leaf.order) leaf.frame leaves

-- a block of the row's pages that no leaf overlaps
pub record IsNewPlace (row : Row) (leaves : List Leaf) (space to : ℕ) (order : Order) : Type 0 where
  pub space_in : space < row.spaces
  pub pages_in : to + pages_of order ≤ 2 ^ (9 * levels_of row.mode)
  pub pages_aligned : (e : ℕ) × (to ≡ e * pages_of order)
  pub apart : meets_any space to order leaves ≡ false

-- what is known of a change that no refusal stops
abbrev pub IsSound : Row → List Leaf → Change → Type 0
IsSound row leaves (Insert leaf) = IsNewLeaf row leaves leaf
IsSound row leaves (Remove space first order) = Unit {0}
IsSound row leaves (Protect space first order perm) = Unit {0}
IsSound row leaves (Relocate space first to order) = IsNewPlace row leaves space to order
