-- The lowest free block of data frames. There is a candidate at frame 0 and one after each leaf:
-- the least of them that is free is the least free block of all, which a law says.
use Rattle.std.specs.Prelude.{ℕ, ◌+◌, ◌-◌, ◌*◌, ◌/◌, min, Bool, ◌&&◌, not, nat_le, List, [], ◌∷◌, filter, map, Option, None, Some}
use Rattle.std.specs.List.{list_any}
use Rattle.xl_model.specs.declared.address.Order.{Order}
use Rattle.xl_model.specs.declared.leaf.Leaf.{Leaf}
use Rattle.xl_model.specs.Addresses.{pages_of}
use Rattle.xl_model.specs.Mapping.{holds_frames}

-- The block of `size` frames from here on lies among the frames, and no leaf holds one of them.
abbrev pub is_free_block : ℕ → ℕ → List Leaf → ℕ → Bool
is_free_block frames size leaves at = nat_le (at + size) frames && not (list_any (holds_frames at size) leaves)

-- the first multiple of the size that isn't before the leaf's end
abbrev pub following : ℕ → Leaf → ℕ
following size leaf = (leaf.frame + pages_of leaf.order + (size - 1)) / size * size

-- The lesser of a number and another, if there is another.
abbrev pub lesser : ℕ → Option ℕ → Option ℕ
lesser x None = Some x
lesser x (Some y) = Some (min x y)

-- The least of some numbers; none of no number.
abbrev pub least : List ℕ → Option ℕ
least [] = None
least (x ∷ xs) = lesser x (least xs)

-- The lowest free block of frames for a leaf of this order; none where no block is free.
unfoldable pub lowest : ℕ → Order → List Leaf → Option ℕ
lowest frames order leaves =
    least (filter (is_free_block frames (pages_of order) leaves) (0 ∷ map (following (pages_of order)) leaves))
