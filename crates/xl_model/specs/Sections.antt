-- Sections of a cuckoo row: what the 2 MiB and 1 GiB stretches of the spaces hold (the cuckoo walk
-- caches of Skarlatos and others, 2020). A 2 MiB section says whether it holds 4 KiB leaves or is a
-- 2 MiB leaf; a 1 GiB section whether it holds leaves of each size or is a 1 GiB leaf. One that is
-- a leaf also has the way of that leaf's key.
use Rattle.std.specs.Prelude.{ℕ, ◌+◌, ◌*◌, ◌/◌, ◌^◌, ◌==◌, Bool, true, false, ◌&&◌, nat_le, if◌then◌else◌, List, [], ◌∷◌, length, Option, None, Some}
use Rattle.std.specs.List.{list_any}
use Rattle.xl_model.specs.declared.address.Order.{Order}
use Rattle.xl_model.specs.declared.address.Order.TheVariants as order
use Rattle.xl_model.specs.declared.leaf.Leaf.{Leaf}
use Rattle.xl_model.specs.Addresses.{level_of, pages_of, same_order}
use Rattle.xl_model.specs.Base.{same_bit}
use Rattle.xl_model.specs.Ways.{WayShape}
use Rattle.xl_model.specs.Placing.{holder_from}

-- A section of this order (2 MiB or 1 GiB); `block` is its number among the sections of its space.
pub record Section : Type 0 where
  pub space : ℕ
  pub block : ℕ
  pub has_k4 : Bool
  pub has_m2 : Bool
  pub has_g1 : Bool
  pub way : Option ℕ

-- a leaf that counts for a section: one of its stretch that isn't larger
abbrev pub counts_for : Order → ℕ → ℕ → Leaf → Bool
counts_for size space block leaf =
    (leaf.space == space)
    && (nat_le (level_of leaf.order) (level_of size) && (leaf.first / pages_of size == block))

-- A leaf of this order counts for a section.
abbrev pub holds_order : Order → ℕ → ℕ → Order → List Leaf → Bool
holds_order size space block o leaves =
    list_any (λ leaf. counts_for size space block leaf && same_order leaf.order o) leaves

-- A way, where a section is a leaf of its own order.
abbrev pub way_where : Bool → Option ℕ → Option ℕ
way_where true way = way
way_where false way = None

-- The number of a section among all of its order: 2^45 for each space before it, and its block.
abbrev pub section_key : ℕ → ℕ → ℕ
section_key space block = space * 2 ^ 45 + block

-- the section of a mapping whose leaves of the section's own order are in these ways
unfoldable pub section_of : Order → ℕ → ℕ → List Leaf → List WayShape → Section
section_of size space block leaves ways = record {
  space = space;
  block = block;
  has_k4 = holds_order size space block order.K4 leaves;
  has_m2 = holds_order size space block order.M2 leaves;
  has_g1 = holds_order size space block order.G1 leaves;
  way = way_where (holds_order size space block size leaves) (holder_from 0 ways (section_key space block));
}

-- A key put to a list in which each key occurs once.
abbrev pub with_key : ℕ → List ℕ → List ℕ
with_key key keys = if list_any (λ k. k == key) keys then keys else (key ∷ keys)

-- The keys of the sections of this order that exist, each once: those for which some leaf counts.
abbrev pub section_keys : Order → List Leaf → List ℕ
section_keys size [] = []
section_keys size (leaf ∷ leaves) =
    if nat_le (level_of leaf.order) (level_of size)
    then with_key (section_key leaf.space (leaf.first / pages_of size)) (section_keys size leaves)
    else section_keys size leaves

-- How many sections of this order exist.
abbrev pub section_count : Order → List Leaf → ℕ
section_count size leaves = length (section_keys size leaves)

-- Two sections have the same way, or both none.
abbrev pub same_way : Option ℕ → Option ℕ → Bool
same_way None None = true
same_way None (Some b) = false
same_way (Some a) None = false
same_way (Some a) (Some b) = a == b

-- Two sections of one place have the same content.
abbrev pub same_section : Section → Section → Bool
same_section a b =
    (same_bit a.has_k4 b.has_k4 && same_bit a.has_m2 b.has_m2)
    && (same_bit a.has_g1 b.has_g1 && same_way a.way b.way)

-- A section is that of this block of a space.
abbrev pub is_section : ℕ → ℕ → Section → Bool
is_section space block s = (s.space == space) && (s.block == block)

-- whether a section leaves it possible that the page has a leaf of this order
abbrev pub holds : Section → Order → Bool
holds s order.K4 = s.has_k4
holds s order.M2 = s.has_m2
holds s order.G1 = s.has_g1
