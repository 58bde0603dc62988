-- The walk of the manual over a list of words (RISC-V Privileged manual).
use Rattle.std.specs.Prelude.{ℕ, zero, suc, ◌≡◌, ◌+◌, ◌-◌, ◌*◌, ◌/◌, ◌%◌, ◌<◌, ◌≤◌, Bool, nat_le, if◌then◌else◌, List, length, slice_index, slice_index_or, Option, None, Some}
use Rattle.xl_model.specs.declared.leaf.Leaf.{Leaf}
use Rattle.xl_model.specs.Addresses.{level_of}
use Rattle.xl_model.specs.Mapping.{leaf_at_page}
use Rattle.xl_model.specs.Nodes.{up, Node, number_of}
use Rattle.xl_model.specs.Walks.{end_level}
use Rattle.xl_pte.specs.Decode.{decode_of}
use Rattle.xl_pte.specs.declared.word.Pte.{Pte}
use Rattle.xl_pte.specs.declared.word.Pte.TheVariants as pte
use Rattle.xl_radix.specs.declared.walk_end.WalkEnd.{WalkEnd}
use Rattle.xl_radix.specs.declared.walk_end.WalkEnd.TheVariants as end
use Rattle.xl_model.specs.Image.{word_of, image}
use Rattle.xl_radix.specs.Filled.{filled_words}
use Rattle.xl_radix.specs.ReadBack.{order_of, leaf_said}

-- The place of the word of a page in a node of this level.
abbrev pub place_of : ℕ → ℕ → ℕ → ℕ
place_of level node page = node * 512 + up level page % 512

-- The line of four words in which a place lies is all there.
abbrev pub is_there : List ℕ → ℕ → Bool
is_there words place = nat_le (place / 4 * 4 + 4) (length words)

-- The level at which a walk ended.
abbrev pub end_of : WalkEnd → ℕ
end_of (end.Leaf level frame perm) = level
end_of (end.Invalid level) = level
end_of (end.Reserved level) = level
end_of (end.Misaligned level) = level
end_of (end.OutOfBus level) = level

-- What a word ends the walk with, or where it continues.
abbrev pub end_at : Pte → ℕ → (ℕ → WalkEnd) → WalkEnd
end_at pte.Invalid level on = end.Invalid level
end_at (pte.Pointer node) level on = on node
end_at (pte.Leaf frame perm) level on = end.Leaf level frame perm
end_at pte.Reserved level on = end.Reserved level
end_at pte.Misaligned level on = end.Misaligned level

-- The walk of a page from a node, with this number of levels left: it reads the word of the page,
-- and continues at a pointer one level down.
abbrev pub reading : List ℕ → ℕ → ℕ → ℕ → WalkEnd
reading words zero node page = end.Reserved zero
reading words (suc level) node page =
    if is_there words (place_of level node page)
    then end_at (decode_of (slice_index words (place_of level node page)) level) level (λ next. reading words level next page)
    else end.OutOfBus level

-- The walk of a page from a node of this level.
unfoldable pub radix_back : List ℕ → ℕ → ℕ → ℕ → WalkEnd
radix_back words level node page = reading words (suc level) node page

-- The end of the walk to a page's leaf; without one, at the level at which the page's nodes end.
abbrev pub walk_end : Option Leaf → ℕ → WalkEnd
walk_end None level = end.Invalid level
walk_end (Some leaf) level = end.Leaf (level_of leaf.order) leaf.frame leaf.perm

-- The walk of a page that a leaf covers ends at the leaf's level, and its word there says the leaf.
-- There are 3 to 5 levels and at most 16,384 numbers.
pub record LeavesSaid (top : ℕ) (leaves : List Leaf) (nodes : List (Option Node)) : Type 0 where
  pub ends : (space page : ℕ) (x : Leaf) → leaf_at_page space page leaves ≡ Some x → end_level (top - 1) 0 space page leaves ≡ level_of x.order
  pub said : (space page : ℕ) (x : Leaf) → leaf_at_page space page leaves ≡ Some x → leaf_said space (up (level_of x.order) page) (order_of (level_of x.order)) (pte.Leaf x.frame x.perm) ≡ Some x
  pub levels : (3 ≤ top) × (top ≤ 5)
  pub small : length nodes ≤ 16384

-- Each space's root has the space's number. From each node, at its level and number, the walk over
-- the words of a page of the node finds the leaf that covers the page, else it ends where the nodes
-- of the mapping end. A node that the walk enters has its number. Each word is the one that the
-- leaves and the nodes give, and those that aren't 0 are the image of the leaves and the nodes. And
-- leaves are said by their words.
pub record WordsReadBack (top spaces : ℕ) (leaves : List Leaf) (nodes : List (Option Node)) (words : List ℕ) : Type 0 where
  pub roots : (space : ℕ) → space < spaces → number_of space top 0 nodes ≡ Some space
  pub back : (space page level node : ℕ) → number_of space (suc level) (up (suc level) page) nodes ≡ Some node → radix_back words level node page ≡ walk_end (leaf_at_page space page leaves) (end_level (top - 1) 0 space page leaves)
  pub entered : (space page level node next : ℕ) → number_of space (suc level) (up (suc level) page) nodes ≡ Some node → decode_of (slice_index words (place_of level node page)) level ≡ pte.Pointer next → number_of space level (up level page) nodes ≡ Some next
  pub each : (node index : ℕ) → node < length nodes → index < 512 → slice_index words (node * 512 + index) ≡ word_of leaves nodes (slice_index_or nodes node None) index
  pub filled : filled_words words ≡ image leaves nodes
  pub kept : LeavesSaid top leaves nodes
