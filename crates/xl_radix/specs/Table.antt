-- What a radix table keeps.
use Rattle.std.specs.Prelude.{ℕ, zero, suc, ◌≡◌, ◌+◌, ◌*◌, ◌/◌, ◌%◌, ◌^◌, ◌<◌, ◌≤◌, true, ◌⊎◌, List, length, slice_index, slice_index_or, Option, None}
use Rattle.xl_model.specs.declared.leaf.Leaf.{Leaf}
use Rattle.xl_model.specs.Addresses.{level_of, pages_of}
use Rattle.xl_model.specs.Nodes.{up, Node, is_below, in_nodes, number_of}
use Rattle.xl_list_lemmas.specs.Members.{In}
use Rattle.xl_model_lemmas.specs.Sorted.{IsSorted}
use Rattle.xl_model.specs.Image.{word_of}

-- A radix table: its leaves, its nodes by number, its words, its spaces, and the loads made of it.
pub record Table : Type 0 where
  pub leaves : List Leaf
  pub nodes : List (Option Node)
  pub words : List ℕ
  pub spaces : ℕ
  pub loads : ℕ

-- The same without loads; and for each node how many of its words aren't 0.
pub record Stored : Type 0 where
  pub leaves : List Leaf
  pub nodes : List (Option Node)
  pub words : List ℕ
  pub used : List ℕ
  pub spaces : ℕ

-- A leaf of a table with this many levels and spaces: its pages and frames are aligned.
pub record IsRadixLeaf (top spaces : ℕ) (leaf : Leaf) : Type 0 where
  pub space_in : leaf.space < spaces
  pub aligned : up (level_of leaf.order) leaf.first * pages_of leaf.order ≡ leaf.first
  pub first_in : up top leaf.first ≡ 0
  pub key_in : leaf.first < 2 ^ 52
  pub frame_in : leaf.frame < 2 ^ 44
  pub frame_aligned : leaf.frame % 2 ^ (9 * level_of leaf.order) ≡ 0

-- Each leaf is one of such a table, they are sorted, and no two of a space have a page in common.
pub record IsRadixMapping (top spaces : ℕ) (leaves : List Leaf) : Type 0 where
  pub proper : (x : Leaf) → In x leaves → IsRadixLeaf top spaces x
  pub sorted : IsSorted leaves
  pub apart : (x y : Leaf) → In x leaves → In y leaves → x.space ≡ y.space → level_of x.order ≤ level_of y.order → up (level_of y.order) x.first ≡ up (level_of y.order) y.first → x ≡ y

-- A leaf that overlaps no leaf of a table, at its level or at theirs.
pub record IsNew (top spaces : ℕ) (x : Leaf) (leaves : List Leaf) : Type 0 where
  pub proper : IsRadixLeaf top spaces x
  pub over : (y : Leaf) → In y leaves → y.space ≡ x.space → level_of y.order ≤ level_of x.order → up (level_of x.order) y.first ≡ up (level_of x.order) x.first → ⊥
  pub under : (y : Leaf) → In y leaves → y.space ≡ x.space → level_of x.order ≤ level_of y.order → up (level_of y.order) y.first ≡ up (level_of y.order) x.first → ⊥

-- The words are the image of the leaves and the nodes. Each node but a root has its parent, no node
-- has two numbers, and the leaves have their nodes.
pub record IsImage (top : ℕ) (leaves : List Leaf) (nodes : List (Option Node)) (words : List ℕ) : Type 0 where
  pub size : length words ≡ length nodes * 512
  pub same : (n i : ℕ) → n < length nodes → i < 512 → slice_index words (n * 512 + i) ≡ word_of leaves nodes (slice_index_or nodes n None) i
  pub apart : (s l q n m : ℕ) → is_below s l q (slice_index_or nodes n None) ≡ true → is_below s l q (slice_index_or nodes m None) ≡ true → n ≡ m
  pub closed : (s l q n : ℕ) → is_below s l q (slice_index_or nodes n None) ≡ true → (l ≡ top) ⊎ ((number_of s (suc l) (q / 512) nodes ≡ None → ⊥) × (l < top))
  pub full : (s l q : ℕ) → in_nodes s l q leaves ≡ true → l ≤ top → number_of s l q nodes ≡ None → ⊥

-- Each node but a root is one that the leaves need.
pub record IsExact (top : ℕ) (leaves : List Leaf) (nodes : List (Option Node)) : Type 0 where
  pub needed : (s l q n : ℕ) → is_below s l q (slice_index_or nodes n None) ≡ true → (l ≡ top) ⊎ (in_nodes s l q leaves ≡ true)

-- The same, but for the nodes of a page's path, which is being made for a leaf of level l.
pub record IsNearly (top space page l : ℕ) (leaves : List Leaf) (nodes : List (Option Node)) : Type 0 where
  pub nearly : (a b c n : ℕ) → is_below a b c (slice_index_or nodes n None) ≡ true → (b ≡ top) ⊎ ((in_nodes a b c leaves ≡ true) ⊎ ((a ≡ space) × (l < b) × (c ≡ up b page)))

-- 1 for a word that isn't 0, else 0.
abbrev pub one_if_filled : ℕ → ℕ
one_if_filled zero = 0
one_if_filled (suc word) = 1

-- How many of the words from a place on, n of them, aren't 0.
unfoldable pub filled : List ℕ → ℕ → ℕ → ℕ
filled words from zero = 0
filled words from (suc n) = filled words from n + one_if_filled (slice_index words (from + n))

-- Each number's count is how many of its words aren't 0.
pub record IsCounted (nodes : List (Option Node)) (words : List ℕ) (used : List ℕ) : Type 0 where
  pub places : length used ≡ length nodes
  pub each : (n : ℕ) → n < length nodes → slice_index used n ≡ filled words (n * 512) 512

-- The root of each space has the space's number.
pub record IsRooted (top spaces : ℕ) (nodes : List (Option Node)) : Type 0 where
  pub root : (s : ℕ) → s < spaces → is_below s top 0 (slice_index_or nodes s None) ≡ true
  pub spaces_in : spaces ≤ length nodes
  pub small : length nodes ≤ 16384

-- What holds at every moment, also while a path is made or given back.
pub record IsStore (top spaces : ℕ) (leaves : List Leaf) (nodes : List (Option Node)) (words : List ℕ) (used : List ℕ) : Type 0 where
  pub high : 3 ≤ top
  pub low : top ≤ 5
  pub mapping : IsRadixMapping top spaces leaves
  pub image : IsImage top leaves nodes words
  pub counted : IsCounted nodes words used
  pub rooted : IsRooted top spaces nodes
