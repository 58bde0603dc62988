-- The steps of a change of the words of a tree.
use Rattle.std.specs.Prelude.{ℕ, zero, suc, ◌≡◌, ◌+◌, ◌-◌, ◌*◌, ◌^◌, ◌<◌, ◌≤◌, ◌⊎◌, true, nat_lt, if◌then◌else◌, List, length, slice_index}
use Rattle.std.specs.List.{list_any}
use Rattle.xl_model.specs.declared.leaf.Range.{Range}
use Rattle.xl_model.specs.Ranges.{range_key, is_above}
use Rattle.xl_treap.specs.Treaps.{IsApart, with_range, without_range, resized, last_below, first_from, has_key}
use Rattle.xl_treap.specs.Lines.{node_word, beyond, on_side, side_at, side_in, link_at, range_of_link, IsNode}
use Rattle.xl_treap.specs.declared.node.Side.{Side}
use Rattle.xl_treap.specs.declared.node.Side.TheVariants.{Low, High}
use Rattle.xl_treap.specs.declared.parting.Parts.{Parts}
use Rattle.xl_treap.specs.declared.beside.Beside.{Beside}
use Rattle.xl_treap.specs.declared.own_search.Reached.{Reached}
use Rattle.xl_treap.specs.Trees.{Tree, Tip, Bin, Pair, ranges, found, examined, IsAt, IsHeap, InOrder, Every, Over, down, cut}

-- a node has these links, and no other word changed
pub record IsLinked (old new : List ℕ) (n low high : ℕ) : Type 0 where
  pub len : length new ≡ length old
  pub others : (i : ℕ) → (i ≡ 4 * n + 3 → ⊥) → slice_index new i ≡ slice_index old i
  pub low_is : link_at Low new n ≡ low
  pub high_is : link_at High new n ≡ high

-- a node says this range, and no other word changed
pub record IsLined (old new : List ℕ) (n : ℕ) (x : Range) : Type 0 where
  pub len : length new ≡ length old
  pub key_is : slice_index new (4 * n) ≡ range_key x
  pub pages_is : slice_index new (4 * n + 1) ≡ x.pages
  pub word_is : slice_index new (4 * n + 2) ≡ node_word x
  pub others : (m j : ℕ) → j < 4 → (m ≡ n → ⊥) → slice_index new (4 * m + j) ≡ slice_index old (4 * m + j)

-- a node has n pages, and no other word changed
pub record IsSized (old new : List ℕ) (n pages : ℕ) : Type 0 where
  pub len : length new ≡ length old
  pub is : slice_index new (4 * n + 1) ≡ pages
  pub others : (i : ℕ) → (i ≡ 4 * n + 1 → ⊥) → slice_index new i ≡ slice_index old i

-- a node's link towards the place of a key
abbrev pub step_at : List ℕ → ℕ → ℕ → ℕ
step_at words n k = link_at (side_in words n k) words n

-- a node's link on a side is another one now, the one on the other side stays, and no other word
-- changed
abbrev pub IsHung : List ℕ → List ℕ → ℕ → Side → ℕ → Type 0
IsHung old new n s at = IsLinked old new n (on_side s at (link_at Low old n)) (on_side s (link_at High old n) at)

-- the words of a node all stay
abbrev pub SameLine : List ℕ → List ℕ → ℕ → Type 0
SameLine old new m = (j : ℕ) → j < 4 → slice_index new (4 * m + j) ≡ slice_index old (4 * m + j)

-- each number of a tree's nodes is so
abbrev pub Each : (ℕ → Type 0) → Tree → Type 0
Each P t = Every (λ n x. P n) t

-- a number is no node of a tree
abbrev pub Off : ℕ → Tree → Type 0
Off n t = Each (λ m. m ≡ n → ⊥) t

-- no words changed but those of the nodes of a tree
pub record SameOff (t : Tree) (old new : List ℕ) : Type 0 where
  pub len : length new ≡ length old
  pub same : (m : ℕ) → Off m t → SameLine old new m

-- only links of the nodes of a tree changed
pub record SameBut (t : Tree) (old new : List ℕ) : Type 0 where
  pub off : SameOff t old new
  pub kept : (m j : ℕ) → j < 3 → slice_index new (4 * m + j) ≡ slice_index old (4 * m + j)

-- the words of a tree's nodes say its ranges
abbrev pub Keeps : List ℕ → Tree → Type 0
Keeps words t = Every (IsNode words) t

-- The way down to a key: the links on it, to nodes of other keys, and the one at its end, which is
-- none or that of the key's node.
pub record IsWay (words path : List ℕ) (t : Tree) (k depth at : ℕ) : Type 0 where
  pub short : depth ≤ length path
  pub nodes : (i : ℕ) → i < depth → IsAt words (slice_index path i) (down t k i)
  pub some : (i : ℕ) → i < depth → 0 < slice_index path i
  pub other : (i : ℕ) → i < depth → slice_index words (4 * (slice_index path i - 1)) ≡ k → ⊥
  pub here : IsAt words at (down t k depth)
  pub ends : (at ≡ 0) ⊎ ((0 < at) × (slice_index words (4 * (at - 1)) ≡ k))

-- A tree is cut at a key: its parts have the links `low` and `high`.
pub record IsCut (old new : List ℕ) (low high k : ℕ) (t : Tree) : Type 0 where
  pub parts : (s : Side) → IsAt new (on_side s low high) (cut s k t)
  pub but : SameBut t old new

-- a tree's top is above a key
abbrev pub TopOver : ℕ → Tree → Type 0
TopOver k Tip = ⊥
TopOver k (Bin n x l r) = is_above (range_key x) k ≡ true

-- a key is above all at its depth on its way, and the one before it on the way is above the key
pub record IsPlace (t : Tree) (k depth : ℕ) : Type 0 where
  pub over : Over k (down t k depth)
  pub stop : (d : ℕ) → depth ≡ suc d → TopOver k (down t k d)

-- the top node of a tree to come, by its link: it says its range, and has the tree that lies away
-- from a key
abbrev pub Half : List ℕ → ℕ → ℕ → Tree → Type 0
Half words p k Tip = ⊥
Half words p k (Bin n x l r) =
    (p ≡ suc n) × IsNode words n x
    × IsAt words (link_at (beyond (side_at (range_key x) k)) words n) (on_side (beyond (side_at (range_key x) k)) l r)

-- the way down to a key in a tree to come
pub record IsSpine (words path : List ℕ) (t : Tree) (k depth at : ℕ) : Type 0 where
  pub short : depth ≤ length path
  pub nodes : (i : ℕ) → i < depth → Half words (slice_index path i) k (down t k i)
  pub here : IsAt words at (down t k depth)

-- a tree is in the words from a link on, sorted and heaped
pub record IsTree (words : List ℕ) (root : ℕ) (t : Tree) : Type 0 where
  pub at : IsAt words root t
  pub heap : IsHeap t
  pub apart : IsApart 0 (ranges t)

-- a node that is free: its line is there, and has no pages
pub record IsEmpty (words : List ℕ) (n : ℕ) : Type 0 where
  pub there : 4 * n + 4 ≤ length words
  pub none : slice_index words (4 * n + 1) ≡ 0

-- free nodes other than this one stay free
abbrev pub StayEmpty : List ℕ → List ℕ → ℕ → Type 0
StayEmpty old new n = (e : ℕ) → (e ≡ n → ⊥) → IsEmpty old e → IsEmpty new e

-- the words have a tree of these ranges, and nodes that are free stay free, but for this one
pub record IsMade (old new : List ℕ) (root n : ℕ) (held : List Range) : Type 0 where
  pub tree : Tree
  pub placed : IsTree new root tree
  pub holds : ranges tree ≡ held
  pub len : length new ≡ length old
  pub others : StayEmpty old new n

-- the link to the node before the end of a way
abbrev pub parent_at : List ℕ → ℕ → ℕ
parent_at path zero = 0
parent_at path (suc d) = slice_index path d

-- a link below a parent, on the side of a key, or the root where there is no parent
abbrev pub IsAttached : List ℕ → List ℕ → ℕ → ℕ → ℕ → ℕ → ℕ → Type 0
IsAttached old new root result zero k at = (new ≡ old) × (result ≡ at)
IsAttached old new root result (suc p) k at = IsHung old new p (side_in old p k) at × (result ≡ root)

-- a way that ends at none of the tree's keys
pub record CanPart (words path : List ℕ) (t : Tree) (k depth : ℕ) : Type 0 where
  pub way : IsWay words path t k depth 0
  pub order : InOrder 0 (2 ^ 58) t
  pub heap : IsHeap t

-- The tree so far down a way is parted: as far as the first node on the way up that is above the
-- key.
pub record IsParted (old new : List ℕ) (t : Tree) (k depth : ℕ) (parts : Parts) : Type 0 where
  pub short : parts.depth ≤ depth
  pub cut : IsCut old new parts.low parts.high k (down t k parts.depth)
  pub place : IsPlace t k parts.depth

-- a range can be put into a free node, since it lies over none
pub record CanPut (words : List ℕ) (root nodes : ℕ) (t : Tree) (n : ℕ) (x : Range) : Type 0 where
  pub placed : IsTree words root t
  pub few : length (ranges t) ≤ nodes
  pub empty : IsEmpty words n
  pub small : n < 2 ^ 31
  pub apart : IsApart 0 (with_range x (ranges t))

-- two trees are in the words, the key between them
pub record CanMerge (words : List ℕ) (low high nodes : ℕ) (pair : Pair) : Type 0 where
  pub low_at : IsAt words low pair.low
  pub high_at : IsAt words high pair.high
  pub low_order : InOrder 0 pair.key pair.low
  pub high_order : (top : ℕ) × InOrder (suc pair.key) top pair.high
  pub few : length (ranges pair.low) + length (ranges pair.high) ≤ nodes

-- a spine of a tree to come
pub record CanRise (words path : List ℕ) (t : Tree) (k depth at : ℕ) : Type 0 where
  pub spine : IsSpine words path t k depth at
  pub keeps : Keeps words t
  pub order : (top : ℕ) × InOrder 0 top t

-- a tree was put into the words
pub record IsRisen (old new : List ℕ) (t : Tree) (at : ℕ) : Type 0 where
  pub here : IsAt new at t
  pub but : SameBut t old new

-- a tree has a key
pub record CanTake (words : List ℕ) (root nodes : ℕ) (t : Tree) (k : ℕ) : Type 0 where
  pub placed : IsTree words root t
  pub few : length (ranges t) ≤ nodes
  pub held : list_any (has_key k) (ranges t) ≡ true

-- a node was taken, and is free
pub record IsTaken (old new : List ℕ) (t : Tree) (k root n : ℕ) : Type 0 where
  pub made : IsMade old new root n (without_range k (ranges t))
  pub free : IsEmpty new n
  pub was : IsEmpty old n → ⊥

-- a key's range can have `pages` pages
pub record CanResize (words : List ℕ) (root nodes : ℕ) (t : Tree) (k pages : ℕ) : Type 0 where
  pub take : CanTake words root nodes t k
  pub apart : IsApart 0 (resized k pages (ranges t))

-- a key's range has `pages` pages
pub record IsResized (old new : List ℕ) (t : Tree) (root k pages : ℕ) : Type 0 where
  pub node : ℕ
  pub made : IsMade old new root node (resized k pages (ranges t))
  pub was : IsEmpty old node → ⊥

-- the links to the nodes beside a key's place
pub record AreBeside (words : List ℕ) (t : Tree) (k : ℕ) (found : Beside) : Type 0 where
  pub before_in : 4 * found.before ≤ length words
  pub from_in : 4 * found.from ≤ length words
  pub before_is : range_of_link words found.before ≡ last_below k (ranges t)
  pub from_is : range_of_link words found.from ≡ first_from k (ranges t)

-- the link to the node whose pages hold a key, and the nodes that a search for it examines
pub record IsReached (words : List ℕ) (t : Tree) (k : ℕ) (end : Reached) : Type 0 where
  pub at_in : 4 * end.at ≤ length words
  pub range_is : range_of_link words end.at ≡ found t k
  pub loads_is : end.loads ≡ examined t k
