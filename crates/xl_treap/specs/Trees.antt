-- Trees of ranges, their words, and their changes. Their keys rise from left to right, and the
-- priorities of their keys rise downwards.
use Rattle.std.specs.Prelude.{ℕ, zero, suc, ◌≡◌, ◌-◌, ◌≤◌, true, nat_lt, if◌then◌else◌, List, [], ◌∷◌, ◌++◌, Option, None, Some}
use Rattle.xl_treap.specs.declared.node.Side.{Side}
use Rattle.xl_treap.specs.declared.node.Side.TheVariants.{Low, High}
use Rattle.xl_model.specs.declared.leaf.Range.{Range}
use Rattle.xl_model.specs.Ranges.{range_key, end_key, is_above}
use Rattle.xl_treap.specs.Treaps.{IsFit}
use Rattle.xl_treap.specs.Lines.{range_of_node, on_side, side_at, link_at, IsNode}

-- a tree: nothing, or a node with its number, its range, and the trees on its left and on its right
pub data Tree : Type 0 where
  Tip : Tree
  Bin : (node : ℕ) → (range : Range) → (low : Tree) → (high : Tree) → Tree

-- the ranges of a tree, from left to right
abbrev pub ranges : Tree → List Range
ranges Tip = []
ranges (Bin n x l r) = ranges l ++ x ∷ ranges r

-- a tree with this at its top, if there is a range
abbrev pub tree_by : ℕ → Option Range → Tree → Tree → Tree
tree_by n None l r = Tip
tree_by n (Some x) l r = Bin n x l r

-- the tree that the words have from a link on, n nodes deep
abbrev pub tree_at : ℕ → List ℕ → ℕ → Tree
tree_at zero words at = Tip
tree_at (suc d) words zero = Tip
tree_at (suc d) words (suc n) =
    tree_by n (range_of_node words n) (tree_at d words (link_at Low words n)) (tree_at d words (link_at High words n))

-- the words have this tree from a link on
abbrev pub IsAt : List ℕ → ℕ → Tree → Type 0
IsAt words at Tip = at ≡ 0
IsAt words at (Bin n x l r) =
    (at ≡ suc n) × IsNode words n x × IsAt words (link_at Low words n) l × IsAt words (link_at High words n) r

-- a tree's ranges lie between two keys, sorted, none over another
abbrev pub InOrder : ℕ → ℕ → Tree → Type 0
InOrder low high Tip = low ≤ high
InOrder low high (Bin n x l r) = IsFit x × InOrder low (range_key x) l × InOrder (end_key x) high r

-- each of a tree's nodes is so, by its number and its range
abbrev pub Every : (ℕ → Range → Type 0) → Tree → Type 0
Every P Tip = Unit {0}
Every P (Bin n x l r) = P n x × Every P l × Every P r

-- a key is above each of a tree's
abbrev pub Over : ℕ → Tree → Type 0
Over k t = Every (λ n x. is_above k (range_key x) ≡ true) t

-- each key of a tree is above those under it
abbrev pub IsHeap : Tree → Type 0
IsHeap Tip = Unit {0}
IsHeap (Bin n x l r) = Over (range_key x) l × Over (range_key x) r × IsHeap l × IsHeap r

-- the tree on a side of a tree's top
abbrev pub child : Side → Tree → Tree
child s Tip = Tip
child s (Bin n x l r) = on_side s l r

-- a tree with another one on a side of its top
abbrev pub with_child : Side → Tree → Tree → Tree
with_child s Tip t = t
with_child s (Bin n x l r) t = Bin n x (on_side s t l) (on_side s r t)

-- the side of a tree's top on which the place of a key is
abbrev pub toward : ℕ → Tree → Side
toward k Tip = Low
toward k (Bin n x l r) = side_at (range_key x) k

-- n steps down towards the place of a key
abbrev pub down : Tree → ℕ → ℕ → Tree
down t k zero = t
down Tip k (suc d) = Tip
down (Bin n x l r) k (suc d) = down (on_side (side_at (range_key x) k) l r) k d

-- a tree with another one n steps down
abbrev pub graft : Tree → ℕ → ℕ → Tree → Tree
graft t k zero s = s
graft Tip k (suc d) s = s
graft (Bin n x l r) k (suc d) s =
    with_child (side_at (range_key x) k) (Bin n x l r) (graft (on_side (side_at (range_key x) k) l r) k d s)

-- the range of a tree whose pages hold a key
abbrev pub found : Tree → ℕ → Option Range
found Tip k = None
found (Bin n x l r) k =
    if nat_lt k (range_key x) then found l k else (if nat_lt (k - range_key x) x.pages then Some x else found r k)

-- how many nodes a search for it examines
abbrev pub examined : Tree → ℕ → ℕ
examined Tip k = 0
examined (Bin n x l r) k =
    if nat_lt k (range_key x)
    then suc (examined l k)
    else (if nat_lt (k - range_key x) x.pages then 1 else suc (examined r k))

-- what a node and the cut trees under it have on a side of a key, which is on the second side of
-- the node
abbrev pub cut_by : Side → Side → ℕ → Range → Tree → Tree → Tree → Tree → Tree
cut_by Low Low n x l r a b = a
cut_by Low High n x l r a b = Bin n x l b
cut_by High Low n x l r a b = Bin n x a r
cut_by High High n x l r a b = b

-- what a tree has on a side of a key: below it, or from it on
abbrev pub cut : Side → ℕ → Tree → Tree
cut s k Tip = Tip
cut s k (Bin n x l r) = cut_by s (side_at (range_key x) k) n x l r (cut s k l) (cut s k r)

-- a node with two trees of which the left one is there, and a way to make one of the right tree and
-- another
abbrev pub merge_into : ℕ → Range → Tree → Tree → (Tree → Tree) → Tree → Tree
merge_into n x l r on Tip = Bin n x l r
merge_into n x l r on (Bin m y c d) =
    if is_above (range_key x) (range_key y) then Bin n x l (on (Bin m y c d)) else Bin m y (merge_into n x l r on c) d

-- one tree of two, of which the second lies after the first
abbrev pub merge : Tree → Tree → Tree
merge Tip b = b
merge (Bin n x l r) b = merge_into n x l r (λ z. merge r z) b

-- two trees, and a key between them
pub record Pair : Type 0 where
  pub low : Tree
  pub high : Tree
  pub key : ℕ
