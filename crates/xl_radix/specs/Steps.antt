-- Steps of the walk and of the making of nodes.
use Rattle.std.specs.Prelude.{ℕ, suc, ◌≡◌, ◌+◌, ◌-◌, ◌<◌, ◌≤◌, true, false, ◌⊎◌, List, length, slice_index_or, Option, None, Some}
use Rattle.xl_model.specs.declared.leaf.Leaf.{Leaf}
use Rattle.xl_model.specs.declared.address.Order.{Order}
use Rattle.xl_model.specs.Changes.{Change, Relocate, IsNamed, changed}
use Rattle.xl_model.specs.Mapping.{with_leaf, without_leaf, meets_any}
use Rattle.xl_model.specs.Nodes.{up, Node, is_below, number_of, with_path, with_leaf_nodes, missing, free_count}
use Rattle.xl_model.specs.Shapes.{Shape, Radix, brought, shape_after}
use Rattle.xl_model.specs.Structures.{IsLeafFor}
use Rattle.xl_model.specs.Image.{leaf_in}
use Rattle.xl_radix.specs.Table.{Table}

-- The node of this number is the page's at this level.
pub record IsAtNode (space page level number : ℕ) (nodes : List (Option Node)) : Type 0 where
  pub at_node : is_below space (suc level) (up (suc level) page) (slice_index_or nodes number None) ≡ true

-- The walk of a page down to a level stops in this node of a level: at the level that was asked
-- for, or above it where no node is below. So the path lacks the nodes from there down, and no
-- others.
pub record IsEnd (top space page least level number : ℕ) (nodes : List (Option Node)) : Type 0 where
  pub least_in : least ≤ level
  pub level_in : level < top
  pub at : IsAtNode space page level number nodes
  pub ends : (level ≡ least) ⊎ (number_of space level (up level page) nodes ≡ None)
  pub path : with_path space page least (top - 1 - least) nodes ≡ with_path space page least (level - least) nodes
  pub lacks : missing space page least (top - 1 - least) nodes ≡ level - least

-- A node is at a page, and the page's slot in it is empty.
pub record IsReady (space page level number : ℕ) (leaves : List Leaf) (nodes : List (Option Node)) : Type 0 where
  pub at : IsAtNode space page level number nodes
  pub empty : leaf_in space level (up level page) leaves ≡ None
  pub absent : number_of space level (up level page) nodes ≡ None

-- The shape of a table of this many levels.
abbrev pub shape_of : ℕ → Table → Shape
shape_of levels t = Radix levels t.spaces t.nodes

-- A list of nodes with some of them given back.
pub record IsLess (old new : List (Option Node)) : Type 0 where
  pub size : length new ≡ length old
  pub each : (n : ℕ) → (slice_index_or new n None ≡ slice_index_or old n None) ⊎ (slice_index_or new n None ≡ None)

-- n nodes were given back, and none of this level or above.
pub record IsTaken (level given : ℕ) (old new : List (Option Node)) : Type 0 where
  pub less : IsLess old new
  pub others : (a b c n : ℕ) → level < b → is_below a b c (slice_index_or old n None) ≡ true → is_below a b c (slice_index_or new n None) ≡ true
  pub count : free_count new ≡ free_count old + given

-- A leaf that moves, as it is afterwards: a leaf that the table can take, at a block that no leaf
-- overlaps. Beside it the old one still has its name, and without the old one the mapping is that
-- after the move.
pub record IsMove (top spaces space first to : ℕ) (order : Order) (leaf : Leaf) (leaves : List Leaf) (nodes : List (Option Node)) : Type 0 where
  pub brings : brought (Relocate space first to order) leaves ≡ Some leaf
  pub valid : IsLeafFor (Radix top spaces nodes) leaf
  pub free : meets_any leaf.space leaf.first leaf.order leaves ≡ false
  pub named : IsNamed space first order (with_leaf leaf leaves)
  pub after : without_leaf space first (with_leaf leaf leaves) ≡ changed (Relocate space first to order) leaves

-- The nodes with those that a leaf lacks, where there is a leaf.
abbrev pub with_brought : ℕ → Option Leaf → List (Option Node) → List (Option Node)
with_brought top None nodes = nodes
with_brought top (Some leaf) nodes = with_leaf_nodes top leaf nodes

-- A change was made: the nodes that the new leaf lacked have come, and then `given` that no leaf
-- needs were given back.
pub record IsMade (top : ℕ) (c : Change) (given : ℕ) (old new : Table) : Type 0 where
  pub leaves : new.leaves ≡ changed c old.leaves
  pub shape : shape_of top new ≡ shape_after c old.leaves (shape_of top old)
  pub less : IsLess (with_brought top (brought c old.leaves) old.nodes) new.nodes
  pub count : free_count new.nodes ≡ free_count (with_brought top (brought c old.leaves) old.nodes) + given
  pub spaces : new.spaces ≡ old.spaces
  pub loads : new.loads ≡ old.loads
