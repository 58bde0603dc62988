-- The nodes of a radix table and their numbers.
use Rattle.std.specs.Prelude.{ℕ, ◌≡◌, ◌+◌, ◌-◌, ◌<◌, ◌⊎◌, true, List, ◌∷◌, length, nat_le, slice_index_or, Option, None, Some}
use Rattle.xl_model.specs.declared.leaf.Leaf.{Leaf}
use Rattle.xl_model.specs.declared.script.Item.{Item}
use Rattle.xl_model.specs.Changes.{Change}
use Rattle.xl_model.specs.Nodes.{Node, in_nodes}
use Rattle.xl_model.specs.Shapes.{Shape, Radix, Chained, Cuckoo, Runs, brought}
use Rattle.xl_model.specs.Room.{has_room}
use Rattle.xl_model.specs.Rows.{Row}
use Rattle.xl_model.specs.Items.{run}
use Rattle.xl_list_lemmas.specs.Members.{In, Once}

-- the root of a space
abbrev pub root_of : ℕ → ℕ → Node
root_of levels space = record { space = space; level = levels - 1; prefix = 0 }

-- a node that a mapping needs: the root of one of the spaces, or a node below the roots with a leaf
-- under it
abbrev pub IsNodeOf : ℕ → ℕ → List Leaf → Node → Type 0
IsNodeOf levels spaces leaves x =
    ((space : ℕ) × (space < spaces) × (x ≡ root_of levels space))
    ⊎ ((x.level + 1 < levels) × (in_nodes x.space (x.level + 1) x.prefix leaves ≡ true))

-- the nodes that the mapping needs have numbers, each one number, and no other node has one; space
-- s's root has number s
pub record AreNumbered (levels spaces : ℕ) (leaves : List Leaf) (nodes : List (Option Node)) : Type 0 where
  pub roots : (space : ℕ) → space < spaces → slice_index_or nodes space None ≡ Some (root_of levels space)
  pub there : (x : Node) → IsNodeOf levels spaces leaves x → (n : ℕ) × (slice_index_or nodes n None ≡ Some x)
  pub only : (n : ℕ) (x : Node) → slice_index_or nodes n None ≡ Some x → IsNodeOf levels spaces leaves x
  pub once : (m n : ℕ) (x : Node) → slice_index_or nodes m None ≡ Some x → slice_index_or nodes n None ≡ Some x → m ≡ n

-- a radix table numbers exactly the nodes that the mapping needs
abbrev pub HasNumbers : List Leaf → Shape → Type 0
HasNumbers leaves (Radix levels spaces nodes) = AreNumbered levels spaces leaves nodes
HasNumbers leaves (Chained group buckets entries tags) = Unit {0}
HasNumbers leaves (Cuckoo rules ways) = Unit {0}
HasNumbers leaves (Runs ranges) = Unit {0}

-- After every list of items the nodes with numbers are exactly those that the mapping needs.
abbrev pub TheNodesAreTheMappings : Type 0
TheNodesAreTheMappings =
    (row : Row) (items : List Item)
    → HasNumbers (run row items).table.leaves (run row items).table.shape

-- the nodes that a mapping needs, each once
pub record AreNodesOf (levels spaces : ℕ) (leaves : List Leaf) (nodes : List Node) : Type 0 where
  pub once : Once nodes
  pub there : (x : Node) → IsNodeOf levels spaces leaves x → In x nodes
  pub only : (x : Node) → In x nodes → IsNodeOf levels spaces leaves x

-- A radix table has room for a leaf where the nodes of the mapping with it are at most the table's
-- frames.
abbrev pub RoomIsForAllNodes : Type 0
RoomIsForAllNodes =
    (row : Row) (items : List Item) (c : Change) (leaf : Leaf) (levels spaces : ℕ) (numbers : List (Option Node)) (nodes : List Node)
    → (run row items).table.shape ≡ Radix levels spaces numbers → brought c (run row items).table.leaves ≡ Some leaf
    → AreNodesOf levels spaces (leaf ∷ (run row items).table.leaves) nodes
    → has_room c (run row items).table.leaves (Radix levels spaces numbers) ≡ nat_le (length nodes) (length numbers)
