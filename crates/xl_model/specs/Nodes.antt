-- The nodes of a radix table and their numbers (RISC-V Privileged manual, the walk). A node of
-- level l has 512 slots; the slot of a page leads to level l - 1 or is the page's leaf.
use Rattle.std.specs.Prelude.{ℕ, zero, suc, ◌+◌, ◌-◌, ◌/◌, ◌==◌, Bool, false, ◌&&◌, ◌||◌, nat_lt, if◌then◌else◌, List, [], ◌∷◌, ◌++◌, map, replicate, Option, None, Some}
use Rattle.std.specs.List.{list_any, position_from}
use Rattle.xl_model.specs.declared.leaf.Leaf.{Leaf}
use Rattle.xl_model.specs.Addresses.{level_of}

-- the number of the block of 512^l pages in which a page lies
abbrev pub up : ℕ → ℕ → ℕ
up zero page = page
up (suc l) page = up l page / 512

-- the node of this level for the pages whose number divided by 512^(level + 1) is the prefix
pub record Node : Type 0 where
  pub space : ℕ
  pub level : ℕ
  pub prefix : ℕ

-- A page's node of this level.
abbrev pub node_at : ℕ → ℕ → ℕ → Node
node_at space level page = record { space = space; level = level; prefix = up (suc level) page }

-- A slot is named by its space, its level l and its block of 512^l pages; the node below it is of
-- level l - 1.
abbrev pub is_below : ℕ → ℕ → ℕ → Option Node → Bool
is_below space l block None = false
is_below space l block (Some node) = (node.space == space) && ((node.level + 1 == l) && (node.prefix == block))

-- a leaf is below a slot
abbrev pub is_under : ℕ → ℕ → ℕ → Leaf → Bool
is_under space l block leaf = (leaf.space == space) && (nat_lt (level_of leaf.order) l && (up l leaf.first == block))

-- the mapping needs the node below a slot: the nodes of the mapping, roots aside
unfoldable pub in_nodes : ℕ → ℕ → ℕ → List Leaf → Bool
in_nodes space l block leaves = list_any (is_under space l block) leaves

-- The numbers of the nodes: a list in which the node of number n is at place n, and None where the
-- number is free. It is as long as the table has frames.
unfoldable pub number_of : ℕ → ℕ → ℕ → List (Option Node) → Option ℕ
number_of space l block nodes = position_from (is_below space l block) 0 nodes

-- a new node takes the lowest number that no node has
abbrev pub put_first : Node → List (Option Node) → List (Option Node)
put_first x [] = []
put_first x (None ∷ nodes) = Some x ∷ nodes
put_first x (Some y ∷ nodes) = Some y ∷ put_first x nodes

-- The nodes as they are where the node has a number; else the new ones.
abbrev pub unless_there : Option ℕ → List (Option Node) → List (Option Node) → List (Option Node)
unless_there None nodes new = new
unless_there (Some n) nodes new = nodes

-- The nodes with the node below a slot: a new one takes the lowest free number.
unfoldable pub with_node : ℕ → ℕ → ℕ → List (Option Node) → List (Option Node)
with_node space l block nodes =
    unless_there (number_of space l block nodes) nodes
    (put_first (record { space = space; level = l - 1; prefix = block }) nodes)

-- the nodes below the page's slots of levels l + d down to l + 1: upper ones come first
abbrev pub with_path : ℕ → ℕ → ℕ → ℕ → List (Option Node) → List (Option Node)
with_path space page l zero nodes = nodes
with_path space page l (suc d) nodes =
    with_path space page l d (with_node space (l + suc d) (up (l + suc d) page) nodes)

-- One where there is no number, else none.
abbrev pub one_unless : Option ℕ → ℕ
one_unless None = 1
one_unless (Some n) = 0

-- how many of these nodes aren't there
abbrev pub missing : ℕ → ℕ → ℕ → ℕ → List (Option Node) → ℕ
missing space page l zero nodes = 0
missing space page l (suc d) nodes =
    one_unless (number_of space (l + suc d) (up (l + suc d) page) nodes) + missing space page l d nodes

-- How many numbers are free.
abbrev pub free_count : List (Option Node) → ℕ
free_count [] = 0
free_count (None ∷ nodes) = free_count nodes + 1
free_count (Some node ∷ nodes) = free_count nodes

-- the nodes of a leaf in a table of `levels` levels
unfoldable pub with_leaf_nodes : ℕ → Leaf → List (Option Node) → List (Option Node)
with_leaf_nodes levels leaf nodes =
    with_path leaf.space leaf.first (level_of leaf.order) (levels - 1 - level_of leaf.order) nodes

-- How many nodes a leaf lacks in a table of `levels` levels.
unfoldable pub leaf_nodes_missing : ℕ → Leaf → List (Option Node) → ℕ
leaf_nodes_missing levels leaf nodes =
    missing leaf.space leaf.first (level_of leaf.order) (levels - 1 - level_of leaf.order) nodes

-- A root is always needed, another node where the mapping needs it.
abbrev pub is_needed : ℕ → List Leaf → Node → Bool
is_needed levels leaves node =
    (node.level + 1 == levels) || in_nodes node.space (node.level + 1) node.prefix leaves

-- A node that the mapping needs stays; the number of another is free.
abbrev pub kept_node : ℕ → List Leaf → Option Node → Option Node
kept_node levels leaves None = None
kept_node levels leaves (Some node) = if is_needed levels leaves node then Some node else None

-- the numbers of the nodes that the mapping needs; the others are free again
unfoldable pub only_needed : ℕ → List Leaf → List (Option Node) → List (Option Node)
only_needed levels leaves nodes = map (kept_node levels leaves) nodes

-- the roots of the spaces from this one on, as many as said
abbrev pub roots : ℕ → ℕ → ℕ → List (Option Node)
roots levels space zero = []
roots levels space (suc n) = Some (record { space = space; level = levels - 1; prefix = 0 }) ∷ roots levels (space + 1) n

-- the roots alone: that of space s has number s
unfoldable pub opening_nodes : ℕ → ℕ → ℕ → List (Option Node)
opening_nodes levels spaces frames = roots levels 0 spaces ++ replicate (frames - spaces) None
