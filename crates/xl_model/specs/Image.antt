-- The words of a radix table, as its mapping and its nodes give them (RISC-V Privileged manual, the walk).
-- A slot is named by its space, its level l and its block of 512^l pages; index i of a node of level l
-- with prefix q is the slot of block 512 q + i.
use Rattle.std.specs.Prelude.{ℕ, zero, suc, ◌+◌, ◌*◌, ◌==◌, Bool, ◌&&◌, List, [], ◌∷◌, ◌++◌, find, Option, None, Some}
use Rattle.xl_model.specs.declared.leaf.Leaf.{Leaf}
use Rattle.xl_model.specs.Addresses.{level_of}
use Rattle.xl_model.specs.Words.{pointer_word, leaf_word}
use Rattle.xl_model.specs.Nodes.{Node, up, number_of}

-- The leaf is at the slot.
abbrev pub is_slot : ℕ → ℕ → ℕ → Leaf → Bool
is_slot space l block leaf = (leaf.space == space) && ((level_of leaf.order == l) && (up l leaf.first == block))

-- The leaf that is at the slot, if there is one.
unfoldable pub leaf_in : ℕ → ℕ → ℕ → List Leaf → Option Leaf
leaf_in space l block leaves = find (is_slot space l block) leaves

-- A slot has the word of its leaf, else a pointer to the node below it, else 0.
abbrev pub entry : Option Leaf → Option ℕ → ℕ
entry (Some leaf) number = leaf_word leaf.frame leaf.perm
entry None (Some number) = pointer_word number
entry None None = 0

-- The word of a slot.
unfoldable pub word_at : List Leaf → List (Option Node) → ℕ → ℕ → ℕ → ℕ
word_at leaves nodes space l block = entry (leaf_in space l block leaves) (number_of space l block nodes)

-- The word at an index of a node. A number that no node has, has words 0.
abbrev pub word_of : List Leaf → List (Option Node) → Option Node → ℕ → ℕ
word_of leaves nodes None index = 0
word_of leaves nodes (Some node) index = word_at leaves nodes node.space node.level (node.prefix * 512 + index)

-- A word of a table, with the number of its node and its index there.
pub record Word : Type 0 where
  pub node : ℕ
  pub index : ℕ
  pub word : ℕ

-- A word in front of others, unless it is 0.
abbrev pub unless_zero : ℕ → ℕ → ℕ → List Word → List Word
unless_zero number index zero words = words
unless_zero number index (suc word) words = record { node = number; index = index; word = suc word } ∷ words

-- Those of a node's words that are not 0, from an index on, as many as are left.
abbrev pub words_from : List Leaf → List (Option Node) → ℕ → Node → ℕ → ℕ → List Word
words_from leaves nodes number node index zero = []
words_from leaves nodes number node index (suc left) =
    unless_zero number index (word_of leaves nodes (Some node) index)
    (words_from leaves nodes number node (suc index) left)

-- The same of the nodes from a number on.
abbrev pub image_from : List Leaf → List (Option Node) → ℕ → List (Option Node) → List Word
image_from leaves nodes number [] = []
image_from leaves nodes number (None ∷ rest) = image_from leaves nodes (suc number) rest
image_from leaves nodes number (Some node ∷ rest) =
    words_from leaves nodes number node 0 512 ++ image_from leaves nodes (suc number) rest

-- The words of a table that are not 0, by node and then index, rising.
unfoldable pub image : List Leaf → List (Option Node) → List Word
image leaves nodes = image_from leaves nodes 0 nodes
