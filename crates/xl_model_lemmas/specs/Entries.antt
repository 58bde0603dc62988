-- A leaf that may be there: in front of other leaves, or else another one.
use Rattle.std.specs.Prelude.{List, None, Option, Some, [], ◌∷◌}
use Rattle.xl_model.specs.declared.leaf.Leaf.{Leaf}

-- a leaf in front, where there is one
abbrev pub with_some : Option Leaf → List Leaf → List Leaf
with_some None leaves = leaves
with_some (Some leaf) leaves = leaf ∷ leaves

-- the first leaf, or else the other
abbrev pub or_leaf : Option Leaf → Option Leaf → Option Leaf
or_leaf None other = other
or_leaf (Some leaf) other = Some leaf
