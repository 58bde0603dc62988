-- Leaves that a table of chains keeps: their places, and the mapping that has them.
use Rattle.std.specs.Prelude.{List, [], ◌<◌, ◌^◌, ◌∷◌}
use Rattle.xl_model.specs.Mapping.{with_leaf}
use Rattle.xl_model.specs.declared.leaf.Leaf.{Leaf}

-- a leaf at a place that a hashed table has
pub record IsPlaced (leaf : Leaf) : Type 0 where
  pub space_in : leaf.space < 64
  pub page_in : leaf.first < 2 ^ 45

-- the mapping that has these leaves
unfoldable pub mapping_of : List Leaf → List Leaf
mapping_of [] = []
mapping_of (x ∷ xs) = with_leaf x (mapping_of xs)
