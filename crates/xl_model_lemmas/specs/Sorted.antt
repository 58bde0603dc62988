-- Lists of leaves that are sorted.
use Rattle.std.specs.Prelude.{List, [], ℕ, ◌<◌, ◌∷◌}
use Rattle.xl_model.specs.Mapping.{leaf_key}
use Rattle.xl_model.specs.declared.leaf.Leaf.{Leaf}

-- each leaf's key is above this number
abbrev pub AllAbove : ℕ → List Leaf → Type 0
AllAbove k [] = Unit {0}
AllAbove k (x ∷ xs) = (k < leaf_key x) × AllAbove k xs

-- sorted by space, then first page, and no place twice
abbrev pub IsSorted : List Leaf → Type 0
IsSorted [] = Unit {0}
IsSorted (x ∷ xs) = AllAbove (leaf_key x) xs × IsSorted xs
