-- The halves of bytes.
use Rattle.std.specs.Prelude.{ℕ, ◌/◌, ◌%◌, List, [], ◌∷◌, ◌++◌}

-- The upper half and the lower half of each byte, the last byte's first.
abbrev pub halves_of : List ℕ → List ℕ
halves_of [] = []
halves_of (b ∷ bs) = halves_of bs ++ b / 16 ∷ b % 16 ∷ []
