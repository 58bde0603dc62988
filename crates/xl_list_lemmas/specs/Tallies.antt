-- How many members of a list pass a test.
use Rattle.std.specs.Prelude.{Bool, List, [], ℕ, ◌+◌, ◌∷◌}
use Rattle.xl_model.specs.Base.{one_if}

-- how many members of a list pass a test
abbrev pub tally : {A : Type 0} → (A → Bool) → List A → ℕ
tally p [] = 0
tally p (x ∷ xs) = one_if (p x) + tally p xs
