-- The words of a table that are not 0.
use Rattle.std.specs.Prelude.{ℕ, suc, ◌/◌, ◌%◌, List, [], ◌∷◌}
use Rattle.xl_model.specs.Image.{Word, unless_zero}

-- The words that are not 0 from a place on, each with its node and its index there: a node has 512
-- words.
abbrev pub filled_from : ℕ → List ℕ → List Word
filled_from place [] = []
filled_from place (word ∷ words) = unless_zero (place / 512) (place % 512) word (filled_from (suc place) words)

-- The words of a table that are not 0, by node and then index, rising.
unfoldable pub filled_words : List ℕ → List Word
filled_words words = filled_from 0 words
