-- The lines of a text, and the words of a line.
use Rattle.std.specs.Prelude.{ℕ, ◌==◌, List, [], ◌∷◌, map, if◌then◌else◌}
use Rattle.std.specs.List.{position_or_len}
use Rattle.xl_text.specs.Texts.{is_blank, lines_of, without_return}

-- The lines of a text, each without its newline and without one carriage return before it.
unfoldable pub script_lines : List ℕ → List (List ℕ)
script_lines text = map without_return (lines_of text)

-- The number of bytes before a text's first newline, or of all its bytes.
abbrev pub to_newline : List ℕ → ℕ
to_newline text = position_or_len (λ b. b == 10) text

-- A byte in front of the first of some pieces.
abbrev pub onto : ℕ → List (List ℕ) → List (List ℕ)
onto b [] = (b ∷ []) ∷ []
onto b (piece ∷ pieces) = (b ∷ piece) ∷ pieces

-- What is between the blanks of a line.
abbrev pub pieces : List ℕ → List (List ℕ)
pieces [] = [] ∷ []
pieces (b ∷ bs) = if is_blank b then [] ∷ pieces bs else onto b (pieces bs)

-- The pieces that aren't empty, up to the first that begins with `#`, where a comment begins.
abbrev pub up_to_comment : List (List ℕ) → List (List ℕ)
up_to_comment [] = []
up_to_comment ([] ∷ rest) = up_to_comment rest
up_to_comment ((b ∷ bs) ∷ rest) = if b == 35 then [] else (b ∷ bs) ∷ up_to_comment rest

-- The words of a line.
unfoldable pub words_of : List ℕ → List (List ℕ)
words_of line = up_to_comment (pieces line)
