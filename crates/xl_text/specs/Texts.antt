-- The lines of a text, and the blanks of a line. A newline is 10, a carriage return 13, a space 32, a tab 9.
use Rattle.std.specs.Prelude.{ℕ, ◌-◌, ◌==◌, Bool, true, false, ◌||◌, List, [], ◌∷◌, length, take, slice_index, if◌then◌else◌}

-- A blank is a space or a tab.
abbrev pub is_blank : ℕ → Bool
is_blank b = (b == 32) || (b == 9)

-- A byte in front of the lines that follow it. Where there is none, it begins a last line that no
-- newline ends, which may count or not.
abbrev pub in_first : Bool → ℕ → List (List ℕ) → List (List ℕ)
in_first last b (line ∷ lines) = (b ∷ line) ∷ lines
in_first true b [] = (b ∷ []) ∷ []
in_first false b [] = []

-- The lines of a text, each without the newline that ends it; `last` says whether a last line
-- without a newline counts, where it isn't empty.
abbrev pub lines_by : Bool → List ℕ → List (List ℕ)
lines_by last [] = []
lines_by last (b ∷ bs) = if b == 10 then [] ∷ lines_by last bs else in_first last b (lines_by last bs)

-- The lines of a text: each newline ends one, and the last may go without where it isn't empty.
abbrev pub lines_of : List ℕ → List (List ℕ)
lines_of text = lines_by true text

-- The lines of a text that a newline ends.
abbrev pub ended_lines : List ℕ → List (List ℕ)
ended_lines text = lines_by false text

-- A line without one carriage return at its end.
abbrev pub without_return : List ℕ → List ℕ
without_return line = if slice_index line (length line - 1) == 13 then take (length line - 1) line else line
