-- The records of a trace, read from its bytes, and the state of a reader.
use Rattle.std.specs.Prelude.{◌≡◌, ℕ, ◌+◌, ◌%◌, ◌^◌, Bool, true, false, List, [], ◌∷◌, ◌++◌, Option, None, Some}
use Rattle.xl_text.specs.Texts.{lines_of, ended_lines, lines_by}
use Rattle.xl_lackey.specs.declared.reference.Letter.{Letter}
use Rattle.xl_lackey.specs.declared.line.Verdict.{Verdict}
use Rattle.xl_lackey.specs.declared.line.Verdict.TheVariants.{Skipped, Found, Bad}
use Rattle.xl_lackey.specs.declared.fault.Fault.{Fault}
use Rattle.xl_lackey.specs.Lines.{judge}

-- The number of the line after n: lines are numbered from 1, modulo 2 ^ 64.
abbrev pub next_line : ℕ → ℕ
next_line n = (n + 1) % 2 ^ 64

-- A record of the trace, with the number of its line.
pub record Record : Type 0 where
  pub letter : Letter
  pub addr : ℕ
  pub size : ℕ
  pub line : ℕ

-- The records of some lines, and after them the end, which is None, or the first bad line.
abbrev pub Left : Type 0
Left = List Record × Option Fault

-- What a line of this number and verdict gives, before what comes after it.
abbrev pub with_verdict : ℕ → Verdict → Left → Left
with_verdict n Skipped later = later
with_verdict n (Found l a s) later = (record { letter = l; addr = a; size = s; line = n } ∷ later.0, later.1)
with_verdict n (Bad why) later = ([], Some (record { line = n; reason = why }))

-- The records of lines that follow the first `n`.
abbrev pub records : ℕ → List (List ℕ) → Left
records n [] = ([], None)
records n (line ∷ lines) = with_verdict (next_line n) (judge line) (records (next_line n) lines)

-- The records of a whole trace, and its end or first bad line.
abbrev pub records_of : List ℕ → Left
records_of text = records 0 (lines_of text)

-- A line's number and verdict where it isn't skipped, else those of a later line.
abbrev pub of_due : ℕ → Verdict → ℕ × Verdict → ℕ × Verdict
of_due n Skipped later = later
of_due n (Found l a s) later = (n, Found l a s)
of_due n (Bad why) later = (n, Bad why)

-- The number and the verdict of the first line that isn't skipped; Skipped where there is none.
abbrev pub first_due : ℕ → List (List ℕ) → ℕ × Verdict
first_due n [] = (n, Skipped)
first_due n (line ∷ lines) = of_due (next_line n) (judge line) (first_due (next_line n) lines)

-- Where a reader is: how many lines ended, the bytes held, whether the input has ended, and the bad
-- line that was returned, if there is one. Of a long line that isn't ended yet, the first 258 bytes
-- alone may be held: they say whether the line is skipped or bad, as all its bytes do.
pub record State : Type 0 where
  pub lines : ℕ
  pub held : List ℕ
  pub finished : Bool
  pub bad : Option Fault

-- A reader that was fed nothing yet.
abbrev pub fresh : State
fresh = record { lines = 0; held = []; finished = false; bad = None }

-- What some lines after the first `n` give to a reader; nothing but the bad line, where it returned
-- one.
abbrev pub unless_bad : Option Fault → ℕ → List (List ℕ) → Left
unless_bad None n lines = records n lines
unless_bad (Some fault) n lines = ([], Some fault)

-- What a reader at which these bytes are still to come has before it; `last` says whether a last
-- line without a newline counts.
abbrev pub left_by : Bool → State → List ℕ → Left
left_by last s rest = unless_bad s.bad s.lines (lines_by last (s.held ++ rest))

-- What is left for a reader at which these bytes are all that is still to come.
abbrev pub left : State → List ℕ → Left
left s rest = left_by true s rest

-- What a reader gives of the lines that end, where these bytes are next to come.
abbrev pub due : State → List ℕ → Left
due s rest = left_by false s rest

-- Bytes that may still come: none once the input has ended. Where a last line without a newline
-- doesn't count, the input hasn't ended.
abbrev pub MayCome : Bool → State → List ℕ → Type 0
MayCome true s rest = s.finished ≡ true → rest ≡ []
MayCome false s rest = s.finished ≡ false

-- The input hasn't ended, no bad line was returned, and each whole line held is skipped.
abbrev pub NeedsMore : State → Type 0
NeedsMore s = (s.finished ≡ false) × (s.bad ≡ None) × ((first_due s.lines (ended_lines s.held)).1 ≡ Skipped)
