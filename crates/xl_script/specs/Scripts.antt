-- Scripts of any form: a text is read line by line, and a line may depend on the lines before it.
use Rattle.std.specs.Prelude.{◌≡◌, ℕ, ◌+◌, nat_lt, List, [], ◌∷◌, ◌++◌, length, Option, None, Some, Result, Ok, Err, if◌then◌else◌}
use Rattle.xl_script.specs.declared.fault.ScriptFault.{ScriptFault}
use Rattle.xl_script.specs.declared.fault.ScriptFault.TheVariants as fault
use Rattle.xl_script.specs.Texts.{script_lines, words_of}

-- What the words of a line say to a state: the state after the line and its command, if it has one,
-- or the number of the first reason that holds.
abbrev pub Said : Type 0 → Type 0 → Type 0
Said S C = Result (S × Option C) ℕ

-- The result of lines: the state after them and their commands, or what is wrong.
abbrev pub Reading : Type 0 → Type 0 → Type 0
Reading S C = Result (S × List C) ScriptFault

-- Commands before those that a reading gives.
abbrev pub after : {S C : Type 0} → List C → Reading S C → Reading S C
after earlier (Ok (s, later)) = Ok (s, earlier ++ later)
after earlier (Err f) = Err f

-- The command of one line, if it has one, before those of later lines.
abbrev pub onto_command : {S C : Type 0} → Option C → Reading S C → Reading S C
onto_command None later = later
onto_command (Some c) later = after (c ∷ []) later

-- The result of a line of this number and then the lines after it: the first bad line alone counts.
abbrev pub and_then : {S C : Type 0} → ℕ → Said S C → (S → Reading S C) → Reading S C
and_then number (Ok (s, command)) later = onto_command command (later s)
and_then number (Err why) later = Err (fault.BadLine number why)

-- The result of the lines of a form, from this number on.
abbrev pub lines_read : {S C : Type 0} → (S → List (List ℕ) → Said S C) → S → ℕ → List (List ℕ) → Reading S C
lines_read said s number [] = Ok (s, [])
lines_read said s number (line ∷ lines) =
    and_then number (said s (words_of line)) (λ t. lines_read said t (number + 1) lines)

-- The result of a text of a form: it is too long, or the first bad line counts, or it has commands.
unfoldable pub text_read : {S C : Type 0} → (S → List (List ℕ) → Said S C) → S → List ℕ → Reading S C
text_read said s text =
    if nat_lt 1048576 (length text) then Err fault.TooLong else lines_read said s 1 (script_lines text)

-- What the reading of one line returns is what the line says.
abbrev pub Follows : {S C : Type 0} → Result (Option C) ℕ → S → Said S C → Type 0
Follows (Ok command) s said = said ≡ Ok (s, command)
Follows (Err why) s said = said ≡ Err why

-- What a reading of a text returns is the text's result, but for want of memory; `view` gives its
-- commands.
abbrev pub Gives : {V S C : Type 0} → (V → List C) → Result V ScriptFault → S → Reading S C → Type 0
Gives view (Ok commands) s said = said ≡ Ok (s, view commands)
Gives view (Err fault.NoMemory) s said = Unit {0}
Gives view (Err (fault.BadLine line why)) s said = said ≡ Err (fault.BadLine line why)
Gives view (Err fault.TooLong) s said = said ≡ Err fault.TooLong

-- A line was taken in: the commands and any later lines together have the result that they had.
abbrev pub Adds : {S C : Type 0} → Result (Unit {0}) ScriptFault → List C → List C → S → ℕ → Said S C → Type 0
Adds {S} {C} (Ok done) old new s number said =
    (later : S → Reading S C) → after new (later s) ≡ after old (and_then number said later)
Adds (Err fault.NoMemory) old new s number said = Unit {0}
Adds {S} {C} (Err (fault.BadLine line why)) old new s number said =
    (later : S → Reading S C) → and_then number said later ≡ Err (fault.BadLine line why)
Adds (Err fault.TooLong) old new s number said = ⊥
