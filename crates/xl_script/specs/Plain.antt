-- The script of a run.
use Rattle.std.specs.Prelude.{◌≡◌, ℕ, ◌+◌, nat_lt, List, [], ◌∷◌, None, Some, Result, Ok, Err, if◌then◌else◌}
use Rattle.xl_model.specs.declared.script.Command.{Command}
use Rattle.xl_script.specs.declared.fault.ScriptFault.{ScriptFault}
use Rattle.xl_script.specs.declared.fault.ScriptFault.TheVariants as fault
use Rattle.xl_script.specs.declared.reason.Reason.{Reason}
use Rattle.xl_script.specs.declared.reason.Reason.TheVariants as reason
use Rattle.xl_script.specs.Commands.{command_of}
use Rattle.xl_script.specs.Placing.{is_area}
use Rattle.xl_script.specs.Reading.{◌>>=◌, code_of}
use Rattle.xl_script.specs.Scripts.{Said, Reading, text_read}

-- A command after `areas` areas, and how many there are then: at most 256.
abbrev pub counted : ℕ → Command → Result (ℕ × Command) Reason
counted areas c =
    if is_area c then (if nat_lt areas 256 then Ok (areas + 1, c) else Err reason.TooManyAreas) else Ok (areas, c)

-- The command of a line after `areas` areas, by its first word and the words after it.
abbrev pub counted_line : ℕ → List ℕ → List (List ℕ) → Result (ℕ × Command) Reason
counted_line areas first rest = command_of first rest >>= counted areas

-- A command with the areas after it, as a line says it.
abbrev pub numbered : Result (ℕ × Command) Reason → Said ℕ Command
numbered (Ok (areas, c)) = Ok (areas, Some c)
numbered (Err why) = Err (code_of why)

-- What the words of a line say after `areas` areas; a line with no words has no command.
abbrev pub plain_said : ℕ → List (List ℕ) → Said ℕ Command
plain_said areas [] = Ok (areas, None)
plain_said areas (first ∷ rest) = numbered (counted_line areas first rest)

-- The commands of a reading.
abbrev pub commands_in : Reading ℕ Command → Result (List Command) ScriptFault
commands_in (Ok (areas, commands)) = Ok commands
commands_in (Err f) = Err f

-- The commands of a script, or why it has none: it is too long, or has a bad line.
unfoldable pub script_of : List ℕ → Result (List Command) ScriptFault
script_of text = commands_in (text_read plain_said 0 text)

-- What a reading of a script may answer: what it says, or that there is no memory.
abbrev pub Answers : Result (List Command) ScriptFault → Result (List Command) ScriptFault → Type 0
Answers (Ok commands) said = said ≡ Ok commands
Answers (Err fault.NoMemory) said = Unit {0}
Answers (Err (fault.BadLine line why)) said = said ≡ Err (fault.BadLine line why)
Answers (Err fault.TooLong) said = said ≡ Err fault.TooLong

-- What the counting of a command returns is its result.
abbrev pub Counts : Result Command Reason → ℕ → Result (ℕ × Command) Reason → Type 0
Counts (Ok c) areas said = said ≡ Ok (areas, c)
Counts (Err why) areas said = said ≡ Err why
