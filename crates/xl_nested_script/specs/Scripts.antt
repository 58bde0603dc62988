-- The script of a guest over a host.
use Rattle.std.specs.Prelude.{◌≡◌, ℕ, true, List, [], ◌∷◌, Option, None, Some, is_some, Result, Ok, Err}
use Rattle.xl_nested_model.specs.declared.nest.Nest.{Nest}
use Rattle.xl_nested_model.specs.declared.nest.NestEvent.{NestEvent}
use Rattle.xl_nested_model.specs.declared.nest.NestEvent.TheVariants as event
use Rattle.xl_nested_model.specs.Nested.{IsNest}
use Rattle.xl_script.specs.declared.fault.ScriptFault.{ScriptFault}
use Rattle.xl_script.specs.declared.fault.ScriptFault.TheVariants as fault
use Rattle.xl_script.specs.Reading.{code_of}
use Rattle.xl_script.specs.Scripts.{Said, Reading, text_read}
use Rattle.xl_nested_script.specs.declared.command.Line.{Line}
use Rattle.xl_nested_script.specs.declared.command.Line.TheVariants as line
use Rattle.xl_nested_script.specs.declared.command.NestCommand.{NestCommand}
use Rattle.xl_nested_script.specs.declared.command.NestCommand.TheVariants as command
use Rattle.xl_script.specs.declared.reason.Reason.{Reason}
use Rattle.xl_nested_script.specs.Lines.{line_of, IsPlaced}

-- The sizes in the head of a script, and its commands.
pub record NestText : Type 0 where
  pub nest : Nest
  pub commands : List NestCommand

-- The sizes of a head are in their limits.
abbrev pub HasLimits : Line → Type 0
HasLimits (line.Head nest) = IsNest nest
HasLimits (line.Own c) = Unit {0}

-- A map at the host is for users.
abbrev pub IsForUsers : NestEvent → Type 0
IsForUsers (event.Access va kind) = Unit {0}
IsForUsers (event.GMap gaddr o perm) = perm.u ≡ true
IsForUsers (event.GUnmap gaddr o) = Unit {0}
IsForUsers (event.VMap va o gaddr perm) = Unit {0}
IsForUsers (event.VUnmap va o) = Unit {0}

-- The same of a command.
abbrev pub HasUsers : NestCommand → Type 0
HasUsers (command.Events first n) = IsForUsers first
HasUsers (command.Run n) = Unit {0}
HasUsers command.RunRest = Unit {0}

-- All that a command names lies in 64 bits, and a map at the host is for users.
abbrev pub IsReady : NestCommand → Type 0
IsReady c = IsPlaced c × HasUsers c

-- What a line says by its reading: a head opens the script.
abbrev pub said_by : Option Nest → Result Line Reason → Said (Option Nest) NestCommand
said_by head (Ok (line.Head nest)) = Ok (Some nest, None)
said_by head (Ok (line.Own c)) = Ok (head, Some c)
said_by head (Err why) = Err (code_of why)

-- What the words of a line say before the head or after it. A line with no words is skipped.
abbrev pub nest_said : Option Nest → List (List ℕ) → Said (Option Nest) NestCommand
nest_said head [] = Ok (head, None)
nest_said head (first ∷ rest) = said_by head (line_of (is_some head) first rest)

-- The script of a reading. One in which all lines are skipped has no head: reason 8 at line 1.
abbrev pub script_in : Reading (Option Nest) NestCommand → Result NestText ScriptFault
script_in (Ok (Some nest, commands)) = Ok (record { nest = nest; commands = commands })
script_in (Ok (None, commands)) = Err (fault.BadLine 1 8)
script_in (Err f) = Err f

-- The script of a text, or why it has none: it is too long, or has a bad line.
unfoldable pub nest_script_of : List ℕ → Result NestText ScriptFault
nest_script_of text = script_in (text_read nest_said None text)

-- What a reading of a script may answer: what the text says, or that there is no memory.
abbrev pub Answers : Result NestText ScriptFault → Result NestText ScriptFault → Type 0
Answers (Ok script) said = said ≡ Ok script
Answers (Err fault.NoMemory) said = Unit {0}
Answers (Err (fault.BadLine number why)) said = said ≡ Err (fault.BadLine number why)
Answers (Err fault.TooLong) said = said ≡ Err fault.TooLong
