-- The script of harts.
use Rattle.std.specs.Prelude.{◌≡◌, ℕ, true, List, [], ◌∷◌, Option, None, Some, is_some, Result, Ok, Err}
use Rattle.xl_model.specs.declared.event.Event.{Event}
use Rattle.xl_model.specs.declared.event.Event.TheVariants as event
use Rattle.xl_script.specs.declared.fault.ScriptFault.{ScriptFault}
use Rattle.xl_script.specs.declared.fault.ScriptFault.TheVariants as fault
use Rattle.xl_script.specs.Reading.{code_of}
use Rattle.xl_script.specs.Scripts.{Said, Reading, text_read}
use Rattle.xl_hart_model.specs.declared.hart.HartEvent.{HartEvent}
use Rattle.xl_hart_model.specs.declared.hart.HartEvent.TheVariants as step
use Rattle.xl_hart_model.specs.declared.hart.HartSpec.{HartSpec}
use Rattle.xl_hart_laws.specs.Kept.{IsHartSpec}
use Rattle.xl_hart_script.specs.declared.command.HartCommand.{HartCommand}
use Rattle.xl_hart_script.specs.declared.command.HartCommand.TheVariants as command
use Rattle.xl_hart_script.specs.declared.command.Line.{Line}
use Rattle.xl_hart_script.specs.declared.command.Line.TheVariants as line
use Rattle.xl_script.specs.declared.reason.Reason.{Reason}
use Rattle.xl_hart_script.specs.Lines.{line_of, fits_command}

-- The limits in the head of a script, and its commands.
pub record HartText : Type 0 where
  pub spec : HartSpec
  pub commands : List HartCommand

-- The limits of a head are ones that it may have.
abbrev pub HasLimits : Line → Type 0
HasLimits (line.Head spec) = IsHartSpec spec
HasLimits (line.Own c) = Unit {0}

-- An event that is no fence.
abbrev pub IsNoFence : Event → Type 0
IsNoFence (event.Access va kind) = Unit {0}
IsNoFence (event.Map space va o perm) = Unit {0}
IsNoFence (event.Unmap space va o) = Unit {0}
IsNoFence (event.Protect space va o perm) = Unit {0}
IsNoFence (event.Move space from to o) = Unit {0}
IsNoFence (event.Space space) = Unit {0}
IsNoFence (event.Fence to) = ⊥

-- An event of harts that is no fence of the current hart.
abbrev pub IsServable : HartEvent → Type 0
IsServable (step.Hart h) = Unit {0}
IsServable (step.Take h) = Unit {0}
IsServable (step.Own e) = IsNoFence e

-- The same of a command's events.
abbrev pub AreServable : HartCommand → Type 0
AreServable (command.Events first n) = IsServable first
AreServable (command.Run n) = Unit {0}
AreServable command.RunRest = Unit {0}

-- All that a command names lies in 64 bits, and its events are no fences.
abbrev pub IsReady : HartCommand → Type 0
IsReady c = (fits_command c ≡ true) × AreServable c

-- What a line says by its reading: a head opens the script.
abbrev pub said_by : Option HartSpec → Result Line Reason → Said (Option HartSpec) HartCommand
said_by head (Ok (line.Head spec)) = Ok (Some spec, None)
said_by head (Ok (line.Own c)) = Ok (head, Some c)
said_by head (Err why) = Err (code_of why)

-- What the words of a line say before the head or after it. A line with no words is skipped.
abbrev pub harts_said : Option HartSpec → List (List ℕ) → Said (Option HartSpec) HartCommand
harts_said head [] = Ok (head, None)
harts_said head (first ∷ rest) = said_by head (line_of (is_some head) first rest)

-- The script of a reading. One in which all lines are skipped has no head: reason 8 at line 1.
abbrev pub script_in : Reading (Option HartSpec) HartCommand → Result HartText ScriptFault
script_in (Ok (Some spec, commands)) = Ok (record { spec = spec; commands = commands })
script_in (Ok (None, commands)) = Err (fault.BadLine 1 8)
script_in (Err f) = Err f

-- The script of a text, or why it has none: it is too long, or has a bad line.
unfoldable pub harts_script_of : List ℕ → Result HartText ScriptFault
harts_script_of text = script_in (text_read harts_said None text)

-- What a reading of a script may answer: what the text says, or that there is no memory.
abbrev pub Answers : Result HartText ScriptFault → Result HartText ScriptFault → Type 0
Answers (Ok script) said = said ≡ Ok script
Answers (Err fault.NoMemory) said = Unit {0}
Answers (Err (fault.BadLine number why)) said = said ≡ Err (fault.BadLine number why)
Answers (Err fault.TooLong) said = said ≡ Err fault.TooLong
