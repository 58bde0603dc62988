-- What a run says on its way out: one line for each status but Ok.
use Rattle.std.specs.Prelude.{ℕ, ◌++◌, List, codes, decimal}
use Rattle.xl_model.specs.declared.fault.InputFault.{InputFault}
use Rattle.xl_model.specs.declared.fault.InputFault.TheVariants as fault
use Rattle.xl_course.specs.declared.stop.Stop.{Stop}
use Rattle.xl_course.specs.declared.stop.Stop.TheVariants as why

-- The number of a bad line of a text, and the reason for which it is bad.
abbrev pub with_place : List ℕ → List ℕ → ℕ → ℕ → List ℕ
with_place message text line reason = message ++ text ++ decimal line ++ codes ": reason " ++ decimal reason

-- What is wrong with the input.
abbrev pub with_fault : List ℕ → InputFault → List ℕ
with_fault message fault.Words = message ++ codes "usage: --config FILE [--script FILE] [--trace FILE] [--make N] [--answers] [--image] [--json]"
with_fault message fault.ConfigTooLong = message ++ codes "configuration: too long"
with_fault message fault.ConfigNotToml = message ++ codes "configuration: not TOML"
with_fault message (fault.ConfigKey row key rule) =
    message ++ codes "configuration row " ++ decimal row ++ codes " key " ++ decimal key ++ codes " rule " ++ decimal rule
with_fault message fault.ScriptTooLong = message ++ codes "script: too long"
with_fault message (fault.ScriptLine line reason) = with_place message (codes "script line ") line reason
with_fault message fault.TraceTooLong = message ++ codes "trace: too long"
with_fault message (fault.TraceLine line reason) = with_place message (codes "trace line ") line reason
with_fault message fault.NoFile = message ++ codes "no file"

-- Why a run stops.
abbrev pub with_stop : List ℕ → Stop → List ℕ
with_stop message (why.Input fault) = with_fault message fault
with_stop message why.ReadFault = message ++ codes "read fault"
with_stop message why.WriteFault = message ++ codes "write fault"
with_stop message why.NoMemory = message ++ codes "no memory"

-- The line of a stop.
abbrev pub message_at : Stop → List ℕ
message_at stop = with_stop (codes "xlate: ") stop ++ codes "\n"
