-- The files that the words name: the rows, the commands and the records of a run.
use Rattle.std.specs.Prelude.{◌≡◌, ℕ, List, [], Option, None, Some, Result, Ok, Err}
use Rattle.xl_model.specs.declared.fault.InputFault.{InputFault}
use Rattle.xl_model.specs.declared.fault.InputFault.TheVariants as fault
use Rattle.xl_model.specs.declared.script.Command.{Command}
use Rattle.xl_model.specs.Rows.{Row}
use Rattle.xl_model.specs.Courses.{Trail, at_end}
use Rattle.xl_config.specs.declared.fault.ConfigFault.{ConfigFault}
use Rattle.xl_config.specs.declared.fault.ConfigFault.TheVariants as config
use Rattle.xl_config.specs.Config.{config}
use Rattle.xl_made.specs.Made.{made_script}
use Rattle.xl_outside.specs.Folders.{Files, file_of}
use Rattle.xl_script.specs.declared.fault.ScriptFault.{ScriptFault}
use Rattle.xl_script.specs.declared.fault.ScriptFault.TheVariants as script
use Rattle.xl_script.specs.Plain.{script_of}
use Rattle.xl_words.specs.declared.words.WordsFault.{WordsFault}
use Rattle.xl_words.specs.declared.words.WordsFault.TheVariants as words
use Rattle.xl_words.specs.Words.{AskedPlain}
use Rattle.xl_serving.specs.Traces.{made_trail, trail_of}
use Rattle.xl_course.specs.declared.stop.Stop.{Stop}
use Rattle.xl_course.specs.declared.stop.Stop.TheVariants as why

-- What is wrong with a configuration that is refused. A text can't lack memory, so the last case
-- never comes.
abbrev pub config_fault : ConfigFault → InputFault
config_fault config.TooLong = fault.ConfigTooLong
config_fault config.BadToml = fault.ConfigNotToml
config_fault (config.BadKey row key rule) = fault.ConfigKey row key rule
config_fault config.NoMemory = fault.ConfigTooLong

-- What is wrong with a script that is refused; again the last case never comes.
abbrev pub script_fault : ScriptFault → InputFault
script_fault (script.BadLine line reason) = fault.ScriptLine line reason
script_fault script.TooLong = fault.ScriptTooLong
script_fault script.NoMemory = fault.ScriptTooLong

-- What a text says, or which fault of the input it is.
abbrev pub said_by : {A E : Type 0} → (E → InputFault) → Result A E → Result A InputFault
said_by of (Ok a) = Ok a
said_by of (Err e) = Err (of e)

-- What the text of a file says; a file that isn't there is a fault.
abbrev pub said_in : {A : Type 0} → (List ℕ → Result A InputFault) → Option (List ℕ) → Result A InputFault
said_in says None = Err fault.NoFile
said_in says (Some text) = says text

-- The rows that the text of a configuration says.
abbrev pub rows_said : List ℕ → Result (List Row) InputFault
rows_said text = said_by config_fault (config text)

-- The commands that the text of a script says.
abbrev pub commands_said : List ℕ → Result (List Command) InputFault
commands_said text = said_by script_fault (script_of text)

-- The rows of the configuration of this name.
abbrev pub rows_in : List ℕ → Files → Result (List Row) InputFault
rows_in name files = said_in rows_said (file_of files name)

-- The commands of the script of this name. Where none is named there are none: what is left of the
-- trace is run at the end of each script, and so all of it is.
abbrev pub commands_in : Option (List ℕ) → Files → Result (List Command) InputFault
commands_in None files = Ok []
commands_in (Some name) files = said_in commands_said (file_of files name)

-- The records of the trace of this name. Where none is named there are none.
abbrev pub trail_in : Option (List ℕ) → Files → Trail
trail_in None files = at_end None
trail_in (Some name) files = trail_of (file_of files name)

-- The commands of a made script of n records, or of the script of this name.
abbrev pub commands_by : Option ℕ → Option (List ℕ) → Files → Result (List Command) InputFault
commands_by None name files = commands_in name files
commands_by (Some n) name files = commands_said (made_script n)

-- The records of a made trace of n, or of the trace of this name.
abbrev pub trail_by : Option ℕ → Option (List ℕ) → Files → Trail
trail_by None name files = trail_in name files
trail_by (Some n) name files = made_trail n

-- The commands that are asked for.
abbrev pub commands_for : AskedPlain → Files → Result (List Command) InputFault
commands_for a files = commands_by a.made a.script files

-- The records that are asked for.
abbrev pub trail_for : AskedPlain → Files → Trail
trail_for a files = trail_by a.made a.trace files

-- What a reading returns: what is said, or its fault. Nothing is known of it where a read failed or
-- there was no memory.
abbrev pub Finds : {A B : Type 0} → (A → B) → Result A Stop → Result B InputFault → Type 0
Finds view (Ok a) said = said ≡ Ok (view a)
Finds view (Err (why.Input f)) said = said ≡ Err f
Finds view (Err why.ReadFault) said = Unit {0}
Finds view (Err why.WriteFault) said = ⊥
Finds view (Err why.NoMemory) said = Unit {0}

-- Why a run stops whose words are refused.
abbrev pub of_words_fault : WordsFault → Stop
of_words_fault words.Usage = why.Input fault.Words
of_words_fault words.NoMemory = why.NoMemory

-- Why a run stops whose configuration is refused.
abbrev pub of_config_fault : ConfigFault → Stop
of_config_fault config.TooLong = why.Input fault.ConfigTooLong
of_config_fault config.BadToml = why.Input fault.ConfigNotToml
of_config_fault (config.BadKey row key rule) = why.Input (fault.ConfigKey row key rule)
of_config_fault config.NoMemory = why.NoMemory

-- Why a run stops whose script is refused.
abbrev pub of_script_fault : ScriptFault → Stop
of_script_fault (script.BadLine line reason) = why.Input (fault.ScriptLine line reason)
of_script_fault script.TooLong = why.Input fault.ScriptTooLong
of_script_fault script.NoMemory = why.NoMemory
