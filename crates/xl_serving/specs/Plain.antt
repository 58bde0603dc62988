-- The plain form: the items of its commands, what they do, their lines, and what a run is to write.
use Rattle.std.specs.Prelude.{◌≡◌, ℕ, Bool, true, false, List, [], ◌∷◌, ◌++◌, Result, Ok, Err}
use Rattle.xl_model.specs.declared.script.Area.{Area}
use Rattle.xl_model.specs.declared.script.Command.{Command}
use Rattle.xl_model.specs.declared.script.Command.TheVariants as command
use Rattle.xl_model.specs.declared.script.Item.{Item}
use Rattle.xl_model.specs.declared.script.Item.TheVariants as item
use Rattle.xl_model.specs.declared.fault.InputFault.{InputFault}
use Rattle.xl_model.specs.Rows.{Row}
use Rattle.xl_model.specs.Scenes.{Served, Scene, opened, scene_after, rows_lines}
use Rattle.xl_model.specs.Courses.{Trail, events_from}
use Rattle.xl_model.specs.Report.{images_where, row_lines}
use Rattle.xl_outside.specs.Folders.{Files}
use Rattle.xl_report.specs.Json.{json_line}
use Rattle.xl_course.specs.declared.form.Step.{Step}
use Rattle.xl_course.specs.declared.form.Step.TheVariants as step
use Rattle.xl_course.specs.Meanings.{Meaning, states_after}
use Rattle.xl_course.specs.Courses.{course}
use Rattle.xl_course.specs.Accounts.{Account, account, faulted}
use Rattle.xl_words.specs.Words.{AskedPlain}
use Rattle.xl_serving.specs.declared.plain.End.{End}
use Rattle.xl_serving.specs.Serving.{scene_of, count_of, event_at}
use Rattle.xl_serving.specs.Inputs.{rows_in, commands_for, trail_for}

-- A command as a step of a script.
abbrev pub step_of : Command → Step Command
step_of (command.Run n) = step.Run n
step_of command.RunRest = step.RunRest
step_of c = step.Own c

-- The steps of a script.
abbrev pub steps_of : List Command → List (Step Command)
steps_of [] = []
steps_of (c ∷ commands) = step_of c ∷ steps_of commands

-- The items of a command: its events in rising number, or its area.
abbrev pub items_of : Command → List Item
items_of (command.Demand area) = item.Declared area ∷ []
items_of c = events_from (event_at c) 0 (count_of c)

-- The lines of an item, row by row.
abbrev pub scene_lines : Item → Scene → List ℕ
scene_lines i s = rows_lines i s.areas s.rows

-- What the plain form serves.
abbrev pub plain : Meaning Command Item Scene
plain = record { items = items_of; referenced = item.Referenced; after = scene_after; lines = scene_lines }

-- One area more was declared.
abbrev pub with_area : Area → Scene → Scene
with_area area s = record { rows = s.rows; areas = s.areas ++ area ∷ [] }

-- The rows as they are wanted: a line for each, or one line of JSON.
abbrev pub rows_text : Bool → List Served → List ℕ
rows_text false rows = row_lines rows
rows_text true rows = json_line rows

-- The end of a report: the rows as they are wanted, and the images where they are asked for.
abbrev pub end_text : Bool → Bool → Scene → List ℕ
end_text json image s = rows_text json s.rows ++ images_where image s.rows

-- The end that words ask for.
abbrev pub end_of : AskedPlain → End
end_of a = record { json = a.json; image = a.image }

-- What a run starts from: its rows, and the steps of its script.
pub record Start : Type 0 where
  pub scene : Scene
  pub steps : List (Step Command)

-- The start from these rows, with nothing declared, and these commands.
abbrev pub start_of : List Served → List Command → Start
start_of rows commands = record { scene = scene_of rows []; steps = steps_of commands }

-- Each of these rows is in its opening state.
abbrev pub AreOpened : List Served → Type 0
AreOpened rows = (designs : List Row) × (rows ≡ opened designs)

-- The start from the rows of a configuration, each in its opening state, and the commands of a
-- script; or the fault of the first of these that has one.
abbrev pub started : Result (List Row) InputFault → Result (List Command) InputFault → Result Start InputFault
started (Err f) commands = Err f
started (Ok rows) (Err f) = Err f
started (Ok rows) (Ok commands) = Ok (start_of (opened rows) commands)

-- What is to be written from a start on: the account of the script's course over the trace.
abbrev pub account_from : AskedPlain → Trail → Start → Account
account_from a t s = account plain a.answers (end_text a.json a.image) a.json (course plain s.steps t) s.scene

-- The rows after the script's course over the trace.
abbrev pub rows_from : Trail → Start → List Served
rows_from t s = (states_after plain (course plain s.steps t).items s.scene).rows

-- The same, where the configuration and the script are good.
abbrev pub account_by : AskedPlain → Trail → Result Start InputFault → Account
account_by a t (Err f) = faulted f
account_by a t (Ok s) = account_from a t s

-- The rows at last, where the configuration and the script are good.
abbrev pub rows_by : Trail → Result Start InputFault → List Served
rows_by t (Err f) = []
rows_by t (Ok s) = rows_from t s

-- What a run of the plain form starts from.
abbrev pub plain_start : AskedPlain → Files → Result Start InputFault
plain_start a files = started (rows_in a.config files) (commands_for a files)

-- What a run of the plain form is to write over these files.
abbrev pub plain_account : AskedPlain → Files → Account
plain_account a files = account_by a (trail_for a files) (plain_start a files)

-- The rows that a run of the plain form leaves.
abbrev pub plain_rows : AskedPlain → Files → List Served
plain_rows a files = rows_by (trail_for a files) (plain_start a files)
