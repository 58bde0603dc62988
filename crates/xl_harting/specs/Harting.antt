-- Harts as a form of the program: the items of its commands, what they do, their lines, and what a
-- run is to write.
use Rattle.std.specs.Prelude.{ℕ, ◌+◌, List, [], ◌∷◌, ◌++◌, map, Option, Some}
use Rattle.xl_model.specs.declared.address.Kind.{Kind}
use Rattle.xl_model.specs.declared.event.Event.{Event}
use Rattle.xl_model.specs.declared.event.Event.TheVariants as event
use Rattle.xl_model.specs.Courses.{block_address}
use Rattle.xl_outside.specs.Folders.{Files}
use Rattle.xl_hart_model.specs.declared.hart.HartEvent.{HartEvent}
use Rattle.xl_hart_model.specs.declared.hart.HartEvent.TheVariants as step
use Rattle.xl_hart_model.specs.Harts.{Hart, HartsState, all_counts, after_hart_event, current_hart, hart_reply, opening_harts}
use Rattle.xl_hart_report.specs.Lines.{all_counts_line, hart_counts_line, hart_line}
use Rattle.xl_hart_script.specs.declared.command.HartCommand.{HartCommand}
use Rattle.xl_hart_script.specs.declared.command.HartCommand.TheVariants as command
use Rattle.xl_hart_script.specs.Scripts.{HartText, harts_script_of}
use Rattle.xl_course.specs.declared.form.Step.{Step}
use Rattle.xl_course.specs.declared.form.Step.TheVariants as steps
use Rattle.xl_course.specs.Accounts.{Account}
use Rattle.xl_serving.specs.Inputs.{trail_in}
use Rattle.xl_paired.specs.Pairs.{Pairing, account_by, events_from, left_by, script_in}
use Rattle.xl_words.specs.Words.{AskedPair}

-- An event with each of its addresses raised by `i` times the order's size.
abbrev pub raised : Event → ℕ → Event
raised (event.Map space va o perm) i = event.Map space (block_address va o i) o perm
raised (event.Unmap space va o) i = event.Unmap space (block_address va o i) o
raised (event.Protect space va o perm) i = event.Protect space (block_address va o i) o perm
raised (event.Move space from to o) i = event.Move space (block_address from o i) (block_address to o i) o
raised (event.Access va kind) i = event.Access va kind
raised (event.Space space) i = event.Space space
raised (event.Fence scope) i = event.Fence scope

-- The event of this number, from 0, of those whose first is given.
abbrev pub event_at : HartEvent → ℕ → HartEvent
event_at (step.Own e) i = step.Own (raised e i)
event_at (step.Hart h) i = step.Hart h
event_at (step.Take h) i = step.Take h

-- The events of a command, in rising number.
abbrev pub events_of : HartCommand → List HartEvent
events_of (command.Events first n) = events_from (event_at first) 0 n
events_of (command.Run n) = []
events_of command.RunRest = []

-- An access of the current hart.
abbrev pub access_of : ℕ → Kind → HartEvent
access_of va kind = step.Own (event.Access va kind)

-- The line of an access of the current hart.
abbrev pub access_line : ℕ → ℕ → Kind → HartsState → List ℕ
access_line number va kind s =
    hart_line s.current number kind (current_hart s).space va (hart_reply (current_hart s) s.table.leaves va kind)

-- The lines of some harts, of which the first has this number.
abbrev pub counts_lines : ℕ → List Hart → List ℕ
counts_lines n [] = []
counts_lines n (h ∷ harts) = hart_counts_line n h.counts ++ counts_lines (n + 1) harts

-- The end of a report: a line for each hart, and one for all of them.
abbrev pub harts_lines : HartsState → List ℕ
harts_lines s = counts_lines 0 s.harts ++ all_counts_line (all_counts s)

-- A command as a step of a script.
abbrev pub step_of : HartCommand → Step HartCommand
step_of (command.Events first n) = steps.Own (command.Events first n)
step_of (command.Run n) = steps.Run n
step_of command.RunRest = steps.RunRest

-- The form of harts: a script opens the harts of its head, with nothing mapped, and each event is
-- served at once.
abbrev pub harts_form : Pairing HartText HartCommand HartEvent HartsState
harts_form = record {
  opens = λ (script : HartText). opening_harts script.spec;
  steps = λ (script : HartText). map step_of script.commands;
  events = events_of;
  access = access_of;
  after = after_hart_event;
  line = access_line;
  last = harts_lines;
}

-- What a run over these files is to write.
abbrev pub harts_account : AskedPair → Files → Account
harts_account a files = account_by harts_form a.answers (trail_in (Some a.trace) files) (script_in harts_script_of a.script files)

-- The harts that a run leaves.
abbrev pub harts_left : AskedPair → Files → Option HartsState
harts_left a files = left_by harts_form (trail_in (Some a.trace) files) (script_in harts_script_of a.script files)
