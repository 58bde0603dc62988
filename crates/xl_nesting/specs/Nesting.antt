-- Two-stage translation as a form of the program: the events of its commands, the lines, and the end of its report.
use Rattle.std.specs.Prelude.{ℕ, List, [], map}
use Rattle.xl_model.specs.declared.address.Kind.{Kind}
use Rattle.xl_model.specs.Courses.{block_address}
use Rattle.xl_nested_model.specs.declared.nest.NestEvent.{NestEvent}
use Rattle.xl_nested_model.specs.declared.nest.NestEvent.TheVariants as event
use Rattle.xl_nested_model.specs.Nested.{NestState, after_nest_event, nest_counts, opening_nest}
use Rattle.xl_nested_model.specs.Stages.{nested}
use Rattle.xl_nested_report.specs.Lines.{nest_line, nest_counts_line}
use Rattle.xl_nested_script.specs.declared.command.NestCommand.{NestCommand}
use Rattle.xl_nested_script.specs.declared.command.NestCommand.TheVariants as command
use Rattle.xl_nested_script.specs.Scripts.{NestText}
use Rattle.xl_course.specs.declared.form.Step.{Step}
use Rattle.xl_course.specs.declared.form.Step.TheVariants as steps
use Rattle.xl_paired.specs.Pairs.{Pairing, events_from}

-- The event of this number, from 0, of those whose first is given: each of its addresses is raised
-- by `i` blocks.
abbrev pub event_at : NestEvent → ℕ → NestEvent
event_at (event.Access va kind) i = event.Access va kind
event_at (event.GMap gaddr o perm) i = event.GMap (block_address gaddr o i) o perm
event_at (event.GUnmap gaddr o) i = event.GUnmap (block_address gaddr o i) o
event_at (event.VMap va o gaddr perm) i = event.VMap (block_address va o i) o (block_address gaddr o i) perm
event_at (event.VUnmap va o) i = event.VUnmap (block_address va o i) o

-- The events of a command, in rising number.
abbrev pub events_of : NestCommand → List NestEvent
events_of (command.Events first n) = events_from (event_at first) 0 n
events_of (command.Run n) = []
events_of command.RunRest = []

-- The line of an access, with its reply.
abbrev pub access_line : ℕ → ℕ → Kind → NestState → List ℕ
access_line number va kind s = nest_line number kind va (nested s.guest s.host.stage.leaves va kind)

-- The end of a report: the line of the counts.
abbrev pub counts_text : NestState → List ℕ
counts_text s = nest_counts_line (nest_counts s)

-- A command as a step of a script.
abbrev pub step_of : NestCommand → Step NestCommand
step_of (command.Events first n) = steps.Own (command.Events first n)
step_of (command.Run n) = steps.Run n
step_of command.RunRest = steps.RunRest

-- The form: a script opens a guest over a host of the sizes in its head, without leaves, and each
-- event is served at once.
abbrev pub nested_form : Pairing NestText NestCommand NestEvent NestState
nested_form = record {
  opens = λ (script : NestText). opening_nest script.nest;
  steps = λ (script : NestText). map step_of script.commands;
  events = events_of;
  access = λ (va : ℕ) (kind : Kind). event.Access va kind;
  after = after_nest_event;
  line = access_line;
  last = counts_text;
}
