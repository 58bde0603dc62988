-- The scene of some rows, and the events of a command.
use Rattle.std.specs.Prelude.{ℕ, List}
use Rattle.xl_model.specs.declared.event.Event.{Event}
use Rattle.xl_model.specs.declared.event.Event.TheVariants as event
use Rattle.xl_model.specs.declared.script.Command.{Command}
use Rattle.xl_model.specs.declared.script.Command.TheVariants as command
use Rattle.xl_model.specs.declared.script.Area.{Area}
use Rattle.xl_model.specs.Scenes.{Served, Scene}
use Rattle.xl_model.specs.Courses.{block_address}

-- These rows, where these areas were declared.
abbrev pub scene_of : List Served → List Area → Scene
scene_of rows areas = record { rows = rows; areas = areas }

-- How many events a command is.
abbrev pub count_of : Command → ℕ
count_of (command.Map space va o perm n) = n
count_of (command.Unmap space va o n) = n
count_of (command.Protect space va o perm n) = n
count_of (command.Move space from to o n) = n
count_of (command.Space space) = 1
count_of (command.Fence scope) = 1
count_of (command.Demand area) = 0
count_of (command.Run n) = 0
count_of command.RunRest = 0

-- The event of a command of this number, from 0; a command without events is none.
abbrev pub event_at : Command → ℕ → Event
event_at (command.Map space va o perm n) i = event.Map space (block_address va o i) o perm
event_at (command.Unmap space va o n) i = event.Unmap space (block_address va o i) o
event_at (command.Protect space va o perm n) i = event.Protect space (block_address va o i) o perm
event_at (command.Move space from to o n) i = event.Move space (block_address from o i) (block_address to o i) o
event_at (command.Space space) i = event.Space space
event_at (command.Fence scope) i = event.Fence scope
event_at (command.Demand area) i = event.Space area.space
event_at (command.Run n) i = event.Space 0
event_at command.RunRest i = event.Space 0
