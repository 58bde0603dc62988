-- The machines of a run, by what each holds.
use Rattle.std.specs.Prelude.{◌≡◌, List, [], Option, None}
use Rattle.xl_model.specs.Scenes.{Served}
use Rattle.xl_serving.specs.Plain.{AreOpened}
use Rattle.xl_nested_model.specs.Nested.{NestState}
use Rattle.xl_hart_model.specs.Harts.{HartsState}

-- The rows that were opened, in their order, each with its state; the state of the machine of
-- two-stage translation, and that of the machine of several harts, where they were opened.
pub record MachineStates : Type 0 where
  pub rows : List Served
  pub nested : Option NestState
  pub harts : Option HartsState

-- None was opened.
abbrev pub no_machines : MachineStates
no_machines = record { rows = []; nested = None; harts = None }

-- None has served an event: each row is in its opening state, and no other machine was left.
abbrev pub IsUnserved : MachineStates → Type 0
IsUnserved m = AreOpened m.rows × (m.nested ≡ None) × (m.harts ≡ None)
