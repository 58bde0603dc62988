-- The steps of a script.
use Rattle.xl_nesting.proofs.Common.{◌∷◌, ◌≡◌, [], All, All-cons, All-head, All-nil, All-tail, commands_of, events_of, IsPlaced, IsReady, List, map, refl, step_of, ℕ}
use Rattle.xl_nested_model.specs.declared.nest.NestEvent.{NestEvent}
use Rattle.xl_nested_script.specs.declared.command.NestCommand.{NestCommand}
use Rattle.xl_nested_script.specs.declared.command.NestCommand.TheVariants as command

-- a command that runs records has no events
pub no-events : (c : NestCommand) → ((first : NestEvent) (n : ℕ) → c ≡ command.Events first n → ⊥) → events_of c ≡ []
no-events (command.Events first n) h = absurd (h first n refl)
no-events (command.Run n) h = refl
no-events command.RunRest h = refl

-- the commands among a script's steps lie in 64 bits, where those of the script do
pub placed-steps : (cs : List NestCommand) → All IsReady cs → All IsPlaced (commands_of (map step_of cs))
placed-steps [] h = All-nil IsPlaced
placed-steps (command.Events first n ∷ cs) h =
    All-cons IsPlaced (command.Events first n) (commands_of (map step_of cs)) (All-head IsReady (command.Events first n) cs h).0
    (placed-steps cs (All-tail IsReady (command.Events first n) cs h))
placed-steps (command.Run n ∷ cs) h = placed-steps cs (All-tail IsReady (command.Run n) cs h)
placed-steps (command.RunRest ∷ cs) h = placed-steps cs (All-tail IsReady command.RunRest cs h)
