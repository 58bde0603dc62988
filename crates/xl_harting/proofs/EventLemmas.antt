-- The events of a command, and the outcome of an access.
use Rattle.xl_harting.proofs.Common.{◌∷◌, ◌≡◌, [], access_of, accesses_after, after_hart_event, current_hart, events_of, hart_change, hart_outcome, hart_refusal, hart_reply, hart_rule, HartCommand, harts_form, HartsState, List, refl, Reply, ℕ}
use Rattle.xl_hart_model.specs.declared.hart.HartEvent.{HartEvent}
use Rattle.xl_harts.specs.Events.{accesses_served}
use Rattle.xl_lackey.specs.declared.skim.Access.{Access}
use Rattle.xl_model.specs.Rules.{change_of, rule}
use Rattle.xl_model.specs.declared.address.Kind.{Kind}
use Rattle.xl_hart_model.specs.declared.hart.HartOutcome.TheVariants as outcome
use Rattle.xl_hart_script.specs.declared.command.HartCommand.TheVariants as command

-- an access is replied to
pub access_outcome : (va : ℕ) (kind : Kind) (s : HartsState) → hart_outcome (access_of va kind) s ≡ outcome.Replied (hart_reply (current_hart s) s.table.leaves va kind)
unfolding hart_outcome hart_refusal hart_rule rule hart_change change_of
access_outcome va kind s = refl

pub replied : (r q : Reply) → outcome.Replied r ≡ outcome.Replied q → r ≡ q
replied r q e = cc

-- a command that is no events has none
pub no_events : (c : HartCommand) → ((first : HartEvent) (n : ℕ) → c ≡ command.Events first n → ⊥) → events_of c ≡ []
no_events (command.Events first n) h = absurd (h first n refl)
no_events (command.Run n) h = refl
no_events command.RunRest h = refl

-- accesses that are served together
pub accesses-served : (accesses : List Access) (s : HartsState) → accesses_served accesses s ≡ accesses_after harts_form accesses s
accesses-served [] s = refl
accesses-served (a ∷ accesses) s = accesses-served accesses (after_hart_event (access_of a.va a.kind) s)
