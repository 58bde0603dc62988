-- A refusal leaves nothing but its count.
use Rattle.std.specs.Prelude.{◌≡◌, Bool, true, false, List, [], ◌∷◌}
use Rattle.xl_model.specs.declared.event.Event.{Event}
use Rattle.xl_model.specs.declared.event.Outcome.{Outcome}
use Rattle.xl_model.specs.declared.event.Outcome.TheVariants as outcome
use Rattle.xl_model.specs.declared.event.Refusal.{Refusal}
use Rattle.xl_model.specs.declared.event.Refusal.TheVariants as refused
use Rattle.xl_model.specs.Rows.{Row}
use Rattle.xl_model.specs.Tally.{count_refusal}
use Rattle.xl_model.specs.RowRun.{RowState, after_event, outcome_of}

-- the state with one refusal more in its counts
abbrev pub with_refusal : Refusal → RowState → RowState
with_refusal r s = record s { counts = count_refusal r s.counts }

-- the state after some events
abbrev pub after_events : Row → List Event → RowState → RowState
after_events row [] s = s
after_events row (e ∷ events) s = after_events row events (after_event row e s)

-- the outcomes of some events
abbrev pub outcomes_of : Row → List Event → RowState → List Outcome
outcomes_of row [] s = []
outcomes_of row (e ∷ events) s = outcome_of row e s ∷ outcomes_of row events (after_event row e s)

-- refusals 1 to 8; at the ninth the growths that were forced stay
abbrev pub leaves_nothing : Refusal → Bool
leaves_nothing refused.BadSpace = true
leaves_nothing refused.NotCanonical = true
leaves_nothing refused.Misaligned = true
leaves_nothing refused.Unmapped = true
leaves_nothing refused.WrongSize = true
leaves_nothing refused.Overlap = true
leaves_nothing refused.NoFrames = true
leaves_nothing refused.NoTable = true
leaves_nothing refused.WayAtCap = false

-- After such a refusal, in whatever state, the run continues as if the command had not been there:
-- the outcomes of all further events are the same, and the state but for that refusal's count.
abbrev pub ARefusalLeavesNothing : Type 0
ARefusalLeavesNothing =
    (row : Row) (s : RowState) (e : Event) (r : Refusal) (further : List Event)
    → outcome_of row e s ≡ outcome.Refused r
    → leaves_nothing r ≡ true
    → (outcomes_of row further (after_event row e s) ≡ outcomes_of row further s)
    × (after_events row further (after_event row e s) ≡ with_refusal r (after_events row further s))
