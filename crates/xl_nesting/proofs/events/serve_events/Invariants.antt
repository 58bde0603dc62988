use Rattle.xl_nesting.proofs.Common.{◌≡◌, Command, event_at, events_from, map, meaning_of, nested_form, states_after}
use Rattle.xl_nesting.proofs.events.serve_events.Given as goal

abbrev pub invariant-loop-i : goal.invariant-loop-i
invariant-loop-i l = l.nested ≡ states_after (meaning_of nested_form) (map Command (events_from (event_at l.first) 0 l.i)) l.fn.nested
