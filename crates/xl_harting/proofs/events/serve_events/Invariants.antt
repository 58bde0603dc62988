use Rattle.xl_harting.proofs.Common.{◌≡◌, Command, event_at, events_from, harts_form, map, meaning_of, states_after}
use Rattle.xl_harting.proofs.events.serve_events.Given as goal

abbrev pub invariant-loop-i : goal.invariant-loop-i
invariant-loop-i l = l.harts ≡ states_after (meaning_of harts_form) (map Command (events_from (event_at l.first) 0 l.i)) l.fn.harts
