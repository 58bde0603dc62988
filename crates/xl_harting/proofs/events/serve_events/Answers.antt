use Rattle.xl_harting.proofs.Common.{event_at, harts_form, served_more}
use Rattle.xl_harting.proofs.events.serve_events.Goals as goal

pub loop-i-preserved : goal.loop-i-preserved
loop-i-preserved c =
    served_more harts_form (event_at c.args.first) c.loop-i.i c.args.harts.now c.loop-i.harts c.step.new.self c.loop-i.invariant
    (rw c.nth_event.ensures at c.step.ensures.after)
