use Rattle.xl_nesting.proofs.Common.{event_at, nested_form, served_more}
use Rattle.xl_nesting.proofs.events.serve_events.Goals as goal

pub loop-i-preserved : goal.loop-i-preserved
loop-i-preserved c =
    served_more nested_form (event_at c.args.first) c.loop-i.i c.args.nested.now c.loop-i.nested c.step.new.self c.loop-i.invariant (rw c.nth_event.ensures at c.step.ensures.after)
