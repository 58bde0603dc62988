use Rattle.xl_serving.proofs.Common.{◌+◌, ◌-◌, ◌∙◌, ◌≡◌, ap, arith, Backlog, BatchedEvent, drained, gaps, length, scene_after, scene_of}
use Rattle.xl_model.specs.declared.script.Item.TheVariants.{Command}
use Rattle.xl_serving.proofs.BatchLemmas.{event-deferred}
use Rattle.xl_serving.proofs.batch.PlainBatch.put_off_event.Goals as goal

pub returns : goal.returns
returns g c =
    let w = c.self.inside in
    let s = scene_of (g.R.Rows.rows c.make_room_for_event.new.rows) c.args.areas.now in
    let one = scene_after (Command c.args.event) in
    let e : BatchedEvent = record { gap = c.len.result - w.placed; event = c.args.event } in
    let all : gaps w.events.items + e.gap ≡ length w.accesses.items = omega (arith, c.len.ensures.value, c.self.invariant.0, c.self.invariant.1) in
    rw c.push.ensures.items (event-deferred w.accesses.items w.events.items e s all)
    ∙ ap (λ (b : Backlog). one (drained b s)) c.self.view_is
    ∙ ap one c.make_room_for_event.ensures.same
