use Rattle.xl_serving.proofs.Common.{◌∙◌, ap, Backlog, drained, Referenced, scene_after, scene_of}
use Rattle.xl_serving.proofs.BatchLemmas.{access-deferred}
use Rattle.xl_serving.proofs.batch.PlainBatch.put_off.Goals as goal

pub returns : goal.returns
returns g c number =
    let w = c.self.inside in
    let s = scene_of (g.R.Rows.rows c.make_room.new.rows) c.args.areas.now in
    let one = scene_after (Referenced number c.args.access.va c.args.access.kind) in
    rw c.push.ensures.items (access-deferred w.accesses.items w.events.items c.args.access.va c.args.access.kind s number c.self.invariant.1)
    ∙ ap (λ (b : Backlog). one (drained b s)) c.self.view_is
    ∙ ap one c.make_room.ensures.same
