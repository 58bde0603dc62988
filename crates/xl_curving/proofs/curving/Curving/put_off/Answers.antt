use Rattle.xl_curving.proofs.Common.{◌∙◌, Access, ap, curve_scene_after, curve_scene_of, curves_drained, List, Referenced}
use Rattle.xl_curving.proofs.SceneLemmas.{put-off}
use Rattle.xl_curving.proofs.curving.Curving.put_off.Goals as goal

pub returns-clause-served : goal.returns-clause-served
returns-clause-served c number =
    let form = c.make_room.new.self in
    let s = curve_scene_of c.make_room.new.rack form.areas form.curves.items in
    ap (λ (xs : List Access). curves_drained xs s) c.push.ensures.items
    ∙ put-off form.batch.items c.args.access number s
    ∙ ap (curve_scene_after (Referenced number c.args.access.va c.args.access.kind)) c.make_room.ensures.same
