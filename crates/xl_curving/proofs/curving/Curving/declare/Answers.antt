use Rattle.xl_curving.proofs.Common.{◌∙◌, Access, ap, Area, curve_scene_after, curve_scene_of, curves_drained, Declared, List}
use Rattle.xl_curving.proofs.SceneLemmas.{declared}
use Rattle.xl_curving.proofs.curving.Curving.declare.Goals as goal

pub returns-clause-served : goal.returns-clause-served
returns-clause-served c =
    let rows = c.drain.new.rack in
    let curves = c.drain.new.self.curves.items in
    ap (λ (xs : List Access). curves_drained xs (curve_scene_of rows c.declare.new.self curves)) c.drain.ensures.none
    ∙ ap (λ (xs : List Area). curve_scene_of rows xs curves) c.declare.ensures
    ∙ declared c.args.area c.drain.new.self.areas rows curves
    ∙ ap (curve_scene_after (Declared c.args.area)) c.drain.ensures.served
