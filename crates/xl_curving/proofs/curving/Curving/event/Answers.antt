use Rattle.xl_curving.proofs.Common.{◌∙◌, ◌≡◌, ap, arith, curve_scene_of, curve_stepped, each_curve, HitCurve, length, List, Served}
use Rattle.xl_curving.proofs.SceneLemmas.{stepped, written}
use Rattle.xl_curving.proofs.curving.Curving.event.Goals as goal

pub returns-clause-served : goal.returns-clause-served
returns-clause-served c =
    let form = c.args.self.now in
    let rows = c.args.rack.now in
    let f = curve_stepped c.args.event in
    let many : form.curves.len ≡ length form.curves.items = omega (arith, c.as_mut_slice.ensures.len, ap length c.as_mut_slice.ensures.value) in
    let followed : c.step_beside.new.curves ≡ each_curve f rows form.curves.items = rw (c.as_mut_slice.ensures.value) at c.step_beside.ensures.curves in
    ap (λ (cs : List HitCurve). curve_scene_of c.step_beside.new.self form.areas cs) (written form.curves.len f rows c.step_beside.new.curves form.curves.items followed many)
    ∙ ap (λ (rs : List Served). curve_scene_of rs form.areas (each_curve f rows form.curves.items)) c.step_beside.ensures.rows
    ∙ stepped c.args.event form.areas rows form.curves.items
