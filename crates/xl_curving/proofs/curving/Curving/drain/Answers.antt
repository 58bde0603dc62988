use Rattle.xl_curving.proofs.Common.{◌∙◌, ◌≡◌, ap, arith, curve_scene_of, curve_served, each_curve, HitCurve, length, List, map, row_served, Served}
use Rattle.xl_curving.proofs.SceneLemmas.{by-row, written}
use Rattle.xl_curving.proofs.curving.Curving.drain.Goals as goal

pub returns-clause-served : goal.returns-clause-served
returns-clause-served c =
    let form = c.args.self.now in
    let rows = c.args.rack.now in
    let batch = form.batch.items in
    let f = curve_served batch form.areas in
    let many : form.curves.len ≡ length form.curves.items = omega (arith, c.as_mut_slice.ensures.len, ap length c.as_mut_slice.ensures.value) in
    let served : c.serve_beside.new.self ≡ map (row_served batch form.areas) rows = rw (c.as_slice.ensures.value) at c.serve_beside.ensures.rows in
    let followed : c.serve_beside.new.curves ≡ each_curve f rows form.curves.items = rw (c.as_slice.ensures.value, c.as_mut_slice.ensures.value) at c.serve_beside.ensures.curves in
    ap (λ (cs : List HitCurve). curve_scene_of c.serve_beside.new.self form.areas cs) (written form.curves.len f rows c.serve_beside.new.curves form.curves.items followed many)
    ∙ ap (λ (rs : List Served). curve_scene_of rs form.areas (each_curve f rows form.curves.items)) served
    ∙ by-row batch form.areas rows form.curves.items
