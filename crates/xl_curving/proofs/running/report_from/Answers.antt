use Rattle.xl_curving.proofs.Common.{◌≡◌, account, can-script, course, curve_scene_of, curved, curves_drained, curves_text, Ends, false, known_one, plain_of, states_after, steps_of, trail_for, true}
use Rattle.xl_curving.proofs.EndLemmas.{course-ends, fresh}
use Rattle.xl_curving.proofs.running.report_from.Goals as goal

pub report-requires-clause-can : goal.report-requires-clause-can
report-requires-clause-can g c =
    can-script c.in_ok-form.form.areas c.args.orders.now.plain.script.now c.in_ok-form.ensures.areas c.fits.ensures.placed c.fits.ensures.few_areas

pub returns-clause-known : goal.returns-clause-known
returns-clause-known g c =
    let a = plain_of c.args.orders.now.plain.words.now in
    let cs = c.args.orders.now.plain.script.now in
    let sets = c.args.orders.now.sets in
    let form = c.in_ok-form.form in
    let rows = c.args.rows.now in
    let left = c.report.new.rack in
    let state = curves_drained form.batch.items (curve_scene_of rows form.areas form.curves.items) in
    let trail = g.T.Source.left c.args.source.now in
    let roomy = g.K.Sink.sink.roomy in
    let out = c.args.out.now in
    let new = c.report.new.out in
    let before = (g.K.Sink.sink.outside out).written in
    let after = (g.K.Sink.sink.outside new).written in
    known_one (g.F.Folder.folder.files c.args.folder.now)
    (λ fs. g.T.Source.reads_from c.args.source.now fs → Ends c.report.result (account curved false (curves_text sets) false (course curved (steps_of cs) (trail fs)) state)
    roomy before after out new (left ≡ (states_after curved (course curved (steps_of cs) (trail fs)).items state).scene.rows)) _
    c.report.ensures.known
    (λ fs h. course-ends roomy sets rows left cs (trail fs) (trail_for a fs) state c.report.result before after out new
    (fresh form.batch.items rows form.areas form.curves.items sets c.len.result c.in_ok-form.ensures.idle c.in_ok-form.ensures.areas c.len.ensures c.in_ok-form.ensures.curves)
    (c.requires.unread fs).1 (h (c.requires.unread fs).0))

pub returns-clause-early : goal.returns-clause-early
returns-clause-early g c e = let never : false ≡ true = (c.report.ensures.early e).0 in cc
