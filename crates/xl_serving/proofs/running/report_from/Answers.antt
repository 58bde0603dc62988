use Rattle.xl_serving.proofs.Common.{◌≡◌, account, course, drained, end_text, Ends, inl, inr, known_one, plain, plain_of, refl, scene_of, states_after, steps_of, trail_for}
use Rattle.xl_serving.proofs.PlainLemmas.{can-script, course-ends, course-rows, fresh}
use Rattle.xl_serving.proofs.running.report_from.Goals as goal

pub report-requires-clause-can : goal.report-requires-clause-can
report-requires-clause-can g c =
    can-script c.in_ok-bench.bench.areas c.args.orders.now.script.now c.in_ok-bench.ensures.areas c.fits.ensures.placed c.fits.ensures.few_areas

pub returns-clause-known : goal.returns-clause-known
returns-clause-known g c =
    let a = plain_of c.args.orders.now.words.now in
    let cs = c.args.orders.now.script.now in
    let bench = c.in_ok-bench.bench in
    let rows = g.R.Rows.rows c.args.rows.now in
    let left = g.R.Rows.rows c.report.new.rack in
    let state = drained bench.batch (scene_of rows bench.areas) in
    let trail = g.T.Source.left c.args.source.now in
    let roomy = g.K.Sink.sink.roomy in
    let out = c.args.out.now in
    let new = c.report.new.out in
    let before = (g.K.Sink.sink.outside out).written in
    let after = (g.K.Sink.sink.outside new).written in
    known_one (g.F.Folder.folder.files c.args.folder.now)
    (λ fs. g.T.Source.reads_from c.args.source.now fs → Ends c.report.result (account plain a.answers (end_text a.json a.image) a.json (course plain (steps_of cs) (trail fs)) state)
    roomy before after out new (left ≡ (states_after plain (course plain (steps_of cs) (trail fs)).items state).rows)) _
    c.report.ensures.known
    (λ fs h. course-ends roomy a rows left cs (trail fs) (trail_for a fs) state c.report.result before after out new
    (fresh bench.batch rows bench.areas c.in_ok-bench.ensures.idle c.in_ok-bench.ensures.areas) (c.requires.unread fs).1 (h (c.requires.unread fs).0))

pub returns-clause-early : goal.returns-clause-early
returns-clause-early g c e =
    let a = plain_of c.args.orders.now.words.now in
    let cs = c.args.orders.now.script.now in
    let bench = c.in_ok-bench.bench in
    let rows = g.R.Rows.rows c.args.rows.now in
    let left = g.R.Rows.rows c.report.new.rack in
    let state = drained bench.batch (scene_of rows bench.areas) in
    let trail = g.T.Source.left c.args.source.now in
    let h = c.report.ensures.early e in
    inr (
      h.0,
      known_one (g.F.Folder.folder.files c.args.folder.now)
          (λ fs. g.T.Source.reads_from c.args.source.now fs → left ≡ (states_after plain (course plain (steps_of cs) (trail fs)).items state).rows) _ h.1
          (λ fs k. course-rows rows left cs (trail fs) (trail_for a fs) state
          (fresh bench.batch rows bench.areas c.in_ok-bench.ensures.idle c.in_ok-bench.ensures.areas) (c.requires.unread fs).1 (k (c.requires.unread fs).0)),
    )

pub returns-in_err-bench-clause-early : goal.returns-in_err-bench-clause-early
returns-in_err-bench-clause-early g c e = inl refl
