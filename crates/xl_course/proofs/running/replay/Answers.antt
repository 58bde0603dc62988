use Rattle.xl_course.proofs.Common.{course, EndAfter, ended, Err, Files, None, proceeds_then, Reached, Serves, states_after, subst}
use Rattle.xl_course.proofs.EndLemmas.{all_held, end_proceeds, late_of, report_done, serve_ends, served_still}
use Rattle.xl_course.proofs.KnownLemmas.{is_err_by, known_one}
use Rattle.xl_course.proofs.running.replay.Goals as goal

pub returns-in_err-serve-clause-known : goal.returns-in_err-serve-clause-known
returns-in_err-serve-clause-known g c =
    let a = c.args in
    let m = g.D.Form.meaning in
    let stop = c.in_err-serve.field-0.0 in
    let end = g.C.Orders.end a.orders.now in
    rw (is_err_by c.from_residual.result stop c.from_residual.ensures.1)
    (known_one (g.F.Folder.folder.files a.folder.now) (λ fs. g.T.Source.reads_from a.source.now fs → Serves {A = Unit {0}} m g.K.Sink.sink (g.C.Orders.answers a.orders.now)
    (course m (g.C.Orders.steps a.orders.now) (g.T.Source.left a.source.now fs)) (ended None) (g.D.Form.state a.form.now a.rack.now) (g.D.Form.state c.serve.new.form c.serve.new.rack) a.out.now c.serve.new.out (Err stop)) _
    c.in_err-serve.ensures.known (λ fs h s. serve_ends m _ (g.C.Orders.answers a.orders.now) (g.D.Form.last end) (g.D.Form.late end) _ _ _ _ _ stop _ (h s)))

pub returns-clause-known : goal.returns-clause-known
returns-clause-known g c =
    let a = c.args in
    let m = g.D.Form.meaning in
    let end = g.C.Orders.end a.orders.now in
    let state = g.D.Form.state c.serve.new.form c.serve.new.rack in
    known_one (g.F.Folder.folder.files a.folder.now) (λ fs. g.T.Source.reads_from a.source.now fs → Reached m g.K.Sink.sink (g.C.Orders.answers a.orders.now)
    (course m (g.C.Orders.steps a.orders.now) (g.T.Source.left a.source.now fs)) (ended None) (g.D.Form.state a.form.now a.rack.now) state a.out.now c.serve.new.out) _
    c.in_ok-serve.ensures.known
    (λ fs h s. report_done m _ (g.C.Orders.answers a.orders.now) (g.D.Form.last end) (g.D.Form.late end) (g.D.Form.holds c.finish.new.rack) _ _ _ _ _ _ c.finish.result (h s)
    (subst (λ (e : g.row.D-End.Denot). EndAfter g.K.Sink.sink (g.D.Form.late e) (g.D.Form.last e state) c.serve.new.out c.finish.new.out c.finish.result) c.end.ensures c.finish.ensures.written)
    c.finish.ensures.holds)

pub returns-clause-proceeds : goal.returns-clause-proceeds
returns-clause-proceeds g c =
    proceeds_then _ _ _ _ c.in_ok-serve.ensures.proceeds (end_proceeds g.K.Sink.sink _ _ _ _ c.finish.result c.finish.ensures.written)

pub returns-clause-early : goal.returns-clause-early
returns-clause-early g c e =
    let a = c.args in
    let m = g.D.Form.meaning in
    let end = g.C.Orders.end a.orders.now in
    let state = g.D.Form.state c.serve.new.form c.serve.new.rack in
    let whole = λ (fs : Files). course m (g.C.Orders.steps a.orders.now) (g.T.Source.left a.source.now fs) in (
      late_of g.K.Sink.sink _ _ _ _ c.finish.result
          (subst (λ (e : g.row.D-End.Denot). EndAfter g.K.Sink.sink (g.D.Form.late e) (g.D.Form.last e state) c.serve.new.out c.finish.new.out c.finish.result) c.end.ensures c.finish.ensures.written) e,
      known_one (g.F.Folder.folder.files a.folder.now) (λ fs. g.T.Source.reads_from a.source.now fs → Reached m g.K.Sink.sink (g.C.Orders.answers a.orders.now)
          (whole fs) (ended None) (g.D.Form.state a.form.now a.rack.now) state a.out.now c.serve.new.out)
          (λ fs. g.T.Source.reads_from a.source.now fs → g.D.Form.holds c.finish.new.rack (states_after m (whole fs).items (g.D.Form.state a.form.now a.rack.now)))
          c.in_ok-serve.ensures.known
          (λ fs h s. all_held m _ (g.C.Orders.answers a.orders.now) (g.D.Form.last end) (g.D.Form.late end) (g.D.Form.holds c.finish.new.rack) _ _ _ _ _ (h s) c.finish.ensures.holds),
    )

pub returns-in_err-serve-clause-early : goal.returns-in_err-serve-clause-early
returns-in_err-serve-clause-early g c e =
    absurd (served_still c.in_err-serve.field-0.0 c.in_err-serve.ensures.caused c.from_residual.result (is_err_by c.from_residual.result c.in_err-serve.field-0.0 c.from_residual.ensures.1) e)
