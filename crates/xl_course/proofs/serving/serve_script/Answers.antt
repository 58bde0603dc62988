use Rattle.xl_course.proofs.Common.{◌+◌, ◌≤◌, arith, commands_of, course, course_by, drop, ended, eqb, Err, folder_same, folder_then, length, nat_tests, None, not, Ok, proceeds_same, proceeds_then, ran_all, ServesPart, true}
use Rattle.xl_course.proofs.CourseLemmas.{next-left, stop_any, through_by, through_none, through_rest}
use Rattle.xl_course.proofs.KnownLemmas.{is_err_by, known_all, known_then}
use Rattle.xl_course.proofs.serving.serve_script.Goals as goal

pub loop-i-init : goal.loop-i-init
loop-i-init g c = record {
  known = known_all (g.F.Folder.folder.files c.args.folder.now) _ (λ fs s. through_none _ _ _ _ _ _ _ s);
  folder = folder_same _ _;
  proceeds = proceeds_same _;
  can = c.requires;
}

pub serve_step-requires : goal.serve_step-requires
serve_step-requires g c =
    let steps = g.C.Orders.steps c.args.orders.now in
    (drop (c.loop-i.i + 1) steps, next-left (λ left. g.D.Form.can c.loop-i.form c.loop-i.rack (commands_of left)) steps c.loop-i.i c.step.result c.step.ensures c.loop-i.invariant.can)

pub returns-in_err-serve_step-clause-known : goal.returns-in_err-serve_step-clause-known
returns-in_err-serve_step-clause-known g c =
    let a = c.args in
    let m = g.D.Form.meaning in
    let steps = g.C.Orders.steps a.orders.now in
    let inv = c.loop-i.invariant in
    let left = g.T.Source.left in
    let stop = c.in_err-serve_step.field-0.0 in
    rw (is_err_by c.from_residual.result stop c.from_residual.ensures.1)
    (known_then (g.F.Folder.folder.files a.folder.now) (g.F.Folder.folder.files c.loop-i.folder) _ (λ fs. g.T.Source.reads_from c.loop-i.source fs → ServesPart m g.K.Sink.sink (not (eqb g.row.ANSWERS 0)) (g.T.Source.reads_from c.serve_step.new.source fs) (course_by m c.step.result (left c.loop-i.source fs)) (left c.serve_step.new.source fs) (g.D.Form.state c.loop-i.form c.loop-i.rack) (g.D.Form.state c.serve_step.new.form c.serve_step.new.rack) c.loop-i.out c.serve_step.new.out (Err stop)) _
    inv.folder.keeps inv.known c.in_err-serve_step.ensures.known
    (λ fs h k s. stop_any _ _ (not (eqb g.row.ANSWERS 0)) (Unit {0}) (Unit {0}) (course m steps (left a.source.now fs)) (course m (drop (c.loop-i.i + 1) steps) (left c.serve_step.new.source fs)) (ended None) _ _ _ _ stop
    (through_by _ _ (not (eqb g.row.ANSWERS 0)) _ _ _ steps c.loop-i.i c.step.result _ _ _ _ _ _ _ _ _ c.step.ensures (h s) (k (h s).still_reads))))

pub loop-i-preserved : goal.loop-i-preserved
loop-i-preserved g c =
    let a = c.args in
    let m = g.D.Form.meaning in
    let steps = g.C.Orders.steps a.orders.now in
    let inv = c.loop-i.invariant in
    let left = g.T.Source.left in
    record {
      known = known_then (g.F.Folder.folder.files a.folder.now) (g.F.Folder.folder.files c.loop-i.folder) _ (λ fs. g.T.Source.reads_from c.loop-i.source fs → ServesPart m g.K.Sink.sink (not (eqb g.row.ANSWERS 0)) (g.T.Source.reads_from c.serve_step.new.source fs) (course_by m c.step.result (left c.loop-i.source fs)) (left c.serve_step.new.source fs) (g.D.Form.state c.loop-i.form c.loop-i.rack) (g.D.Form.state c.serve_step.new.form c.serve_step.new.rack) c.loop-i.out c.serve_step.new.out (Ok tt)) _
          inv.folder.keeps inv.known c.in_ok-serve_step.ensures.known
          (λ fs h k s. record {
            reached = through_by _ _ (not (eqb g.row.ANSWERS 0)) _ _ _ steps c.loop-i.i c.step.result _ _ _ _ _ _ _ _ (Ok tt) c.step.ensures (h s) (k (h s).still_reads);
            still_reads = (k (h s).still_reads).still_reads;
          });
      folder = folder_then _ _ _ _ _ inv.folder c.in_ok-serve_step.ensures.leaves;
      proceeds = proceeds_then true _ _ _ inv.proceeds c.in_ok-serve_step.ensures.proceeds;
      can = c.in_ok-serve_step.ensures.can (drop (c.loop-i.i + 1) steps) (next-left (λ left. g.D.Form.can c.loop-i.form c.loop-i.rack (commands_of left)) steps c.loop-i.i c.step.result c.step.ensures inv.can);
    }

pub returns-clause-known : goal.returns-clause-known
returns-clause-known g c =
    let a = c.args in
    let m = g.D.Form.meaning in
    let steps = g.C.Orders.steps a.orders.now in
    let inv = c.loop-i.invariant in
    let left = g.T.Source.left in
    let all : length steps ≤ c.loop-i.i = let n = c.len-i-end.ensures in grind (arith, nat_tests) in
    known_then (g.F.Folder.folder.files a.folder.now) (g.F.Folder.folder.files c.loop-i.folder) _ (λ fs. g.T.Source.reads_from c.loop-i.source fs → ServesPart m g.K.Sink.sink (not (eqb g.row.ANSWERS 0)) (g.T.Source.reads_from c.serve_rest.new.source fs) (ran_all m (left c.loop-i.source fs).records (left c.loop-i.source fs).fault) (left c.serve_rest.new.source fs) (g.D.Form.state c.loop-i.form c.loop-i.rack) (g.D.Form.state c.serve_rest.new.form c.serve_rest.new.rack) c.loop-i.out c.serve_rest.new.out c.serve_rest.result) _
    inv.folder.keeps inv.known c.serve_rest.ensures.known
    (λ fs h k s. through_rest _ _ (not (eqb g.row.ANSWERS 0)) _ _ _ steps c.loop-i.i _ _ _ _ _ _ _ _ c.serve_rest.result all (h s) (k (h s).still_reads))

pub returns-in_err-serve_step-clause-proceeds : goal.returns-in_err-serve_step-clause-proceeds
returns-in_err-serve_step-clause-proceeds g c =
    rw (is_err_by c.from_residual.result c.in_err-serve_step.field-0.0 c.from_residual.ensures.1)
    (proceeds_then _ _ _ _ c.loop-i.invariant.proceeds c.in_err-serve_step.ensures.proceeds)

pub returns-clause-proceeds : goal.returns-clause-proceeds
returns-clause-proceeds g c = proceeds_then _ _ _ _ c.loop-i.invariant.proceeds c.serve_rest.ensures.proceeds
