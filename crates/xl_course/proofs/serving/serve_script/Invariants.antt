use Rattle.xl_course.proofs.Common.{commands_of, course, drop, eqb, Fine, FolderAfter, IfSome, not, Proceeds, true}
use Rattle.xl_course.proofs.CourseLemmas.{Through}
use Rattle.xl_course.proofs.serving.serve_script.Given as goal

abbrev pub invariant-loop-i : goal.invariant-loop-i
invariant-loop-i g l = record {
  known : IfSome (g.F.Folder.folder.files l.fn.folder) (λ fs. g.T.Source.reads_from l.fn.source fs → Through g.D.Form.meaning g.K.Sink.sink (not (eqb g.row.ANSWERS 0))
      (g.T.Source.reads_from l.source fs) (course g.D.Form.meaning (g.C.Orders.steps l.orders) (g.T.Source.left l.fn.source fs))
      (course g.D.Form.meaning (drop l.i (g.C.Orders.steps l.orders)) (g.T.Source.left l.source fs))
      (g.D.Form.state l.fn.form l.fn.rack) (g.D.Form.state l.form l.rack) l.fn.out l.out);
  folder : FolderAfter g.F.Folder.folder l.fn.folder l.folder Fine;
  proceeds : Proceeds true (g.K.Sink.sink.outside l.fn.out) (g.K.Sink.sink.outside l.out);
  can : g.D.Form.can l.form l.rack (commands_of (drop l.i (g.C.Orders.steps l.orders)));
}
