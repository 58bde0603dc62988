use Rattle.xl_course.proofs.Common.{eqb, Fine, FolderAfter, IfSome, List, not, Proceeds, ran, true}
use Rattle.xl_course.proofs.CourseLemmas.{Underway}
use Rattle.xl_course.proofs.serving.serve_run.Given as goal

abbrev pub invariant-records : goal.invariant-records
invariant-records g l = record {
  known : IfSome (g.F.Folder.folder.files l.fn.folder) (λ fs. g.T.Source.reads_from l.fn.source fs → Underway g.D.Form.meaning g.K.Sink.sink (not (eqb g.row.ANSWERS 0))
      (g.T.Source.reads_from l.source fs) (ran g.D.Form.meaning l.n (g.T.Source.left l.fn.source fs).records (g.T.Source.left l.fn.source fs).fault)
      (ran g.D.Form.meaning l.left (g.T.Source.left l.source fs).records (g.T.Source.left l.source fs).fault)
      (g.D.Form.state l.fn.form l.fn.rack) (g.D.Form.state l.form l.rack) l.fn.out l.out);
  folder : FolderAfter g.F.Folder.folder l.fn.folder l.folder Fine;
  proceeds : Proceeds true (g.K.Sink.sink.outside l.fn.out) (g.K.Sink.sink.outside l.out);
  can : (commands : List g.row.D-Command.Denot) → g.D.Form.can l.fn.form l.fn.rack commands → g.D.Form.can l.form l.rack commands;
}

abbrev pub decreases-records : goal.decreases-records
decreases-records g l = l.left
