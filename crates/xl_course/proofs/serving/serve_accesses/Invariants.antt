use Rattle.xl_course.proofs.Common.{accesses, accesses_items, eqb, HasServed, List, not, take, true}
use Rattle.xl_course.proofs.serving.serve_accesses.Given as goal

abbrev pub invariant-loop-i : goal.invariant-loop-i
invariant-loop-i g l = record {
  served : HasServed g.D.Form.meaning g.K.Sink.sink (not (eqb g.row.ANSWERS 0))
      (take l.i (accesses_items g.D.Form.meaning.referenced l.found.number (accesses l.found.reference)))
      (g.D.Form.state l.fn.form l.fn.rack) (g.D.Form.state l.form l.rack) l.fn.out l.out true;
  can : (commands : List g.row.D-Command.Denot) → g.D.Form.can l.fn.form l.fn.rack commands → g.D.Form.can l.form l.rack commands;
}
