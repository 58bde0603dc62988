use Rattle.xl_curving.proofs.Common.{curve_lines, SinkAfter, take, true}
use Rattle.xl_curving.proofs.curving.write_curves.Given as goal

abbrev pub invariant-loop-i : goal.invariant-loop-i
invariant-loop-i g l = SinkAfter g.K.Sink.sink (curve_lines l.sets (take l.i l.rack) l.curves) l.fn.out l.out true
