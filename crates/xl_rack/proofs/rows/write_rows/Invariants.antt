use Rattle.xl_rack.proofs.Common.{row_lines, SinkAfter, take, true}
use Rattle.xl_rack.proofs.rows.write_rows.Given as goal

abbrev pub invariant-loop-i : goal.invariant-loop-i
invariant-loop-i g l = SinkAfter g.K.Sink.sink (row_lines (take l.i l.rack)) l.fn.out l.out true
