use Rattle.xl_harting.proofs.Common.{all_counts, all_counts_line, counts_lines, is_ok, sink_then}
use Rattle.xl_harting.proofs.ending.write_end.Goals as goal

pub returns-in-Ok : goal.returns-in-Ok
returns-in-Ok g c =
    let s = c.args.harts.now in
    sink_then g.K.Sink.sink (counts_lines 0 s.harts) (all_counts_line (all_counts s)) c.args.out.now c.write_each.new.out c.write_all_counts.new.out
    (is_ok c.write_all_counts.result) c.in-Ok.ensures (rw c.all.ensures at c.write_all_counts.ensures)
