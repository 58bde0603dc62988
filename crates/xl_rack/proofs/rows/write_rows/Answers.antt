use Rattle.xl_rack.proofs.Common.{◌+◌, ◌<◌, arith, false, length, row_of, true}
use Rattle.xl_rack.proofs.RowsLemmas.{row-written, rows-cut}
use Rattle.xl_rack.proofs.rows.write_rows.Goals as goal

pub returns-in-Err : goal.returns-in-Err
returns-in-Err g c =
    let size = c.len-i-end.ensures in
    let within = c.loop-i-test.true in
    let h : c.loop-i.i < length c.args.rack.now = omega arith in
    rows-cut g.K.Sink.sink c.args.rack.now (c.loop-i.i + 1) c.args.out.now c.write_row.new.out
    (row-written g.K.Sink.sink c.args.rack.now c.loop-i.i (row_of c.row.result.now) c.counts.result c.args.out.now c.loop-i.out c.write_row.new.out false
    h c.row.ensures c.counts.ensures.counts c.loop-i.invariant c.in-Err.ensures)

pub loop-i-preserved : goal.loop-i-preserved
loop-i-preserved g c =
    let size = c.len-i-end.ensures in
    let within = c.loop-i-test.true in
    let h : c.loop-i.i < length c.args.rack.now = omega arith in
    row-written g.K.Sink.sink c.args.rack.now c.loop-i.i (row_of c.row.result.now) c.counts.result c.args.out.now c.loop-i.out c.write_row.new.out true
    h c.row.ensures c.counts.ensures.counts c.loop-i.invariant c.in-Ok.ensures
