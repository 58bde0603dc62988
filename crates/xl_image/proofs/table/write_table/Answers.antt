use Rattle.std.proofs.Common.{◌+◌, ◌≤◌, arith, false, length, sym, true}
use Rattle.xl_image.proofs.WordLemmas.{node-written, number-passed, table-cut, table-whole}
use Rattle.xl_image.proofs.table.write_table.Goals.{else-has_number, then-has_number+in-Ok}
use Rattle.xl_image.proofs.table.write_table.Goals as goal

pub returns-in-Err : goal.returns-in-Err
returns-in-Err g c =
    let radix = c.args.radix.now in
    table-cut g.K.Sink.sink c.args.row.now.name.bytes radix.leaves radix.nodes (c.loop-number.number + 1) c.args.out.now c.write_node.new.out
    (node-written g.K.Sink.sink c.args.row.now.name.bytes radix.leaves radix.nodes c.loop-number.number c.args.out.now c.loop-number.out c.write_node.new.out false
    (sym c.if-has_number.ensures) c.loop-number.invariant c.in-Err.ensures)

pub loop-number-preserved : goal.loop-number-preserved
loop-number-preserved g c =
    let radix = c.args.radix.now in
    elim c.if-has_number.branch [
      | then-has_number+in-Ok w ↦
          rw w.out-is
          (node-written g.K.Sink.sink c.args.row.now.name.bytes radix.leaves radix.nodes c.loop-number.number c.args.out.now c.loop-number.out w.write_node.new.out true
          (sym w.if-has_number.ensures) c.loop-number.invariant w.in-Ok.ensures)
      | else-has_number w ↦
          rw w.out-is
          (number-passed g.K.Sink.sink c.args.row.now.name.bytes radix.leaves radix.nodes c.loop-number.number c.args.out.now c.loop-number.out
          (sym w.if-has_number.ensures) c.loop-number.invariant)
    ]

pub returns : goal.returns
returns g c =
    let radix = c.args.radix.now in
    let small = c.words_read_back.ensures.kept.small in
    let over = c.loop-number-test.false in
    let h : length radix.nodes ≤ c.loop-number.number = omega arith in
    table-whole g.K.Sink.sink c.args.row.now.name.bytes radix.leaves radix.nodes c.loop-number.number c.args.out.now c.loop-number.out h c.loop-number.invariant
