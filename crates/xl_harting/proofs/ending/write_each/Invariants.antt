use Rattle.xl_harting.proofs.Common.{counts_lines, SinkAfter, take, true}
use Rattle.xl_harting.proofs.ending.write_each.Given as goal

abbrev pub invariant-loop-hart : goal.invariant-loop-hart
invariant-loop-hart g l =
    SinkAfter g.K.Sink.sink (counts_lines 0 (take l.hart l.fn.harts.harts)) l.fn.out l.out true
