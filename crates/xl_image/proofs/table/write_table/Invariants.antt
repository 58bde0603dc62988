use Rattle.std.proofs.Common.{true}
use Rattle.xl_image.proofs.WordLemmas.{TableLines}
use Rattle.xl_image.proofs.table.write_table.Given as goal

abbrev pub invariant-loop-number : goal.invariant-loop-number
invariant-loop-number g l =
    TableLines g.K.Sink.sink l.row.name.bytes l.radix.leaves l.radix.nodes l.number l.fn.out l.out true
