use Rattle.std.proofs.Common.{None, true}
use Rattle.std.specs.Prelude.{slice_index_or}
use Rattle.xl_image.proofs.WordLemmas.{NodeLines}
use Rattle.xl_image.proofs.table.write_node.Given as goal

abbrev pub invariant-loop-index : goal.invariant-loop-index
invariant-loop-index g l =
    NodeLines g.K.Sink.sink l.row.name.bytes l.radix.leaves l.radix.nodes l.number (slice_index_or l.radix.nodes l.number None) l.index l.fn.out l.out true
