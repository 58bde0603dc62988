use Rattle.xl_cuckoo.proofs.Common.{shapes}
use Rattle.xl_cuckoo.proofs.TableLemmas.{opening-table}
use Rattle.xl_cuckoo.proofs.cuckoo.Cuckoo.open.Goals as goal

pub invariant_of-result : goal.invariant_of-result
invariant_of-result g c =
    opening-table g.row.D c.args.threshold c.args.kick_limit c.args.start_bits c.args.cap_bits (shapes c.in_ok-ways.ways.items) c.in_ok-ways.ensures
    c.requires.ways.0 c.requires.ways.1 c.requires.threshold c.requires.limit
