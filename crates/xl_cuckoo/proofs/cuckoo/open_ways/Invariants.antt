use Rattle.xl_cuckoo.proofs.Common.{◌≡◌, opening_ways, shapes}
use Rattle.xl_cuckoo.proofs.cuckoo.open_ways.Given as goal

abbrev pub invariant-ways : goal.invariant-ways
invariant-ways l = shapes l.ways.items ≡ opening_ways l.start_bits l.cap_bits 0 l.number
