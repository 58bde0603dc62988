use Rattle.xl_cuckoo.proofs.Common.{◌≡◌, drop, shapes, value_of}
use Rattle.xl_cuckoo.proofs.reading.value.Given as goal

abbrev pub invariant-loop-way : goal.invariant-loop-way
invariant-loop-way l = value_of l.key (shapes (drop l.way-index l.ways)) ≡ value_of l.key (shapes l.ways)
