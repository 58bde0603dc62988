use Rattle.xl_cuckoo.proofs.Common.{◌≡◌, drop, holder_from, shapes}
use Rattle.xl_cuckoo.proofs.reading.holder.Given as goal

abbrev pub invariant-loop-at : goal.invariant-loop-at
invariant-loop-at l = holder_from l.at (shapes (drop l.at l.ways)) l.key ≡ holder_from 0 (shapes l.ways) l.key
