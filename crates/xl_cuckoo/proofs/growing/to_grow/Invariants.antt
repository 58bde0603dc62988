use Rattle.xl_cuckoo.proofs.Common.{◌≡◌, candidate_in, drop, shapes, smaller, to_grow}
use Rattle.xl_cuckoo.proofs.growing.to_grow.Given as goal

abbrev pub invariant-ways : goal.invariant-ways
invariant-ways l = smaller (candidate_in l.best) (to_grow l.at (shapes (drop l.at l.ways))) ≡ to_grow 0 (shapes l.ways)
