use Rattle.xl_cuckoo.proofs.Common.{◌++◌, ◌≡◌, begins, drop, map, one_if, plus, shapes, take, total, with_begun}
use Rattle.xl_cuckoo.proofs.settling.begin_each.Given as goal

abbrev pub invariant-ways : goal.invariant-ways
invariant-ways l = record {
  ways : l.ways ≡ map (with_begun l.threshold) (take l.at l.initial.ways) ++ drop l.at l.initial.ways;
  count : plus l.growths (total (λ w. one_if (begins l.threshold w)) (shapes (drop l.at l.initial.ways)))
      ≡ plus l.before (total (λ w. one_if (begins l.threshold w)) (shapes l.initial.ways));
}
