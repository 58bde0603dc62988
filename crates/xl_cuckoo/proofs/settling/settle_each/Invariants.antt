use Rattle.xl_cuckoo.proofs.Common.{◌++◌, ◌≡◌, drop, map, plus, shapes, slots_settled, take, total, with_settled}
use Rattle.xl_cuckoo.proofs.settling.settle_each.Given as goal

abbrev pub invariant-ways : goal.invariant-ways
invariant-ways l = record {
  ways : l.ways ≡ map (with_settled l.most) (take l.at l.initial.ways) ++ drop l.at l.initial.ways;
  count : plus l.migrated (total (slots_settled l.most) (shapes (drop l.at l.initial.ways))) ≡ plus l.before (total (slots_settled l.most) (shapes l.initial.ways));
}
