use Rattle.xl_recency.proofs.Common.{◌*◌, ◌++◌, ◌+◌, ◌≡◌, ◌≤◌, drop, FnReturnsAt, IsTest, items_in, length, map, purged, take}
use Rattle.xl_recency.proofs.sets.Sets.remove_where.Given as goal

abbrev pub invariant-loop-set : goal.invariant-loop-set
invariant-loop-set g l = record {
  sets : length l.self ≡ length l.initial.self;
  most : l.count ≤ 64 * l.set;
  count : l.count + items_in l.self ≡ items_in l.initial.self;
  kept : (q : _) → IsTest (FnReturnsAt g.P.Fn l.test) q → l.self ≡ map (purged q) (take l.set l.initial.self) ++ drop l.set l.initial.self;
}
