use Rattle.xl_report.proofs.Common.{◌++◌, ◌-◌, ◌≡◌, drop, map, pairs, view}
use Rattle.xl_report.proofs.object.pairs_value.Given as goal

abbrev pub invariant-loop-i : goal.invariant-loop-i
invariant-loop-i l = map view l.values.items ++ pairs (l.count - l.i) (drop l.i l.hits) (drop l.i l.misses) ≡ pairs l.count l.hits l.misses
