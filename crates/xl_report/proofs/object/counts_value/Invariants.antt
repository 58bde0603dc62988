use Rattle.xl_report.proofs.Common.{◌++◌, ◌≡◌, amount, drop, map, view}
use Rattle.xl_report.proofs.object.counts_value.Given as goal

abbrev pub invariant-loop-count : goal.invariant-loop-count
invariant-loop-count l = map view l.values.items ++ map amount (drop l.count-index l.counts) ≡ map amount l.counts
