use Rattle.xl_report.proofs.Common.{◌++◌, ◌≡◌, drop, map, objects_of, view}
use Rattle.xl_report.proofs.object.json.Given as goal

abbrev pub invariant-loop-i : goal.invariant-loop-i
invariant-loop-i l = map view l.objects.items ++ objects_of (drop l.i l.rows.items) (drop l.i l.counts.items) ≡ objects_of l.rows.items l.counts.items
