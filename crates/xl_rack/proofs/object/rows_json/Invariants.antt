use Rattle.xl_rack.proofs.Common.{◌≡◌, map, row_objects, take, view}
use Rattle.xl_rack.proofs.object.rows_json.Given as goal

abbrev pub invariant-loop-i : goal.invariant-loop-i
invariant-loop-i l = map view l.objects.items ≡ row_objects (take l.i l.rack)
