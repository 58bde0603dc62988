use Rattle.xl_rack.proofs.Common.{◌≡◌, curve_served, drop, row_served}
use Rattle.xl_rack.proofs.beside.serve_machine.Given as goal

abbrev pub invariant-loop-access : goal.invariant-loop-access
invariant-loop-access g l = record {
  machine : row_served (drop l.access-index l.fn.accesses) l.areas l.machine ≡ row_served l.fn.accesses l.areas l.fn.machine;
  curve : curve_served (drop l.access-index l.fn.accesses) l.areas l.machine l.curve ≡ curve_served l.fn.accesses l.areas l.fn.machine l.fn.curve;
}
