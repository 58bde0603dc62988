use Rattle.xl_rack.proofs.Common.{◌≡◌, drop, row_served}
use Rattle.xl_rack.proofs.batch.serve_each.Given as goal

abbrev pub invariant-loop-access : goal.invariant-loop-access
invariant-loop-access g l = row_served (drop l.access-index l.fn.accesses) l.areas l.machine ≡ row_served l.fn.accesses l.areas l.fn.machine
