use Rattle.xl_rack.proofs.Common.{length}
use Rattle.xl_rack.proofs.beside.+serve_slots_beside.Given as goal

abbrev pub decreases-serve_slots_beside : goal.decreases-serve_slots_beside
decreases-serve_slots_beside l = length l.curves.now
