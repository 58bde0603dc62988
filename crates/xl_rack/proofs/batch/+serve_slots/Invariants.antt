use Rattle.xl_rack.proofs.Common.{length}
use Rattle.xl_rack.proofs.batch.+serve_slots.Given as goal

abbrev pub decreases-serve_slots : goal.decreases-serve_slots
decreases-serve_slots l = length l.slots.now
