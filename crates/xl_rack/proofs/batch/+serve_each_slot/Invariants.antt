use Rattle.xl_rack.proofs.Common.{length}
use Rattle.xl_rack.proofs.batch.+serve_each_slot.Given as goal

abbrev pub decreases-serve_each_slot : goal.decreases-serve_each_slot
decreases-serve_each_slot g l = length l.slots.now
