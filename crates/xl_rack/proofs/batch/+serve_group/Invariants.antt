use Rattle.xl_rack.proofs.Common.{length}
use Rattle.xl_rack.proofs.batch.+serve_group.Given as goal

abbrev pub decreases-serve_group : goal.decreases-serve_group
decreases-serve_group l = length l.events.now
