use Rattle.xl_radix_walk.proofs.Common.{length}
use Rattle.xl_radix_walk.proofs.caches.+fill.Given as goal

abbrev pub decreases-fill : goal.decreases-fill
decreases-fill l = length l.caches.now
