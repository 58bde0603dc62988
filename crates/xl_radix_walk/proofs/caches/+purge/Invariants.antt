use Rattle.xl_radix_walk.proofs.Common.{length}
use Rattle.xl_radix_walk.proofs.caches.+purge.Given as goal

abbrev pub decreases-purge : goal.decreases-purge
decreases-purge g l = length l.caches.now
