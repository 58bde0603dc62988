use Rattle.xl_radix_walk.proofs.Common.{length}
use Rattle.xl_radix_walk.proofs.caches.+look.Given as goal

abbrev pub decreases-look : goal.decreases-look
decreases-look l = length l.caches.now
