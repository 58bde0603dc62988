use Rattle.xl_radix_walk.proofs.Common.{length}
use Rattle.xl_radix_walk.proofs.caches.+fence_caches.Given as goal

abbrev pub decreases-fence_caches : goal.decreases-fence_caches
decreases-fence_caches l = length l.caches.now
