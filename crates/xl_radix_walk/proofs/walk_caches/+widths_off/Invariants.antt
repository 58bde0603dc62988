use Rattle.xl_radix_walk.proofs.Common.{length}
use Rattle.xl_radix_walk.proofs.walk_caches.+widths_off.Given as goal

abbrev pub decreases-widths_off : goal.decreases-widths_off
decreases-widths_off l = length l.widths.now
