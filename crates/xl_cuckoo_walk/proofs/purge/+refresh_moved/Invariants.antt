use Rattle.xl_cuckoo_walk.proofs.Common.{◌-◌}
use Rattle.xl_cuckoo_walk.proofs.purge.+refresh_moved.Given as goal

abbrev pub decreases-refresh_moved : goal.decreases-refresh_moved
decreases-refresh_moved g l = 64 - l.at
