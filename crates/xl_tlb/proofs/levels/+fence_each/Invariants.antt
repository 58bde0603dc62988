use Rattle.xl_tlb.proofs.Common.{length}
use Rattle.xl_tlb.proofs.levels.+fence_each.Given as goal

abbrev pub decreases-fence_each : goal.decreases-fence_each
decreases-fence_each l = length l.arrays.now
