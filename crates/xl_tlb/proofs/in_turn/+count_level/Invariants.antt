use Rattle.xl_tlb.proofs.Common.{length}
use Rattle.xl_tlb.proofs.in_turn.+count_level.Given as goal

abbrev pub decreases-count_level : goal.decreases-count_level
decreases-count_level l = length l.arrays.now
