use Rattle.xl_tlb.proofs.Common.{length}
use Rattle.xl_tlb.proofs.in_turn.+fill_each.Given as goal

abbrev pub decreases-fill_each : goal.decreases-fill_each
decreases-fill_each l = length l.arrays.now
