use Rattle.xl_tlb.proofs.Common.{length}
use Rattle.xl_tlb.proofs.in_turn.+look_in.Given as goal

abbrev pub decreases-look_in : goal.decreases-look_in
decreases-look_in l = length l.arrays.now
