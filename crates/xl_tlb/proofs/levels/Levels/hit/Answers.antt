use Rattle.xl_tlb.proofs.Common.{arith}
use Rattle.xl_tlb.proofs.levels.Levels.hit.Goals as goal

pub returns-clause-state : goal.returns-clause-state
returns-clause-state c =
    rw (← c.self.view_is) (record { hits = omega arith; misses = omega arith; fills = c.self.ranges.1.1.1.0.1; rising = c.self.invariant.rising })
