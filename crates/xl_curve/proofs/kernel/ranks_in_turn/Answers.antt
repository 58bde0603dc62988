use Rattle.xl_curve.proofs.Common.{◌∙◌, arith, length-set, sym}
use Rattle.xl_curve.proofs.RankLemmas.{rank_written}
use Rattle.xl_curve.proofs.kernel.ranks_in_turn.Goals as goal

pub loop-slot-preserved : goal.loop-slot-preserved
loop-slot-preserved c =
    let i = c.loop-slot.invariant in
    record { count = length-set c.loop-slot.ranks c.loop-slot.slot c.loop-slot.slot ∙ i.count; each = rank_written c.loop-slot.ranks c.loop-slot.slot (omega arith) i.each }

pub returns : goal.returns
returns c =
    let each = c.loop-slot.invariant.each in
    record {
      ranks = λ k l. record { slot = k; within = l; is = each k (omega arith) };
      apart = λ i j l m e. sym (each i (omega arith)) ∙ e ∙ each j (omega arith);
    }
