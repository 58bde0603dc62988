use Rattle.xl_frames.proofs.Common.{arith}
use Rattle.xl_frames.proofs.SetLemmas.{block_given}
use Rattle.xl_frames.proofs.blocks.Sets.give_block.Goals as goal

pub invariant_of-self : goal.invariant_of-self
invariant_of-self c =
    let i = c.args.self.now.kept in
    let n = i.blocks_are.count in
    record { kept = block_given i c.args.block (omega (arith, c.requires)) c.mark_words.ensures c.give.ensures c.join_block.ensures }
