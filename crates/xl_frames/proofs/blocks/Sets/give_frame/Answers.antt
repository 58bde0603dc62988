use Rattle.xl_frames.proofs.SetLemmas.{frame_given}
use Rattle.xl_frames.proofs.blocks.Sets.give_frame.Goals as goal

pub invariant_of-self : goal.invariant_of-self
invariant_of-self c = record { kept = frame_given c.args.self.now.kept c.args.frame c.requires c.give.ensures c.join_block.ensures c.join_block-2.ensures }
