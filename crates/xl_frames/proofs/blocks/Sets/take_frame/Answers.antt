use Rattle.xl_frames.proofs.SetLemmas.{frame_taken}
use Rattle.xl_frames.proofs.blocks.Sets.take_frame.Goals as goal

pub invariant_of-self : goal.invariant_of-self
invariant_of-self c = record { kept = frame_taken c.args.self.now.kept c.in-Some.frame c.in-Some.ensures.lowest.within c.in-Some.ensures.taken c.withdraw.ensures c.withdraw-in-Some.ensures }
