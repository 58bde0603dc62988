use Rattle.xl_frames.proofs.Common.{true}
use Rattle.xl_frames.proofs.SetLemmas.{marked_more, marked_none}
use Rattle.xl_frames.proofs.blocks.Sets.give_each.Goals as goal

pub loop-i-init : goal.loop-i-init
loop-i-init c = marked_none c.args.self.now.frames c.args.first true

pub loop-i-preserved : goal.loop-i-preserved
loop-i-preserved c = marked_more c.args.self.now.frames _ _ c.args.first c.loop-i.i true c.loop-i.invariant c.give_frame.ensures
