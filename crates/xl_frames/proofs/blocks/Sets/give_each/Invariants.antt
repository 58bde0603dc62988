use Rattle.xl_frames.proofs.Common.{AreMarked, true}
use Rattle.xl_frames.proofs.blocks.Sets.give_each.Given as goal

abbrev pub invariant-loop-i : goal.invariant-loop-i
invariant-loop-i l = AreMarked l.fn.self.frames l.self.frames l.first l.i true
