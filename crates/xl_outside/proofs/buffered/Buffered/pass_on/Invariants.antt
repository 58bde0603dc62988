use Rattle.xl_outside.proofs.Common.{◌+◌, ◌≡◌, length, Proceeds, true, with_more, ℕ}
use Rattle.xl_outside.proofs.buffered.Buffered.pass_on.Given as goal

abbrev pub invariant-loop-self : goal.invariant-loop-self
invariant-loop-self g l = record {
  kept : with_more (g.K.Sink.sink.taken l.self.to) l.self.held ≡ with_more (g.K.Sink.sink.taken l.fn.self.to) l.fn.self.held;
  proceeds : Proceeds true (g.K.Sink.sink.outside l.fn.self.to) (g.K.Sink.sink.outside l.self.to);
  calm : (room : ℕ) → g.K.Sink.sink.roomy l.fn.self.to (length l.fn.self.held + room) → g.K.Sink.sink.roomy l.self.to (length l.self.held + room);
}

abbrev pub decreases-loop-self : goal.decreases-loop-self
decreases-loop-self g l = length l.self.held
