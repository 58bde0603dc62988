use Rattle.xl_outside.proofs.Common.{◌-◌, ◌≡◌, ◌≤◌, length, Proceeds, take, true, with_more, ℕ}
use Rattle.xl_outside.proofs.sink.Sink.put_all.Given as goal

abbrev pub invariant-loop-done : goal.invariant-loop-done
invariant-loop-done g l = record {
  within : l.done ≤ length l.bytes;
  so_far : g.Self.Sink.sink.taken l.self ≡ with_more (g.Self.Sink.sink.taken l.fn.self) (take l.done l.bytes);
  proceeds : Proceeds true (g.Self.Sink.sink.outside l.fn.self) (g.Self.Sink.sink.outside l.self);
  calm : (room : ℕ) → g.Self.Sink.sink.roomy l.fn.self room → length l.bytes ≤ room → g.Self.Sink.sink.roomy l.self (room - l.done);
}

abbrev pub decreases-loop-done : goal.decreases-loop-done
decreases-loop-done g l = length l.bytes - l.done
