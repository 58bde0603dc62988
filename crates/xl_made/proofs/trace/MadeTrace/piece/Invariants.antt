use Rattle.xl_made.proofs.Common.{◌*◌, ◌++◌, ◌-◌, ◌≡◌, ◌≤◌, length, take}
use Rattle.xl_made.proofs.trace.MadeTrace.piece.Given as goal

abbrev pub invariant-loop-i : goal.invariant-loop-i
invariant-loop-i l = record {
  given : l.fn.self ≡ take (l.i * 14) l.buf ++ l.self;
  some : (l.lines - l.i) * 14 ≤ length l.self;
  size : length l.buf ≡ length l.fn.buf;
}
