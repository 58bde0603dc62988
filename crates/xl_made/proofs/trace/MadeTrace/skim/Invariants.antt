use Rattle.xl_made.proofs.Common.{◌-◌, ◌<◌, ◌^◌, ◌≤◌, length, Takes, ℕ}
use Rattle.xl_made.proofs.trace.MadeTrace.skim.Given as goal

abbrev pub invariant-loop-taken : goal.invariant-loop-taken
invariant-loop-taken l = record {
  takes : (n : ℕ) → n < 2 ^ 64 → Takes n l.fn.self l.self l.fn.into.items l.into.items l.taken;
  few : l.taken ≤ l.most;
  no_more : length l.self ≤ length l.fn.self;
}

abbrev pub decreases-loop-taken : goal.decreases-loop-taken
decreases-loop-taken l = l.most - l.taken
