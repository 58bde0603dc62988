use Rattle.xl_recency.proofs.Common.{◌<◌, ◌≢◌, ◌≤◌, get_or, ℕ}
use Rattle.xl_recency.proofs.marks.next_marked.Given as goal

abbrev pub invariant-loop-place : goal.invariant-loop-place
invariant-loop-place g l = record {
  passed : (k : ℕ) → k < l.place → l.from ≤ k → k < l.first → get_or l.marks k 0 ≢ l.mark;
  within : l.from ≤ l.first;
}
