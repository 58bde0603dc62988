use Rattle.xl_recency.proofs.Common.{◌<◌, ◌≡◌, get_or, length, ℕ}
use Rattle.xl_recency.proofs.marks.slots_in_turn.Given as goal

abbrev pub invariant-loop-slot : goal.invariant-loop-slot
invariant-loop-slot g l = record {
  count : length l.slots ≡ g.row.W;
  each : (k : ℕ) → k < l.slot → get_or l.slots k 0 ≡ k;
}
