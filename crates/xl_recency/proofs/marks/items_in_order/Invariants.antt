use Rattle.xl_recency.proofs.Common.{◌<◌, ◌≡◌, get_or, item_in, length, ℕ}
use Rattle.xl_recency.proofs.marks.items_in_order.Given as goal

abbrev pub invariant-loop-at : goal.invariant-loop-at
invariant-loop-at g l = record {
  count : length l.ordered ≡ length l.slots;
  each : (k : ℕ) → k < l.at → item_in l.ordered k ≡ item_in l.items (get_or l.slots k 0);
}
