use Rattle.xl_recency.proofs.Common.{◌<◌, ◌≡◌, get_or, item_in, item_mark, length, ℕ}
use Rattle.xl_recency.proofs.marks.marks_of.Given as goal

abbrev pub invariant-loop-at : goal.invariant-loop-at
invariant-loop-at g l = record {
  count : length l.marks ≡ length l.items;
  each : (k : ℕ) → k < l.at → get_or l.marks k 0 ≡ item_mark (item_in l.items k);
}
