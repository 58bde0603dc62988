use Rattle.xl_recency.proofs.Common.{◌-◌, ◌<◌, ◌≡◌, false, has_tag, in_order, item_in, ℕ}
use Rattle.xl_recency.proofs.marks.place_of_tag.Given as goal

abbrev pub invariant-marked : goal.invariant-marked
invariant-marked g l = (k : ℕ) → k < l.place → k < l.len → has_tag l.tag (item_in (in_order l.items l.slots) k) ≡ false

abbrev pub decreases-marked : goal.decreases-marked
decreases-marked g l = 255 - l.place
