use Rattle.xl_curve.proofs.Common.{◌-◌, ◌≡◌, ◌≤◌, drop, further, gap, in_turn, leaf_in, places_of, same_leaf}
use Rattle.xl_curve.proofs.kernel.first_gap.Given as goal

abbrev pub invariant-marked : goal.invariant-marked
invariant-marked l = record {
  within : l.rank ≤ 64;
  passed : gap (same_leaf (leaf_in l.leaf)) (in_turn l.ranks (places_of l.slots))
      ≡ further l.rank (gap (same_leaf (leaf_in l.leaf)) (drop l.rank (in_turn l.ranks (places_of l.slots))));
}

abbrev pub decreases-marked : goal.decreases-marked
decreases-marked l = 64 - l.rank
