use Rattle.xl_curve.proofs.Common.{◌++◌, ◌-◌, ◌≡◌, ◌≤◌, distance, drop, further, in_turn, IsStack, leaf_in, places_of, same_leaf, take, vacated}
use Rattle.xl_curve.proofs.kernel.vacate.Given as goal

abbrev pub invariant-marked : goal.invariant-marked
invariant-marked l = record {
  within : l.rank ≤ 64;
  same : l.slots ≡ l.fn.slots;
  marks : l.marks ≡ l.fn.marks;
  kept : IsStack l.marks l.ranks l.slots;
  passed : take l.from (in_turn l.ranks (places_of l.fn.slots)) ++ vacated (same_leaf (leaf_in l.leaf)) (drop l.from (in_turn l.ranks (places_of l.fn.slots)))
      ≡ take l.rank (in_turn l.ranks (places_of l.fn.slots)) ++ vacated (same_leaf (leaf_in l.leaf)) (drop l.rank (in_turn l.ranks (places_of l.fn.slots)));
  far : further l.from (distance (same_leaf (leaf_in l.leaf)) (drop l.from (in_turn l.ranks (places_of l.fn.slots))))
      ≡ further l.rank (distance (same_leaf (leaf_in l.leaf)) (drop l.rank (in_turn l.ranks (places_of l.fn.slots))));
}

abbrev pub decreases-marked : goal.decreases-marked
decreases-marked l = 64 - l.rank
