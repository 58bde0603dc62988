-- Slots that move to the front.
use Rattle.xl_curve.proofs.Common.{◌<◌, ◌∙◌, ◌≡◌, ap, arith, distance, in_turn, IsGuide, IsGuided, IsInFront, Leaf, length, List, map, moved, Option, same_leaf, shifted, sym, take_all, ℕ}
use Rattle.xl_curve.proofs.RankLemmas.{apart_moved, ranks_moved, turn_length}
use Rattle.xl_curve.specs.declared.kernel.Slots.{Slots}

-- 64 places in which a leaf came to the front, and none was lost
pub in_front_in : (leaf : Leaf) (ranks : List ℕ) (places old : List (Option Leaf)) (was : Option ℕ) → in_turn ranks places ≡ shifted (same_leaf leaf) leaf old
    → was ≡ distance (same_leaf leaf) old → IsInFront leaf old was (in_turn ranks places)
in_front_in leaf ranks places old was is at = record {
  moved = is ∙ sym (take_all 64 (shifted (same_leaf leaf) leaf old) (omega (arith, ap length is, turn_length ranks places)));
  was_is = at;
}

-- a slot that moves to the front, where the guide is right then
pub guided_moved : (s : Slots) (rank : ℕ) (guide : List ℕ) → IsGuided s → length s.ranks ≡ 64 → rank < 64 → IsGuide guide s.marks (map (moved rank) s.ranks)
    → IsGuided (record s { ranks = map (moved rank) s.ranks; guide = guide })
guided_moved s rank guide old same l is = record {
  stack = record {
    marked = old.stack.marked;
    ranked = ranks_moved rank s.ranks l same old.stack.ranked;
    apart = apart_moved rank s.ranks same old.stack.apart;
  };
  guide_is = is;
}
