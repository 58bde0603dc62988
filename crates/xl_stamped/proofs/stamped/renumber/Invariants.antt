use Rattle.xl_stamped.proofs.Common.{◌++◌, ◌<◌, ◌≡◌, drop, get_or, length, map, rank_of, renumbered, take, ℕ}
use Rattle.xl_stamped.proofs.stamped.renumber.Given as goal

-- the first ranks are those of the stamps in the first places
abbrev pub invariant-loop-i : goal.invariant-loop-i
invariant-loop-i l = record {
  ranks : (k : ℕ) (d : _) → k < l.i → get_or l.ranks k 0 ≡ rank_of l.places (get_or l.places k d).stamp;
  long : length l.ranks ≡ length l.places;
}

abbrev pub invariant-loop-i-2 : goal.invariant-loop-i-2
invariant-loop-i-2 l = record {
  ranks : (k : ℕ) (d : _) → k < length l.fn.places → get_or l.ranks k 0 ≡ rank_of l.fn.places (get_or l.fn.places k d).stamp;
  places : l.places ≡ map (renumbered l.fn.places) (take l.i l.fn.places) ++ drop l.i l.fn.places;
  long : length l.ranks ≡ length l.fn.places;
}
