use Rattle.xl_stamped.proofs.Common.{◌<◌, ◌≤◌, get_or, length, ℕ}
use Rattle.xl_stamped.proofs.stamped.oldest.Given as goal

abbrev pub invariant-loop-i : goal.invariant-loop-i
invariant-loop-i l = record {
  within : l.oldest < length l.places;
  least : (k : ℕ) (d : _) → k < l.i → (get_or l.places l.oldest d).stamp ≤ (get_or l.places k d).stamp;
}
