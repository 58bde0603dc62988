use Rattle.xl_curve.proofs.Common.{◌<◌, ◌≡◌, get_or, length, ℕ}
use Rattle.xl_curve.proofs.kernel.ranks_in_turn.Given as goal

abbrev pub invariant-loop-slot : goal.invariant-loop-slot
invariant-loop-slot l = record {
  count : length l.ranks ≡ 64;
  each : (k : ℕ) → k < l.slot → get_or l.ranks k 0 ≡ k;
}
