use Rattle.xl_curve.proofs.Common.{◌<◌, ◌≡◌, ◌≢◌, ◌≤◌, get_or, ℕ}
use Rattle.xl_curve.proofs.kernel.first_of.Given as goal

abbrev pub invariant-loop-slot : goal.invariant-loop-slot
invariant-loop-slot l = record {
  passed : (k : ℕ) → k < l.slot → k < l.first → get_or l.bytes k 0 ≢ l.byte;
  within : l.first ≤ 64;
  there : l.first < 64 → get_or l.bytes l.first 0 ≡ l.byte;
}
