use Rattle.xl_curve.proofs.Common.{◌<◌, ◌≤◌, get_or, IsNeither, ℕ}
use Rattle.xl_curve.proofs.kernel.first_marked.Given as goal

abbrev pub invariant-loop-slot : goal.invariant-loop-slot
invariant-loop-slot l = record {
  passed : (k : ℕ) → k < l.slot → l.from ≤ get_or l.ranks k 0 → get_or l.ranks k 0 < l.least → IsNeither l.mark l.other (get_or l.marks k 0);
  within : (l.from ≤ l.least) × (l.least ≤ 64);
}
