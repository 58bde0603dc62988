use Rattle.xl_report.proofs.Common.{◌*◌, ◌+◌, ◌-◌, ◌≡◌, ◌≤◌, drop, length, with_arrays, with_more_arrays}
use Rattle.xl_report.proofs.row.arrays.Given as goal

abbrev pub invariant-loop-i : goal.invariant-loop-i
invariant-loop-i l = record {
  text : with_more_arrays l.line (l.count - l.i) (drop l.i l.hits) (drop l.i l.misses) ≡ with_arrays l.fn.line l.count l.hits l.misses;
  grows : length l.line ≤ length l.fn.line + 42 * l.i;
}
