use Rattle.xl_report.proofs.Common.{◌*◌, ◌+◌, ◌≡◌, ◌≤◌, drop, length, with_rest}
use Rattle.xl_report.proofs.row.rest.Given as goal

abbrev pub invariant-loop-number : goal.invariant-loop-number
invariant-loop-number l = record {
  text : with_rest l.line (drop l.number-index l.numbers) ≡ with_rest l.fn.line l.numbers;
  grows : length l.line ≤ length l.fn.line + 21 * l.number-index;
}
