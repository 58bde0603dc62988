use Rattle.std.proofs.Common.{◌*◌, ◌+◌, ◌≡◌, ◌≤◌, drop, length}
use Rattle.xl_model.specs.Lines.{with_rest}
use Rattle.xl_curve_line.proofs.line.rest.Given as goal

abbrev pub invariant-loop-number : goal.invariant-loop-number
invariant-loop-number l = record {
  text : with_rest l.line (drop l.number-index l.numbers) ≡ with_rest l.fn.line l.numbers;
  grows : length l.line ≤ length l.fn.line + 21 * l.number-index;
}
