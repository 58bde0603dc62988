use Rattle.xl_lackey.proofs.Common.{◌++◌, ◌-◌, ◌≡◌, ◌≤◌, Bool, drop, ended_lines, first_due, length, lines_by, List, records, ℕ}
use Rattle.xl_lackey.proofs.scan.read_lines.Given as goal

abbrev pub invariant-loop-count : goal.invariant-loop-count
invariant-loop-count l = record {
  within : l.used ≤ length l.text;
  first : first_due l.lines (ended_lines (drop l.used l.text)) ≡ first_due l.before (ended_lines l.text);
  reads : (last : Bool) (rest : List ℕ) → records l.lines (lines_by last (drop l.used l.text ++ rest))
      ≡ records l.before (lines_by last (l.text ++ rest));
}

abbrev pub decreases-loop-count : goal.decreases-loop-count
decreases-loop-count l = length l.text - l.used
