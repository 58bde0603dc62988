use Rattle.xl_script.proofs.Common.{◌+◌, ◌-◌, ◌≡◌, ◌≤◌, after, drop, length, lines_read, script_lines}
use Rattle.xl_script.proofs.form.read_text.Given as goal

-- the commands so far and the lines left read as the whole text does
abbrev pub invariant-loop-at : goal.invariant-loop-at
invariant-loop-at g l = record {
  reading : after l.commands.items (lines_read g.F.Form.said l.form l.number (script_lines (drop l.at l.text)))
      ≡ lines_read g.F.Form.said l.fn.form 1 (script_lines l.text);
  counted : l.number ≤ l.at + 1;
  within : l.at ≤ length l.text;
}

abbrev pub decreases-loop-at : goal.decreases-loop-at
decreases-loop-at g l = length l.text - l.at
