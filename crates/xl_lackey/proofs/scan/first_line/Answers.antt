use Rattle.xl_lackey.proofs.Common.{◌+◌, ◌∙◌, ap, arith, drop, Some, sym}
use Rattle.xl_lackey.proofs.SplitLemmas.{line_none, line_some}
use Rattle.xl_lackey.proofs.scan.first_line.Goals as goal

pub returns-clause-some : goal.returns-clause-some
returns-clause-some c = record {
  within = omega (arith, c.in_ok-at.ensures.0.high);
  some = omega arith;
  line = sym (line_some c.args.text.now c.in_ok-at.at c.in_ok-at.ensures)
      ∙ ap (λ v. Some (drop (c.in_ok-at.at + 1) c.args.text.now, v)) (sym c.judge.ensures.value);
  proper = c.judge.ensures.proper;
}

pub returns-in_err-at-clause-none : goal.returns-in_err-at-clause-none
returns-in_err-at-clause-none c = rw c.from_residual.ensures (sym (line_none c.args.text.now c.in_err-at.ensures))
