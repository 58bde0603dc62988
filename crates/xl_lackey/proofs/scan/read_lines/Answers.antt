use Rattle.xl_lackey.proofs.Common.{◌+◌, ◌∙◌, ◌≡◌, ap, arith, drop, ended_lines, first_due, IsFirstLine, judged_line, length-drop, List, next_line, None, parted, refl, subst, sym, take_rest, ℕ}
use Rattle.xl_lackey.proofs.SplitLemmas.{due_found, due_step, ended_none, first_is, IsFirst, none_is, on_from, records_step}
use Rattle.xl_lackey.proofs.scan.read_lines.Goals as goal

pub loop-count-preserved : goal.loop-count-preserved
loop-count-preserved c =
    let n = c.loop-count.lines in
    let text = drop c.loop-count.used c.args.text.now in
    let after = drop (c.loop-count.used + c.in-Some.count) c.args.text.now in
    let line = subst (λ (xs : List ℕ). IsFirstLine xs c.in-Some.count c.in-Some.verdict) (take_rest c.args.text.now c.loop-count.used) c.in-Some.ensures.some in
    let first : IsFirst text after c.in-Some.verdict = first_is text after c.in-Some.verdict (on_from c.loop-count.used c.in-Some.count c.args.text.now line.line) in
    let verdict = sym c.in-Skipped.is ∙ first.verdict in record {
      within = omega (arith, line.within, length-drop c.loop-count.used c.args.text.now);
      first = due_step n _ text first.line after _ _ first.parts c.loop-count.invariant.first refl verdict;
      reads = λ last rest. records_step last n _ text rest first.line after _ _ first.parts (c.loop-count.invariant.reads last rest) refl verdict;
    }

pub returns-in_default-verdict : goal.returns-in_default-verdict
returns-in_default-verdict c =
    let n = c.loop-count.lines in
    let v = c.in-Some.verdict in
    let text = drop c.loop-count.used c.args.text.now in
    let after = drop (c.loop-count.used + c.in-Some.count) c.args.text.now in
    let line = subst (λ (xs : List ℕ). IsFirstLine xs c.in-Some.count c.in-Some.verdict) (take_rest c.args.text.now c.loop-count.used) c.in-Some.ensures.some in
    let first : IsFirst text after v = first_is text after v (on_from c.loop-count.used c.in-Some.count c.args.text.now line.line) in record {
      within = omega (arith, line.within, length-drop c.loop-count.used c.args.text.now);
      first = sym (due_found (next_line n) v (first_due (next_line n) (ended_lines after)) c.in_default-verdict.not-Skipped)
          ∙ due_step n _ text first.line after v _ first.parts c.loop-count.invariant.first refl first.verdict;
      proper = line.proper;
      reads = λ last rest. sym (records_step last n _ text rest first.line after v _ first.parts (c.loop-count.invariant.reads last rest) refl first.verdict);
      takes = λ h. omega (arith, line.some);
      ends = λ h. absurd (c.in_default-verdict.not-Skipped h);
    }

pub returns : goal.returns
returns c =
    let text = drop c.loop-count.used c.args.text.now in
    let none : parted 10 text ≡ None = none_is text (parted 10 text) refl
    (subst (λ (xs : List ℕ). judged_line xs ≡ None) (take_rest c.args.text.now c.loop-count.used) c.in_default.ensures.none) in record {
      within = c.loop-count.invariant.within;
      first = sym (ap (first_due c.loop-count.lines) (ended_none text none)) ∙ c.loop-count.invariant.first;
      proper = tt;
      reads = λ last rest. sym (c.loop-count.invariant.reads last rest);
      takes = λ h. absurd (h refl);
      ends = λ h. none;
    }
