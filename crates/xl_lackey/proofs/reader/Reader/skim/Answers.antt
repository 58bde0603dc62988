use Rattle.xl_lackey.proofs.Common.{◌-◌, ◌∙◌, ◌≡◌, ◌≤◌, ap, arith, drop, drop-take, length, lines_after, List, State, subst, sym, take, ℕ}
use Rattle.xl_lackey.proofs.SkimLemmas.{skimmed, skimmed_none}
use Rattle.xl_lackey.proofs.reader.Reader.skim.Goals as goal

held_part : (start end : ℕ) (bytes items : List ℕ) → bytes ≡ items → start ≤ end → take (end - start) (drop start bytes) ≡ drop start (take end items)
held_part start end bytes items same order =
    ap (λ (xs : List ℕ). take (end - start) (drop start xs)) same ∙ sym (drop-take start (end - start) items) ∙ ap (λ (k : ℕ). drop start (take k items)) (omega (arith, order))

pub pass-requires : goal.pass-requires
pass-requires c =
    let r = c.self.inside in
    let run = c.skim_lines-run.result in
    subst (λ (xs : List ℕ). run.used ≤ length xs) (held_part r.start r.end c.as_slice.result.now r.buf.items c.as_slice.ensures.value c.self.invariant.1) (c.skim_lines-run.ensures.runs 0 (omega arith)).within

pub returns-in_default-clause-skims : goal.returns-in_default-clause-skims
returns-in_default-clause-skims c = skimmed_none c.args.self.now c.args.into.now.items

pub returns-clause-skims : goal.returns-clause-skims
returns-clause-skims c =
    let r = c.self.inside in
    let run = c.skim_lines-run.result in
    let text = held_part r.start r.end c.as_slice.result.now r.buf.items c.as_slice.ensures.value c.self.invariant.1 in
    skimmed c.args.self.now c.pass.new.self _ r.lines c.args.into.now.items c.skim_lines-run.new.into.items run
    (sym c.bad_line.ensures ∙ c.in-None.is) (text ∙ ap (λ (s : State). s.held) c.self.view_is) (ap (λ (s : State). s.lines) c.self.view_is) c.self.ranges.1.1.1.0.1 c.skim_lines-run.ensures.runs
    (c.pass.ensures ∙ ap (λ (s : State). record s { lines = lines_after r.lines run.taken; held = drop run.used s.held }) c.self.view_is)
