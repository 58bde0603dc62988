use Rattle.xl_lackey.proofs.Common.{◌+◌, ◌∙◌, Access, arith, IsRecordLine, length-drop, List, read_of, Runs, subst, sym, take, take_rest, ℕ}
use Rattle.xl_lackey.proofs.SkimLemmas.{runs_more, runs_none}
use Rattle.xl_lackey.proofs.skim.skim_plain.Goals as goal

pub plain-init : goal.plain-init
plain-init c = record {
  runs = runs_none c.args.text.now (take c.args.len c.args.slots.now);
  places = c.requires.places;
  end = c.requires.len;
  within = omega arith;
  some = omega arith;
  few = omega arith;
}

pub plain-preserved : goal.plain-preserved
plain-preserved c =
    let text = c.args.text.now in
    let first : List Access = take c.args.len c.args.slots.now in
    let found = c.in-Some.found in
    let old = c.plain in
    let put = c.put_record-end in
    let line = subst (λ (t : List ℕ). IsRecordLine t found.used (read_of found)) (take_rest text old.used) c.in-Some.ensures.line in
    record {
      runs = subst (λ (xs : List Access). Runs text first xs (record { used = old.used + found.used; taken = old.taken + 1 })) (sym put.ensures.items)
          (runs_more text first (take old.end old.slots) (read_of found) (record { used = old.used; taken = old.taken }) found.used old.invariant.runs line);
      places = put.ensures.places ∙ old.invariant.places;
      end = omega (arith, put.ensures.few, c.plain-test.true, c.full_at-full.ensures.room);
      within = omega (arith, line.line.within, length-drop old.used text, old.invariant.within);
      some = omega (arith, put.ensures.some, old.invariant.some);
      few = omega (arith, c.plain-test.true, c.full_at-full.ensures.few, old.invariant.some);
    }

pub returns-then-text-lt-NEAR-clause-runs : goal.returns-then-text-lt-NEAR-clause-runs
returns-then-text-lt-NEAR-clause-runs c = runs_none c.args.text.now (take c.args.len c.args.slots.now)
