use Rattle.xl_course.proofs.Common.{◌+◌, ◌-◌, ◌<◌, ◌≡◌, ◌≤◌, arith, eqb, folder_same, folder_then, nat_tests, not, proceeds_same, proceeds_then, ran, subst}
use Rattle.xl_course.proofs.CourseLemmas.{going_ends, going_on, going_skims_run, going_stops, run_step, Steps, underway_none}
use Rattle.xl_course.proofs.KnownLemmas.{known_all, known_then}
use Rattle.xl_course.proofs.serving.serve_run.Goals as goal

pub records-init : goal.records-init
records-init g c = record {
  known = known_all (g.F.Folder.folder.files c.args.folder.now) _ (λ fs s. underway_none _ _ (not (eqb g.row.ANSWERS 0)) _ (ran g.D.Form.meaning c.args.n) (g.T.Source.left c.args.source.now fs) _ _ s);
  folder = folder_same _ _;
  proceeds = proceeds_same _;
  can = λ steps h. h;
}

pub records-preserved : goal.records-preserved
records-preserved g c =
    let inv = c.records.invariant in
    let m = g.D.Form.meaning in
    let n = c.records.left in
    let some : 0 < n = let t = c.records-test.true in grind (arith, nat_tests) in
    let taken = c.skim-taken.result in
    let few : taken < n = omega (arith, c.skim-taken.ensures.few, some) in
    let fits : taken ≤ n = omega arith in
    let less : n - taken - 1 ≡ n - (taken + 1) = omega arith in
    let step : Steps m (ran m (n - taken)) (ran m (n - (taken + 1))) = subst (λ j. Steps m (ran m (n - taken)) (ran m j)) less (run_step m (n - taken) (omega arith)) in
    let next = c.in-Ok-true.ensures in
    record {
      known = known_then (g.F.Folder.folder.files c.args.folder.now) (g.F.Folder.folder.files c.records.folder) _ _ _ inv.folder.keeps inv.known next.known
          (λ fs h k s.
          let mid = going_skims_run _ _ _ _ _ _ _ _ (c.skim-taken.ensures.skims fs (h s).still_reads) c.records.out n (not (eqb g.row.ANSWERS 0)) _ _ _ _ c.skim-taken.ensures.none fits (h s) in
          going_on _ _ (not (eqb g.row.ANSWERS 0)) _ _ _ (ran m (n - taken)) (ran m (n - (taken + 1))) _ _ _ _ _ _ _ _ _ step mid c.in-Ok-true.field-0-test (k mid.still_reads));
      folder = folder_then _ _ _ _ _ inv.folder next.leaves;
      proceeds = proceeds_then _ _ _ _ inv.proceeds next.proceeds;
      can = λ steps h. next.can steps (c.skim-taken.ensures.can steps (inv.can steps h));
    }

pub returns-in-Ok-false-clause-known : goal.returns-in-Ok-false-clause-known
returns-in-Ok-false-clause-known g c =
    let inv = c.records.invariant in
    let m = g.D.Form.meaning in
    let n = c.records.left in
    let some : 0 < n = let t = c.records-test.true in grind (arith, nat_tests) in
    let taken = c.skim-taken.result in
    let few : taken < n = omega (arith, c.skim-taken.ensures.few, some) in
    let fits : taken ≤ n = omega arith in
    let less : n - taken - 1 ≡ n - (taken + 1) = omega arith in
    let step : Steps m (ran m (n - taken)) (ran m (n - (taken + 1))) = subst (λ j. Steps m (ran m (n - taken)) (ran m j)) less (run_step m (n - taken) (omega arith)) in
    known_then (g.F.Folder.folder.files c.args.folder.now) (g.F.Folder.folder.files c.records.folder) _ _ _ inv.folder.keeps inv.known c.in-Ok-false.ensures.known
    (λ fs h k s.
    let mid = going_skims_run _ _ _ _ _ _ _ _ (c.skim-taken.ensures.skims fs (h s).still_reads) c.records.out n (not (eqb g.row.ANSWERS 0)) _ _ _ _ c.skim-taken.ensures.none fits (h s) in
    going_ends _ _ (not (eqb g.row.ANSWERS 0)) _ _ _ (ran m (n - taken)) (ran m (n - (taken + 1))) _ _ _ _ _ _ _ _ _ _ step mid c.in-Ok-false.field-0-test (k mid.still_reads))

pub returns-in-Err-clause-known : goal.returns-in-Err-clause-known
returns-in-Err-clause-known g c =
    let inv = c.records.invariant in
    let m = g.D.Form.meaning in
    let n = c.records.left in
    let some : 0 < n = let t = c.records-test.true in grind (arith, nat_tests) in
    let taken = c.skim-taken.result in
    let few : taken < n = omega (arith, c.skim-taken.ensures.few, some) in
    let fits : taken ≤ n = omega arith in
    let less : n - taken - 1 ≡ n - (taken + 1) = omega arith in
    let step : Steps m (ran m (n - taken)) (ran m (n - (taken + 1))) = subst (λ j. Steps m (ran m (n - taken)) (ran m j)) less (run_step m (n - taken) (omega arith)) in
    known_then (g.F.Folder.folder.files c.args.folder.now) (g.F.Folder.folder.files c.records.folder) _ _ _ inv.folder.keeps inv.known c.in-Err.ensures.known
    (λ fs h k s.
    let mid = going_skims_run _ _ _ _ _ _ _ _ (c.skim-taken.ensures.skims fs (h s).still_reads) c.records.out n (not (eqb g.row.ANSWERS 0)) _ _ _ _ c.skim-taken.ensures.none fits (h s) in
    going_stops _ _ (not (eqb g.row.ANSWERS 0)) _ _ _ _ (ran m (n - taken)) (ran m (n - (taken + 1))) _ _ _ _ _ _ _ _ c.in-Err.stop step mid (k mid.still_reads))

pub returns-in-Ok-false-clause-proceeds : goal.returns-in-Ok-false-clause-proceeds
returns-in-Ok-false-clause-proceeds g c = proceeds_then _ _ _ _ c.records.invariant.proceeds c.in-Ok-false.ensures.proceeds

pub returns-in-Err-clause-proceeds : goal.returns-in-Err-clause-proceeds
returns-in-Err-clause-proceeds g c = proceeds_then _ _ _ _ c.records.invariant.proceeds c.in-Err.ensures.proceeds
