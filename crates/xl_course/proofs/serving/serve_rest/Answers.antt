use Rattle.xl_course.proofs.Common.{eqb, folder_same, folder_then, not, proceeds_same, proceeds_then, ran_all}
use Rattle.xl_course.proofs.CourseLemmas.{all_steps, going_ends, going_on, going_skims_all, going_stops, underway_none}
use Rattle.xl_course.proofs.KnownLemmas.{known_all, known_then}
use Rattle.xl_course.proofs.serving.serve_rest.Goals as goal

pub records-init : goal.records-init
records-init g c = record {
  known = known_all (g.F.Folder.folder.files c.args.folder.now) _ (λ fs s. underway_none _ _ (not (eqb g.row.ANSWERS 0)) _ (ran_all g.D.Form.meaning) (g.T.Source.left c.args.source.now fs) _ _ s);
  folder = folder_same _ _;
  proceeds = proceeds_same _;
  can = λ steps h. h;
}

pub records-preserved : goal.records-preserved
records-preserved g c =
    let inv = c.records.invariant in
    let m = g.D.Form.meaning in
    let next = c.in-Ok-true.ensures in
    record {
      known = known_then (g.F.Folder.folder.files c.args.folder.now) (g.F.Folder.folder.files c.records.folder) _ _ _ inv.folder.keeps inv.known next.known
          (λ fs h k s.
          let mid = going_skims_all _ _ _ _ _ _ _ _ (c.skim.ensures.skims fs (h s).still_reads) c.records.out (not (eqb g.row.ANSWERS 0)) _ _ _ _ c.skim.ensures.none (h s) in
          going_on _ _ (not (eqb g.row.ANSWERS 0)) _ _ _ (ran_all m) (ran_all m) _ _ _ _ _ _ _ _ _ (all_steps m) mid c.in-Ok-true.field-0-test (k mid.still_reads));
      folder = folder_then _ _ _ _ _ inv.folder next.leaves;
      proceeds = proceeds_then _ _ _ _ inv.proceeds next.proceeds;
      can = λ steps h. next.can steps (c.skim.ensures.can steps (inv.can steps h));
    }

pub returns-in-Ok-false-clause-known : goal.returns-in-Ok-false-clause-known
returns-in-Ok-false-clause-known g c =
    let inv = c.records.invariant in
    let m = g.D.Form.meaning in
    known_then (g.F.Folder.folder.files c.args.folder.now) (g.F.Folder.folder.files c.records.folder) _ _ _ inv.folder.keeps inv.known c.in-Ok-false.ensures.known
    (λ fs h k s.
    let mid = going_skims_all _ _ _ _ _ _ _ _ (c.skim.ensures.skims fs (h s).still_reads) c.records.out (not (eqb g.row.ANSWERS 0)) _ _ _ _ c.skim.ensures.none (h s) in
    going_ends _ _ (not (eqb g.row.ANSWERS 0)) _ _ _ (ran_all m) (ran_all m) _ _ _ _ _ _ _ _ _ _ (all_steps m) mid c.in-Ok-false.field-0-test (k mid.still_reads))

pub returns-in-Err-clause-known : goal.returns-in-Err-clause-known
returns-in-Err-clause-known g c =
    let inv = c.records.invariant in
    let m = g.D.Form.meaning in
    known_then (g.F.Folder.folder.files c.args.folder.now) (g.F.Folder.folder.files c.records.folder) _ _ _ inv.folder.keeps inv.known c.in-Err.ensures.known
    (λ fs h k s.
    let mid = going_skims_all _ _ _ _ _ _ _ _ (c.skim.ensures.skims fs (h s).still_reads) c.records.out (not (eqb g.row.ANSWERS 0)) _ _ _ _ c.skim.ensures.none (h s) in
    going_stops _ _ (not (eqb g.row.ANSWERS 0)) _ _ _ _ (ran_all m) (ran_all m) _ _ _ _ _ _ _ _ c.in-Err.stop (all_steps m) mid (k mid.still_reads))

pub returns-in-Ok-false-clause-proceeds : goal.returns-in-Ok-false-clause-proceeds
returns-in-Ok-false-clause-proceeds g c = proceeds_then _ _ _ _ c.records.invariant.proceeds c.in-Ok-false.ensures.proceeds

pub returns-in-Err-clause-proceeds : goal.returns-in-Err-clause-proceeds
returns-in-Err-clause-proceeds g c = proceeds_then _ _ _ _ c.records.invariant.proceeds c.in-Err.ensures.proceeds
