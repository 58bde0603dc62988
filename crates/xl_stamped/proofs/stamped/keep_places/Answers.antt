use Rattle.xl_stamped.proofs.Common.{◌<◌, ◌∙◌, ◌≡◌, ap, arith, FiltersInPlace-all, FiltersInPlace-more_no, FiltersInPlace-more_set, get_or, get_or_default, length, newest_first, not, Place, refl, sym}
use Rattle.std.proofs.lemmas.Fn.{says_at}
use Rattle.xl_stamped.proofs.TouchLemmas.{no_place, purged_step, stamps_keep, stamps_skip}
use Rattle.xl_stamped.proofs.stamped.keep_places.Goals.{else-not-test, then-not-test}
use Rattle.xl_stamped.proofs.stamped.keep_places.Goals as goal

pub loop-i-preserved : goal.loop-i-preserved
loop-i-preserved g c =
    let inside : c.loop-i.i < length c.loop-i.places = omega arith in
    let x : Place = get_or c.loop-i.places c.loop-i.i no_place in
    let is : x ≡ get_or c.loop-i.places c.loop-i.i x = get_or_default c.loop-i.places c.loop-i.i no_place x inside in
    record {
      within = elim c.if-not-test.branch [ then-not-test w ↦ omega arith | else-not-test w ↦ omega arith ];
      in_place = λ q test.
          let same = test.same _ _ (says_at g.P.Fn c.test.ensures refl) in
          elim c.if-not-test.branch [
            | then-not-test w ↦ rw (w.places-is, w.kept-is)
                (FiltersInPlace-more_set {x = x} (c.loop-i.invariant.in_place q test) inside (ap not (sym same ∙ w.if-not-test.true)) is)
            | else-not-test w ↦ rw (w.places-is, w.kept-is)
                (FiltersInPlace-more_no {x = x} (c.loop-i.invariant.in_place q test) inside (ap not (sym same ∙ w.if-not-test.false)) is)
          ];
      stamps = λ last stamps.
          elim c.if-not-test.branch [
            | then-not-test w ↦ rw (w.places-is, w.kept-is)
                (stamps_keep c.loop-i.places c.loop-i.kept c.loop-i.i last x c.loop-i.invariant.within inside is (c.loop-i.invariant.stamps last stamps))
            | else-not-test w ↦ rw (w.places-is, w.kept-is)
                (stamps_skip c.loop-i.places c.loop-i.kept c.loop-i.i last x inside (c.loop-i.invariant.stamps last stamps))
          ];
    }

pub returns-clause-kept : goal.returns-clause-kept
returns-clause-kept g c = λ q test last stamps.
    ap newest_first (FiltersInPlace-all (c.loop-i.invariant.in_place q test) c.loop-i-test.false) ∙ purged_step q last c.args.places.now stamps
