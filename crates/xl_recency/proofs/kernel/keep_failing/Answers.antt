use Rattle.xl_recency.proofs.Common.{◌∙◌, ap, arith, FiltersInPlace-more_no, FiltersInPlace-more_set, not, refl, says_at, sym}
use Rattle.xl_recency.proofs.kernel.keep_failing.Goals.{else-not-test, then-not-test}
use Rattle.xl_recency.proofs.kernel.keep_failing.Goals as goal

pub loop-i-preserved : goal.loop-i-preserved
loop-i-preserved g c = record {
  within = elim c.if-not-test.branch [ then-not-test w ↦ omega arith | else-not-test w ↦ omega arith ];
  in_place = λ q test.
      let same = test.same _ _ (says_at g.P.Fn c.test.ensures refl) in
      elim c.if-not-test.branch [
        | then-not-test w ↦ rw (w.items-is, w.kept-is)
            (FiltersInPlace-more_set (c.loop-i.invariant.in_place q test) (omega arith) (ap not (sym same ∙ w.if-not-test.true)) c.index-items-i.is)
        | else-not-test w ↦ rw (w.items-is, w.kept-is)
            (FiltersInPlace-more_no (c.loop-i.invariant.in_place q test) (omega arith) (ap not (sym same ∙ w.if-not-test.false)) c.index-items-i.is)
      ];
}
