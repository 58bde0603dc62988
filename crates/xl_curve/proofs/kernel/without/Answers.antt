use Rattle.xl_curve.proofs.Common.{◌∙◌, ap, refl, sym}
use Rattle.std.proofs.lemmas.Fn.{says_at}
use Rattle.xl_curve.proofs.KernelLemmas.{vacant_place, without_hole, without_kept, without_met}
use Rattle.xl_curve.proofs.kernel.without.Goals as goal

pub returns-then-is_hole-clause-without : goal.returns-then-is_hole-clause-without
returns-then-is_hole-clause-without g c = λ q test. without_hole q c.args.place (sym c.is_hole.ensures ∙ c.if-is_hole.true)

pub returns-then-test-clause-without : goal.returns-then-test-clause-without
returns-then-test-clause-without g c = λ q test.
    let answer = test.same _ _ (says_at g.P.Fn c.test.ensures refl) in
    without_met q c.args.place (record { tag = 18446744073709551615; word = 0 }) refl (sym c.is_hole.ensures ∙ c.if-is_hole.false)
    (ap q (sym c.leaf.ensures) ∙ sym answer ∙ c.if-test.true)

pub returns-then-test-clause-thinned : goal.returns-then-test-clause-thinned
returns-then-test-clause-thinned g c = λ t hole held. rw (vacant_place (record { tag = 18446744073709551615; word = 0 }) refl) hole

pub returns-clause-without : goal.returns-clause-without
returns-clause-without g c = λ q test.
    let answer = test.same _ _ (says_at g.P.Fn c.test.ensures refl) in
    without_kept q c.args.place (sym c.is_hole.ensures ∙ c.if-is_hole.false) (ap q (sym c.leaf.ensures) ∙ sym answer ∙ c.if-test.false)
