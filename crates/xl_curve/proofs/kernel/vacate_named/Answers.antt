use Rattle.xl_curve.proofs.Common.{◌<◌, ◌∙◌, ◌≡◌, ◌≤◌, ap, arith, get_or, is_leaf, length, length-map, length-set, Place, place_of, place_without, places_of, refl, set-get_or, sym}
use Rattle.xl_curve.proofs.GuideLemmas.{fewer_more}
use Rattle.xl_curve.proofs.KernelLemmas.{all_purged, mark_written, named_goes, named_stays, purged_more, thinned_more, vacant_place}
use Rattle.xl_curve.proofs.kernel.vacate_named.Goals.{else-has_tag, then-has_tag}
use Rattle.xl_curve.proofs.kernel.vacate_named.Goals as goal

pub loop-at-init : goal.loop-at-init
loop-at-init c = record { count = omega arith; purged = λ space first o n. refl; thinned = λ s t hole held. held; marks = c.requires.marks; fewer = λ s l n. refl }

pub loop-at-preserved : goal.loop-at-preserved
loop-at-preserved c =
    let ps = c.args.slots.now in
    let ls = c.loop-at.slots in
    let at = c.loop-at.at in
    let i = c.loop-at.invariant in
    let l : at < length ls = omega (arith, i.count) in
    let same : length ls ≡ length ps = omega (arith, i.count) in
    let d : Place = record { tag = 0; word = 0 } in
    let hole : Place = record { tag = 18446744073709551615; word = 0 } in
    let here : Place = get_or ls at d in
    elim c.if-has_tag.branch [
      | then-has_tag w ↦ rw (w.marks-is, w.slots-is) (record {
        count = length-set ls at hole ∙ i.count;
        purged = λ space first o n.
            purged_more (place_without (is_leaf space first o)) ps ls at hole d l same (i.purged space first o n)
            (named_goes space first o c.args.named here hole n refl (sym c.has_tag.ensures ∙ w.if-has_tag.true));
        thinned = thinned_more (places_of ps) ls at hole d l i.thinned (λ t none held. rw (vacant_place hole refl) none);
        marks = mark_written c.loop-at.marks ls i.marks at 255 hole refl;
        fewer = fewer_more c.args.marks.now c.loop-at.marks ls at 255 hole d i.marks l refl (λ e. absurd (cc)) i.fewer;
      })
      | else-has_tag w ↦ rw (w.marks-is, w.slots-is) (record {
        count = i.count;
        purged = λ space first o n.
            ap places_of (sym (set-get_or ls at d))
            ∙ purged_more (place_without (is_leaf space first o)) ps ls at here d l same (i.purged space first o n)
            (named_stays space first o c.args.named here n (sym c.has_tag.ensures ∙ w.if-has_tag.false));
        thinned = i.thinned;
        marks = i.marks;
        fewer = i.fewer;
      })
    ]

pub returns-clause-purged : goal.returns-clause-purged
returns-clause-purged c = λ space first o n.
    let ps = c.args.slots.now in
    let l : length (places_of ps) ≤ c.loop-at.at = rw (length-map ps place_of) (omega arith) in
    all_purged (place_without (is_leaf space first o)) (places_of ps) (places_of c.loop-at.slots) c.loop-at.at l (c.loop-at.invariant.purged space first o n)
