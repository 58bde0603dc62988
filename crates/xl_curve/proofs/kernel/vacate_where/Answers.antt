use Rattle.xl_curve.proofs.Common.{◌<◌, ◌∙◌, ◌≡◌, ◌≤◌, arith, length, length-map, length-set, Place, place_of, place_without, places_of, refl}
use Rattle.xl_curve.proofs.GuideLemmas.{fewer_more}
use Rattle.xl_curve.proofs.KernelLemmas.{all_purged, mark_written, purged_more, thinned_more}
use Rattle.xl_curve.proofs.kernel.vacate_where.Goals as goal

pub loop-at-init : goal.loop-at-init
loop-at-init g c = record { count = c.told-slots; purged = λ q test. refl; thinned = λ s t hole held. held; marks = c.requires.marks; fewer = λ s l n. refl }

pub loop-at-preserved : goal.loop-at-preserved
loop-at-preserved g c =
    let ls = c.loop-at.slots in
    let at = c.loop-at.at in
    let l : at < length ls = omega (arith, c.loop-at.invariant.count) in
    let same : length ls ≡ length c.args.slots.now = omega (arith, c.loop-at.invariant.count) in
    let d : Place = record { tag = 0; word = 0 } in
    record {
      count = length-set ls at c.without-place.result ∙ c.loop-at.invariant.count;
      purged = λ q test.
          purged_more (place_without q) c.args.slots.now ls at c.without-place.result d l same (c.loop-at.invariant.purged q test) (c.without-place.ensures.without q test);
      thinned = thinned_more (places_of c.args.slots.now) ls at c.without-place.result d l c.loop-at.invariant.thinned c.without-place.ensures.thinned;
      marks = mark_written c.loop-at.marks ls c.loop-at.invariant.marks at c.mark.result c.without-place.result c.mark.ensures;
      fewer = fewer_more c.args.marks.now c.loop-at.marks ls at c.mark.result c.without-place.result d c.loop-at.invariant.marks l c.mark.ensures c.without-place.ensures.same c.loop-at.invariant.fewer;
    }

pub returns-clause-purged : goal.returns-clause-purged
returns-clause-purged g c = λ q test.
    let ps = c.args.slots.now in
    let l : length (places_of ps) ≤ c.loop-at.at = rw (length-map ps place_of) (omega arith) in
    all_purged (place_without q) (places_of ps) (places_of c.loop-at.slots) c.loop-at.at l (c.loop-at.invariant.purged q test)
