use Rattle.xl_curve.proofs.Common.{◌+◌, ◌<◌, ◌∙◌, ◌≡◌, ◌≤◌, ap, arith, false, get_or, in_turn, is_vacant, IsStack, leaf_in, length, length-map, None, Place, place_of, places_of, refl, same_leaf, sym, true}
use Rattle.xl_curve.proofs.GuideLemmas.{fewer_hole}
use Rattle.xl_curve.proofs.KernelLemmas.{at_slot, hole_written, is_other, left, left_at, mark_written, none_at, none_left, other_place, pass_distance, pass_places, places_passed, solid_place}
use Rattle.xl_curve.proofs.RankLemmas.{turn_length, turn_set}
use Rattle.xl_curve.proofs.kernel.vacate.Goals as goal

pub marked-init : goal.marked-init
marked-init c =
    let looked = c.first_marked-rank in
    let passed = places_passed c.args.marks.now c.args.ranks.now c.args.slots.now c.requires.kept c.told-ranks c.told-slots c.args.leaf c.args.from looked.result c.requires.solid looked.ensures.within.0 looked.ensures.within.1
    (λ s l a b. rw c.mark-mark.ensures at ((looked.ensures.passed s l a b).0)) in
    record { within = looked.ensures.within.1; same = refl; marks = refl; kept = c.requires.kept; passed = passed.0; far = passed.1 }

pub returns-then-is_same-clause-places : goal.returns-then-is_same-clause-places
returns-then-is_same-clause-places c =
    let q = same_leaf (leaf_in c.args.leaf) in
    let ps = c.args.slots.now in
    let ranks = c.args.ranks.now in
    let rank = c.marked.rank in
    let slot = c.slot_at-slot.result in
    let found = c.slot_at-slot.ensures in
    let here : Place = get_or ps slot (record { tag = 0; word = 0 }) in
    let l : rank < 64 = c.marked-test.true in
    let t : true ≡ q (leaf_in here) = rw c.marked.invariant.same at (sym c.if-is_same.true ∙ c.is_same.ensures.same) in
    let tag : here.tag ≡ c.args.leaf.tag = rw c.marked.invariant.same at (c.is_same.ensures.tag c.if-is_same.true) in
    let solid : is_vacant here ≡ false = rw tag c.requires.solid in
    rw c.marked.invariant.same
    (ap (in_turn ranks) (hole_written ps slot (record { tag = 18446744073709551615; word = 0 }) refl)
    ∙ turn_set rank slot None ranks (places_of ps) c.told-ranks (length-map ps place_of ∙ c.told-slots) found.within l found.first
    ∙ left q (in_turn ranks (places_of ps)) rank (leaf_in here) (omega (arith, turn_length ranks (places_of ps)))
    (at_slot c.args.marks.now ranks ps c.requires.kept c.told-ranks c.told-slots rank slot _ l found.within found.first ∙ solid_place here solid) (sym t)
    ∙ sym c.marked.invariant.passed)

pub returns-then-is_same-clause-distance : goal.returns-then-is_same-clause-distance
returns-then-is_same-clause-distance c =
    let q = same_leaf (leaf_in c.args.leaf) in
    let ps = c.args.slots.now in
    let ranks = c.args.ranks.now in
    let rank = c.marked.rank in
    let slot = c.slot_at-slot.result in
    let found = c.slot_at-slot.ensures in
    let here : Place = get_or ps slot (record { tag = 0; word = 0 }) in
    let l : rank < 64 = c.marked-test.true in
    let t : true ≡ q (leaf_in here) = rw c.marked.invariant.same at (sym c.if-is_same.true ∙ c.is_same.ensures.same) in
    let tag : here.tag ≡ c.args.leaf.tag = rw c.marked.invariant.same at (c.is_same.ensures.tag c.if-is_same.true) in
    let solid : is_vacant here ≡ false = rw tag c.requires.solid in
    left_at q (in_turn ranks (places_of ps)) rank (leaf_in here) (omega (arith, turn_length ranks (places_of ps)))
    (at_slot c.args.marks.now ranks ps c.requires.kept c.told-ranks c.told-slots rank slot _ l found.within found.first ∙ solid_place here solid) (sym t)
    ∙ sym c.marked.invariant.far

pub returns-then-is_same-clause-kept : goal.returns-then-is_same-clause-kept
returns-then-is_same-clause-kept c =
    record {
      marked = mark_written c.marked.marks c.marked.slots c.marked.invariant.kept.marked c.slot_at-slot.result 255 (record { tag = 18446744073709551615; word = 0 }) refl;
      ranked = c.requires.kept.ranked;
      apart = c.requires.kept.apart;
    }

pub returns-then-is_same-clause-fewer : goal.returns-then-is_same-clause-fewer
returns-then-is_same-clause-fewer c =
    rw c.marked.invariant.marks (fewer_hole c.args.marks.now c.slot_at-slot.result c.told-marks c.slot_at-slot.ensures.within)

pub returns-clause-fewer : goal.returns-clause-fewer
returns-clause-fewer c = rw c.marked.invariant.marks (λ s l n. refl)

pub marked-preserved : goal.marked-preserved
marked-preserved c =
    let q = same_leaf (leaf_in c.args.leaf) in
    let ps = c.args.slots.now in
    let ranks = c.args.ranks.now in
    let rank = c.marked.rank in
    let slot = c.slot_at-slot.result in
    let found = c.slot_at-slot.ensures in
    let looked = c.first_marked-rank-in-marked in
    let all = in_turn ranks (places_of ps) in
    let here : Place = get_or ps slot (record { tag = 0; word = 0 }) in
    let l : rank < 64 = c.marked-test.true in
    let m : rank < length all = omega (arith, turn_length ranks (places_of ps)) in
    let f : false ≡ q (leaf_in here) = rw c.marked.invariant.same at (sym c.if-is_same.false ∙ c.is_same.ensures.same) in
    let o : is_other q (get_or all rank None) ≡ true =
    ap (is_other q) (at_slot c.args.marks.now ranks ps c.requires.kept c.told-ranks c.told-slots rank slot _ l found.within found.first) ∙ other_place q here (sym f) in
    let kept : IsStack c.marked.marks ranks ps = rw c.marked.invariant.same at c.marked.invariant.kept in
    let passed = places_passed c.marked.marks ranks ps kept c.told-ranks c.told-slots c.args.leaf (rank + 1) looked.result c.requires.solid looked.ensures.within.0 looked.ensures.within.1
    (λ s n a b. rw c.mark-mark.ensures at ((looked.ensures.passed s n a b).0)) in
    record {
      within = looked.ensures.within.1;
      same = c.marked.invariant.same;
      marks = c.marked.invariant.marks;
      kept = c.marked.invariant.kept;
      passed = c.marked.invariant.passed ∙ pass_places q all rank m o ∙ passed.0;
      far = c.marked.invariant.far ∙ pass_distance q all rank m o ∙ passed.1;
    }

pub returns-clause-places : goal.returns-clause-places
returns-clause-places c =
    let all = in_turn c.args.ranks.now (places_of c.args.slots.now) in
    let l : length all ≤ c.marked.rank = omega (arith, turn_length c.args.ranks.now (places_of c.args.slots.now), c.marked-test.false) in
    rw c.marked.invariant.same (none_left (same_leaf (leaf_in c.args.leaf)) all c.marked.rank l ∙ sym c.marked.invariant.passed)

pub returns-clause-distance : goal.returns-clause-distance
returns-clause-distance c =
    let all = in_turn c.args.ranks.now (places_of c.args.slots.now) in
    let l : length all ≤ c.marked.rank = omega (arith, turn_length c.args.ranks.now (places_of c.args.slots.now), c.marked-test.false) in
    none_at (same_leaf (leaf_in c.args.leaf)) all c.marked.rank l ∙ sym c.marked.invariant.far
