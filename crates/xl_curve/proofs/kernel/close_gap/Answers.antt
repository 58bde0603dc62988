use Rattle.xl_curve.proofs.Common.{◌∙◌, ◌∷◌, ◌≡◌, ap, arith, false, get_or, in_turn, is_vacant, leaf_in, leaf_same, list_of, map, moved, Place, places_of, refl, remove, same_leaf, Some, sym}
use Rattle.xl_curve.proofs.GuideLemmas.{guide_fewer, guide_moved}
use Rattle.xl_curve.proofs.KernelLemmas.{at_slot, hole_distance, hole_filled, mark_read, own_closed, same_marks, solid_place, vacant_place}
use Rattle.xl_curve.proofs.RankLemmas.{turn_at, turn_moved}
use Rattle.xl_curve.proofs.SlotsLemmas.{guided_moved, in_front_in}
use Rattle.xl_curve.proofs.kernel.close_gap.Goals as goal

pub returns-then-is_hole-clause-front : goal.returns-then-is_hole-clause-front
returns-then-is_hole-clause-front c =
    let s = c.args.slots.now in
    let g = c.requires.gap in
    let kept = c.requires.kept in
    let q = same_leaf (leaf_in c.args.leaf) in
    let rank = get_or s.ranks c.args.slot 0 in
    let here : Place = get_or s.places c.args.slot (record { tag = 0; word = 0 }) in
    let hole = at_slot s.marks s.ranks s.places kept.stack (omega arith) (omega arith) rank c.args.slot _ g.below g.within g.first
    ∙ vacant_place here (sym c.is_hole.ensures ∙ c.if-is_hole.true) in
    let filled = c.fill.new.slots in
    in_front_in (leaf_in c.args.leaf) filled.ranks (places_of c.vacate.new.slots) (list_of s) c.vacate.result
    (hole_filled q (leaf_in c.args.leaf) (list_of s) (list_of filled) (in_turn filled.ranks (places_of c.vacate.new.slots)) rank g.is hole c.fill.ensures.list c.vacate.ensures.places)
    (c.vacate.ensures.distance ∙ hole_distance q (leaf_in c.args.leaf) (list_of s) (list_of filled) rank g.is hole c.fill.ensures.list)

pub returns-then-is_hole-clause-kept : goal.returns-then-is_hole-clause-kept
returns-then-is_hole-clause-kept c =
    let filled = c.fill.new.slots in
    let kept = c.fill.ensures.kept in
    record {
      stack = c.vacate.ensures.kept;
      guide_is = guide_fewer filled.guide filled.marks c.vacate.new.marks filled.ranks c.vacate.ensures.fewer kept.guide_is;
    }

pub returns-clause-front : goal.returns-clause-front
returns-clause-front c =
    let s = c.args.slots.now in
    let rank = get_or s.ranks c.args.slot 0 in
    let g = c.requires.gap in
    let kept = c.requires.kept in
    let q = same_leaf (leaf_in c.args.leaf) in
    let all = list_of s in
    let here : Place = get_or s.places c.args.slot (record { tag = 0; word = 0 }) in
    let own = at_slot s.marks s.ranks s.places kept.stack (omega arith) (omega arith) rank c.args.slot _ g.below g.within g.first
    ∙ solid_place here (sym c.is_hole.ensures ∙ c.if-is_hole.false) in
    let closed = own_closed q (leaf_in c.args.leaf) all rank (leaf_in here) g.is own in
    in_front_in (leaf_in c.args.leaf) c.move_to_front.new.ranks (places_of s.places) all (Some rank)
    (ap (λ (rs : _). in_turn rs (places_of s.places)) c.move_to_front.ensures
    ∙ turn_moved rank s.ranks (places_of s.places) g.below
    ∙ ap (λ (o : _). o ∷ remove all rank) (sym (turn_at s.ranks (places_of s.places) rank g.below) ∙ own ∙ ap (λ (x : _). Some x) (leaf_same (leaf_in c.args.leaf) (leaf_in here) closed.2))
    ∙ sym closed.0)
    (sym closed.1)

pub returns-clause-kept : goal.returns-clause-kept
returns-clause-kept c =
    let s = c.args.slots.now in
    let slot = c.args.slot in
    let rank = get_or s.ranks slot 0 in
    let g = c.requires.gap in
    let kept = c.requires.kept in
    let d : Place = record { tag = 0; word = 0 } in
    let here : Place = get_or s.places slot d in
    let filled : is_vacant here ≡ false = sym c.is_hole.ensures ∙ c.if-is_hole.false in
    let own = at_slot s.marks s.ranks s.places kept.stack (omega arith) (omega arith) rank slot d g.below g.within g.first ∙ solid_place here filled in
    let closed = own_closed (same_leaf (leaf_in c.args.leaf)) (leaf_in c.args.leaf) (list_of s) rank (leaf_in here) g.is own in
    let marked : get_or s.marks slot 0 ≡ c.mark.result =
    mark_read s.marks s.places kept.stack.marked slot d (omega (arith, g.within)) ∙ same_marks c.args.leaf here c.requires.solid filled closed.2 ∙ sym c.mark.ensures in
    let moved_is : c.move_to_front.new.ranks ≡ map (moved rank) s.ranks = c.move_to_front.ensures in
    rw moved_is
    (guided_moved s rank _ kept (omega arith) g.below
    (guide_moved s.guide s.marks s.marks s.ranks c.mark.result slot (omega arith) (omega arith) g.within kept.stack.apart marked (λ k n. refl) kept.guide_is))
