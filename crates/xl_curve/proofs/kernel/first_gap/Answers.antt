use Rattle.xl_curve.proofs.Common.{◌+◌, ◌<◌, ◌∙◌, ◌≡◌, ◌≤◌, ap, arith, false, gap, get_or, gives_way, in_turn, leaf_in, length, None, Place, places_of, same_leaf, sym, true}
use Rattle.xl_curve.proofs.KernelLemmas.{at_slot, further_none, gap_found, gap_there, gaps_passed, no_gap, pass_gap}
use Rattle.xl_curve.proofs.RankLemmas.{turn_length}
use Rattle.xl_curve.proofs.kernel.first_gap.Goals as goal

pub marked-init : goal.marked-init
marked-init c =
    let q = same_leaf (leaf_in c.args.leaf) in
    let slots = c.args.slots.now in
    let marks = c.args.marks.now in
    let ranks = c.args.ranks.now in
    let looked = c.first_marked-rank in
    record {
      within = looked.ensures.within.1;
      passed =
          sym (further_none (gap q (in_turn ranks (places_of slots))))
          ∙ gaps_passed marks ranks slots c.requires.kept c.told-ranks c.told-slots c.args.leaf 0 looked.result c.requires.solid (omega arith) looked.ensures.within.1
          (λ s l a b. rw c.mark-mark.ensures at (looked.ensures.passed s l a b));
    }

pub returns-then-not-gives_way-clause-some : goal.returns-then-not-gives_way-clause-some
returns-then-not-gives_way-clause-some c =
    let q = same_leaf (leaf_in c.args.leaf) in
    let slots = c.args.slots.now in
    let marks = c.args.marks.now in
    let ranks = c.args.ranks.now in
    let rank = c.marked.rank in
    let d : Place = record { tag = 0; word = 0 } in
    let all = in_turn ranks (places_of slots) in
    let l : rank < 64 = c.marked-test.true in
    let found = c.slot_at-slot.ensures in
    let stays : gives_way q (get_or all rank None) ≡ false =
    ap (gives_way q) (at_slot marks ranks slots c.requires.kept c.told-ranks c.told-slots rank c.slot_at-slot.result d l found.within found.first)
    ∙ sym c.gives_way.ensures ∙ c.if-not-gives_way.true in
    gap_there q rank c.slot_at-slot.result ranks slots found.within l found.first
    (c.marked.invariant.passed ∙ sym (gap_found q all rank (omega (arith, turn_length ranks (places_of slots))) stays))

pub marked-preserved : goal.marked-preserved
marked-preserved c =
    let q = same_leaf (leaf_in c.args.leaf) in
    let slots = c.args.slots.now in
    let marks = c.args.marks.now in
    let ranks = c.args.ranks.now in
    let rank = c.marked.rank in
    let d : Place = record { tag = 0; word = 0 } in
    let all = in_turn ranks (places_of slots) in
    let l : rank < 64 = c.marked-test.true in
    let found = c.slot_at-slot.ensures in
    let looked = c.first_marked-rank-in-marked in
    let gives : gives_way q (get_or all rank None) ≡ true =
    ap (gives_way q) (at_slot marks ranks slots c.requires.kept c.told-ranks c.told-slots rank c.slot_at-slot.result d l found.within found.first)
    ∙ sym c.gives_way.ensures ∙ c.if-not-gives_way.false in
    record {
      within = looked.ensures.within.1;
      passed =
          c.marked.invariant.passed
          ∙ pass_gap q all rank (omega (arith, turn_length ranks (places_of slots))) gives
          ∙ gaps_passed marks ranks slots c.requires.kept c.told-ranks c.told-slots c.args.leaf (rank + 1) looked.result c.requires.solid looked.ensures.within.0 looked.ensures.within.1
          (λ s n a b. rw c.mark-mark.ensures at (looked.ensures.passed s n a b));
    }

pub returns-clause-none : goal.returns-clause-none
returns-clause-none c =
    let all = in_turn c.args.ranks.now (places_of c.args.slots.now) in
    let l : length all ≤ c.marked.rank = omega (arith, turn_length c.args.ranks.now (places_of c.args.slots.now), c.marked-test.false) in
    c.marked.invariant.passed ∙ sym (no_gap (same_leaf (leaf_in c.args.leaf)) all c.marked.rank l)
