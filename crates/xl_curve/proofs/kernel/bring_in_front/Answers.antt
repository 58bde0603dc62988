use Rattle.xl_curve.proofs.Common.{◌<◌, ◌∙◌, ◌∷◌, ◌≡◌, ◌≢◌, ◌≤◌, ap, arith, false, gap, get_or, gives_way, guided, in_turn, IsFirst, Leaf, leaf_in, leaf_self, List, list_of, map, mark_of, moved, None, not, Option, Place, place_of, places_of, refl, remove, same_leaf, shifted, Some, sym, true, ℕ}
use Rattle.xl_curve.proofs.GuideLemmas.{guide_kept, solid_moved}
use Rattle.xl_curve.proofs.KernelLemmas.{at_slot, further_none, gap_found, gaps_passed, mark_read, own_closed, solid_place}
use Rattle.xl_curve.proofs.RankLemmas.{slot_of_rank, turn_at, turn_length, turn_moved}
use Rattle.xl_curve.proofs.SlotsLemmas.{guided_moved, in_front_in}
use Rattle.xl_curve.proofs.kernel.bring_in_front.Goals as goal

pub returns : goal.returns
returns c =
    let leaf = c.args.leaf in
    let q = same_leaf (leaf_in leaf) in
    let s = c.args.slots.now in
    let kept = c.requires.kept.guided in
    let slot = c.slot_guided-slot.result in
    let rank = get_or s.ranks slot 0 in
    let all = list_of s in
    let d : Place = record { tag = 0; word = 0 } in
    let found : c.has_leaf.result ≡ true = c.if-not-has_leaf.false in
    let before = c.has_leaf.ensures.before found in
    let place = c.has_leaf.ensures.place found in
    let within : slot < 64 = c.slot_guided-slot.ensures.within in
    let l : rank < 64 = omega (arith, before, c.requires.kept.most) in
    let first : IsFirst rank slot s.ranks = slot_of_rank rank slot s.ranks kept.stack.apart within refl in
    let here : get_or all rank None ≡ Some (leaf_in leaf) =
    at_slot s.marks s.ranks s.places kept.stack (omega arith) (omega arith) rank slot d l within first ∙ ap place_of place ∙ solid_place leaf c.requires.solid in
    let stays : gives_way q (get_or all rank None) ≡ false = ap (gives_way q) here ∙ ap not (leaf_self (leaf_in leaf)) in
    let at : guided s.guide (mark_of leaf) ≡ slot = ap (guided s.guide) (sym c.mark.ensures) ∙ sym c.slot_guided-slot.ensures.value in
    let passed : gap q all ≡ Some rank =
    sym (further_none (gap q all))
    ∙ gaps_passed s.marks s.ranks s.places kept.stack (omega arith) (omega arith) leaf 0 rank c.requires.solid (omega arith) (omega (arith, l))
    (λ k m a b.
    let other : get_or s.marks k 0 ≢ 255 = λ h. omega (arith, c.requires.kept.front k m h, before, b) in (
      λ h.
          let g : get_or s.ranks (guided s.guide (get_or s.marks k 0)) 0 ≤ get_or s.ranks k 0 = kept.guide_is k m other in
          let is : guided s.guide (get_or s.marks k 0) ≡ slot = ap (guided s.guide) h ∙ at in
          let w : rank ≤ get_or s.ranks k 0 = rw is at g in
          omega (arith, w, b),
      other,
    ))
    ∙ sym (gap_found q all rank (omega (arith, turn_length s.ranks (places_of s.places))) stays) in
    let closed = own_closed q (leaf_in leaf) all rank (leaf_in leaf) passed here in
    let moved_is : c.move_to_front.new.ranks ≡ map (moved rank) s.ranks = c.move_to_front.ensures in
    let front : in_turn c.move_to_front.new.ranks (places_of s.places) ≡ shifted q (leaf_in leaf) all =
    ap (λ (rs : List ℕ). in_turn rs (places_of s.places)) moved_is
    ∙ turn_moved rank s.ranks (places_of s.places) l
    ∙ ap (λ (o : Option Leaf). o ∷ remove all rank) (sym (turn_at s.ranks (places_of s.places) rank l) ∙ here)
    ∙ sym closed.0 in
    let marked : get_or s.marks slot 0 ≡ mark_of leaf =
    mark_read s.marks s.places kept.stack.marked slot d (omega (arith, within)) ∙ ap mark_of place in
    record {
      front = in_front_in (leaf_in leaf) c.move_to_front.new.ranks (places_of s.places) all (Some rank) front (sym closed.1);
      kept = record {
        guided =
            rw moved_is
            (guided_moved s rank s.guide kept (omega arith) l (guide_kept s.guide s.marks s.ranks (mark_of leaf) slot (omega arith) within kept.stack.apart marked at kept.guide_is));
        front = rw moved_is (solid_moved rank s.solid s.marks s.ranks (omega arith) before c.requires.kept.front);
        most = c.requires.kept.most;
      };
    }
