use Rattle.xl_curve.proofs.Common.{◌∙◌, ◌≡◌, ap, arith, get_or, get_or-set_other, get_or-set_same, in_turn, leaf_in, length, length-map, map, map-set, mark_of, moved, place_of, places_of, set, Some, sym}
use Rattle.xl_curve.proofs.GuideLemmas.{guide_moved, leaf_mark, solid_marked, solid_moved}
use Rattle.xl_curve.proofs.KernelLemmas.{mark_written, solid_place}
use Rattle.xl_curve.proofs.RankLemmas.{apart_moved, ranks_moved, turn_filled}
use Rattle.xl_curve.proofs.kernel.fill.Goals as goal

pub returns-clause-list : goal.returns-clause-list
returns-clause-list c =
    let s = c.args.slots.now in
    let kept = c.requires.kept in
    let slot = c.args.slot in
    let rank = get_or s.ranks slot 0 in
    let moved_is : c.move_to_front.new.ranks ≡ map (moved rank) s.ranks = c.move_to_front.ensures in
    rw moved_is
    (ap (in_turn (map (moved rank) s.ranks)) (map-set place_of s.places slot c.args.leaf ∙ ap (set (places_of s.places) slot) (solid_place c.args.leaf c.requires.solid))
    ∙ turn_filled rank slot (Some (leaf_in c.args.leaf)) s.ranks (places_of s.places) (omega arith) (length-map s.places place_of ∙ omega arith) c.requires.within.0 c.requires.within.1 c.requires.slot)

pub returns-clause-kept : goal.returns-clause-kept
returns-clause-kept c =
    let s = c.args.slots.now in
    let kept = c.requires.kept in
    let slot = c.args.slot in
    let rank = get_or s.ranks slot 0 in
    let mark = c.mark-mark.result in
    let long : length s.marks ≡ 64 = ap length kept.stack.marked ∙ length-map s.places mark_of ∙ omega arith in
    let moved_is : c.move_to_front.new.ranks ≡ map (moved rank) s.ranks = c.move_to_front.ensures in
    record {
      stack = record {
        marked = mark_written s.marks s.places kept.stack.marked slot mark c.args.leaf c.mark-mark.ensures;
        ranked = rw moved_is (ranks_moved rank s.ranks c.requires.within.1 (omega arith) kept.stack.ranked);
        apart = rw moved_is (apart_moved rank s.ranks (omega arith) kept.stack.apart);
      };
      guide_is =
          rw moved_is
          (guide_moved s.guide s.marks (set s.marks slot mark) s.ranks mark slot (omega arith) (omega arith) c.requires.within.0 kept.stack.apart
          (get_or-set_same s.marks slot mark 0 (omega (arith, long, c.requires.within.0)))
          (λ k n. get_or-set_other s.marks slot k mark 0 n) kept.guide_is);
    }

pub returns-clause-solid : goal.returns-clause-solid
returns-clause-solid c = λ k l front.
    let s = c.args.slots.now in
    let kept = c.requires.kept in
    let slot = c.args.slot in
    let rank = get_or s.ranks slot 0 in
    let mark = c.mark-mark.result in
    let long : length s.marks ≡ 64 = ap length kept.stack.marked ∙ length-map s.places mark_of ∙ omega arith in
    let moved_is : c.move_to_front.new.ranks ≡ map (moved rank) s.ranks = c.move_to_front.ensures in
    rw moved_is
    (solid_moved rank k (set s.marks slot mark) s.ranks (omega arith) l
    (solid_marked k slot mark s.marks s.ranks long c.requires.within.0 (λ h. leaf_mark c.args.leaf c.requires.solid (sym c.mark-mark.ensures ∙ h)) front))
