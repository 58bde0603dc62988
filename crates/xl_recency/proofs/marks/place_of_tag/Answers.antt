use Rattle.xl_recency.proofs.Common.{◌+◌, ◌∙◌, ◌≡◌, ap, arith, false, has_tag, in_order, item_in, nat_tests}
use Rattle.xl_recency.proofs.MarkLemmas.{order_length, order_read, tag_passed, tags_passed}
use Rattle.xl_recency.proofs.marks.place_of_tag.Goals as goal

pub marked-init : goal.marked-init
marked-init g c =
    let order = in_order c.args.items.now c.args.slots.now in
    let wide = order_length c.args.items.now c.args.slots.now in
    let looked = c.next_marked-place in
    tags_passed c.args.tag c.args.len 0 looked.result c.args.marks.now order c.requires.kept.marks_are (omega (arith, wide))
    (λ k l a b. rw c.mark_of-mark.ensures at (looked.ensures.passed k (omega (arith, wide, l)) a b))
    (λ k l m. absurd (omega (arith, l)))

pub marked-preserved : goal.marked-preserved
marked-preserved g c =
    let order = in_order c.args.items.now c.args.slots.now in
    let wide = order_length c.args.items.now c.args.slots.now in
    let place = c.marked.place in
    let looked = c.next_marked-place-in-marked in
    let read = order_read c.args.items.now c.args.slots.now place (omega arith) in
    let here : has_tag c.args.tag (item_in order place) ≡ false =
    ap (has_tag c.args.tag) read ∙ grind (arith, nat_tests, c.if-items-slot.false) in
    tags_passed c.args.tag c.args.len (place + 1) looked.result c.args.marks.now order c.requires.kept.marks_are (omega (arith, wide))
    (λ k l a b. rw c.mark_of-mark.ensures at (looked.ensures.passed k (omega (arith, wide, l)) a b))
    (λ k l m. tag_passed c.args.tag place order here (λ j n. c.marked.invariant j n (omega (arith, n, c.marked-test.true))) k l)
