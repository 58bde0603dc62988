use Rattle.xl_recency.proofs.Common.{◌<◌, ◌≡◌, arith, false, FnReturnsAt, get_or, get_or-map, in_order, Item, item_in, length, says_at, subst, sym}
use Rattle.xl_recency.proofs.MarkLemmas.{order_length}
use Rattle.xl_recency.proofs.ScanLemmas.{fail_more}
use Rattle.xl_recency.proofs.marks.any_passes.Goals as goal

pub loop-place-preserved : goal.loop-place-preserved
loop-place-preserved g c =
    let items = c.args.items.now in
    let slots = c.args.slots.now in
    let place = c.loop-place.place in
    let order = in_order items slots in
    let item : Item = item_in items (get_or slots place 0) in
    let there : place < length slots = omega arith in
    let is : get_or order place item ≡ item = get_or-map (item_in items) slots place 0 item there in
    fail_more (FnReturnsAt g.P.Fn c.args.test.now) order place item (omega (arith, order_length items slots, there)) (sym is)
    (subst (λ (x : Item). FnReturnsAt g.P.Fn c.args.test.now x false) (sym is) (says_at g.P.Fn c.test.ensures c.if-test.false)) c.loop-place.invariant
