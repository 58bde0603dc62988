use Rattle.xl_recency.proofs.Common.{◌∙◌, arith, ext_get_or, in_order, sym}
use Rattle.xl_recency.proofs.MarkLemmas.{order_length, order_read}
use Rattle.xl_recency.proofs.marks.items_in_order.Goals as goal

pub returns : goal.returns
returns g c =
    let items = c.args.items.now in
    let slots = c.args.slots.now in
    let i = c.loop-at.invariant in
    ext_get_or (record { tag = 0; word = 0 }) c.loop-at.ordered (in_order items slots) (i.count ∙ sym (order_length items slots))
    (λ k l. i.each k (omega (arith, l, i.count)) ∙ sym (order_read items slots k (omega (arith, l, i.count))))
