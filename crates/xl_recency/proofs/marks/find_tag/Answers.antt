use Rattle.xl_recency.proofs.Common.{◌<◌, ◌∙◌, ◌≤◌, ap, arith, in_order, length, Some, sym}
use Rattle.xl_recency.proofs.MarkLemmas.{found_tag, lacks_find, order_length, order_read}
use Rattle.xl_recency.proofs.marks.find_tag.Goals as goal

pub returns-in-Some : goal.returns-in-Some
returns-in-Some g c =
    let items = c.args.items.now in
    let slots = c.args.slots.now in
    let at = c.in-Some.place in
    let l : at < c.args.len = c.in-Some.ensures.within in
    let fits : c.args.len ≤ length (in_order items slots) = omega (arith, order_length items slots, c.requires.fits) in
    ap (λ (x : _). Some x) (sym (order_read items slots at (omega (arith, l, c.requires.fits))))
    ∙ found_tag c.args.tag at c.args.len (in_order items slots) fits l c.in-Some.ensures.some

pub returns-in-None : goal.returns-in-None
returns-in-None g c = lacks_find c.args.tag _ c.in-None.ensures.none
