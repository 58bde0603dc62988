use Rattle.xl_recency.proofs.Common.{◌<◌, ◌≤◌, arith, in_order, length}
use Rattle.xl_recency.proofs.MarkLemmas.{lacks_touch, order_length, touches_tag}
use Rattle.xl_recency.proofs.marks.touch_tag.Goals as goal

pub returns-in-Some-clause-touched : goal.returns-in-Some-clause-touched
returns-in-Some-clause-touched g c =
    let items = c.args.items.now in
    let slots = c.args.slots.now in
    let at = c.in-Some.place in
    let l : at < c.args.len = c.in-Some.ensures.within in
    let fits : c.args.len ≤ length (in_order items slots) = omega (arith, order_length items slots, c.requires.fits) in
    rw (c.bring_place-slot.ensures.item, c.bring_place-slot.ensures.front) (touches_tag c.args.tag at c.args.len (in_order items slots) fits l c.in-Some.ensures.some)

pub returns-in-None-clause-touched : goal.returns-in-None-clause-touched
returns-in-None-clause-touched g c = lacks_touch c.args.tag _ c.in-None.ensures.none
