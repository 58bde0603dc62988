use Rattle.xl_recency.proofs.Common.{◌<◌, ◌∙◌, ap, arith, in_order, item_mark, length, map, sym}
use Rattle.xl_recency.proofs.MarkLemmas.{marks_front, order_front, order_length, slots_front}
use Rattle.xl_recency.proofs.marks.bring_place.Goals as goal

pub returns-clause-front : goal.returns-clause-front
returns-clause-front g c =
    ap (in_order c.args._items.now) c.put_byte_in_front-2.ensures ∙ order_front c.args._items.now c.args.slots.now c.args.at (omega arith)

pub returns-clause-kept : goal.returns-clause-kept
returns-clause-kept g c =
    let items = c.args._items.now in
    let slots = c.args.slots.now in
    let at = c.args.at in
    let order = in_order items slots in
    let within : at < length order = omega (arith, order_length items slots) in
    record {
      marks_are =
          c.put_byte_in_front.ensures
          ∙ marks_front c.args.marks.now order at within c.requires.kept.marks_are
          ∙ ap (map item_mark) (sym (ap (in_order items) c.put_byte_in_front-2.ensures ∙ order_front items slots at (omega arith)));
      slots_are = rw c.put_byte_in_front-2.ensures (slots_front g.row.W slots at c.told-slots c.requires.at c.requires.kept.slots_are);
    }
