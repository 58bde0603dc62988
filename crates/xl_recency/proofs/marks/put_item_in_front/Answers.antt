use Rattle.xl_recency.proofs.Common.{◌-◌, ◌<◌, ◌∙◌, ◌∷◌, ap, arith, get_or, in_order, item_mark, map, remove, set, sym}
use Rattle.xl_recency.proofs.MarkLemmas.{map_remove, order_filled, slots_front}
use Rattle.xl_recency.proofs.marks.put_item_in_front.Goals as goal

pub returns-clause-front : goal.returns-clause-front
returns-clause-front g c =
    let items = c.args.items.now in
    let slots = c.args.slots.now in
    ap (in_order (set items (get_or slots (g.row.W - 1) 0) c.args.item)) c.put_byte_in_front-2.ensures
    ∙ order_filled g.row.W items slots c.args.item c.requires.some c.told-slots c.told-items c.requires.kept.slots_are

pub returns-clause-kept : goal.returns-clause-kept
returns-clause-kept g c =
    let items = c.args.items.now in
    let slots = c.args.slots.now in
    let item = c.args.item in
    let last = g.row.W - 1 in
    let below : g.row.W - 1 < g.row.W = omega (arith, c.requires.some) in
    let front =
    ap (in_order (set items (get_or slots last 0) item)) c.put_byte_in_front-2.ensures
    ∙ order_filled g.row.W items slots item c.requires.some c.told-slots c.told-items c.requires.kept.slots_are in
    record {
      marks_are =
          c.put_byte_in_front.ensures
          ∙ ap (λ (m : _). m ∷ remove c.args.marks.now last) c.mark_of.ensures
          ∙ ap (λ (ms : _). item_mark item ∷ remove ms last) c.requires.kept.marks_are
          ∙ ap (λ (ms : _). item_mark item ∷ ms) (sym (map_remove item_mark (in_order items slots) last))
          ∙ ap (map item_mark) (sym front);
      slots_are = rw c.put_byte_in_front-2.ensures (slots_front g.row.W slots last c.told-slots below c.requires.kept.slots_are);
    }
