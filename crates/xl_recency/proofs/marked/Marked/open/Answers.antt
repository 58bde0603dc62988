use Rattle.xl_recency.proofs.Common.{◌∙◌, ◌≡◌, ap, arith, Item, item_mark, length, length-replicate, map, replicate, sym}
use Rattle.xl_recency.proofs.MarkLemmas.{order_in_turn}
use Rattle.xl_recency.proofs.marked.Marked.open.Goals as goal

pub invariant_of-result : goal.invariant_of-result
invariant_of-result g c =
    let blank : Item = record { tag = 0; word = 0 } in
    let items = replicate g.row.W blank in
    let same : length items ≡ length c.slots_in_turn.result = omega (arith, length-replicate g.row.W blank) in (
      omega arith,
      c.requires,
      record {
        marks_are =
            c.marks_of.ensures
            ∙ ap (map item_mark) (sym (order_in_turn items c.slots_in_turn.result same (λ k l. c.slots_in_turn.ensures.each k (omega (arith, l)))));
        slots_are = c.slots_in_turn.ensures.slots;
      },
    )
