use Rattle.xl_recency.proofs.Common.{◌++◌, ◌∙◌, ◌≡◌, ap, arith, drop, item_mark, length, length-append, length-drop, map, purged, sym, take, take-append-le}
use Rattle.xl_recency.proofs.MarkLemmas.{order_in_turn, taken_count}
use Rattle.xl_recency.proofs.marks.keep_items.Goals as goal

pub returns-clause-purged : goal.returns-clause-purged
returns-clause-purged g c = λ q test.
    let kept = c.keep_failing-count.new.items in
    let rest = drop c.args.len c.items_in_order-ordered.result in
    let ordered = kept ++ rest in
    let same : length ordered ≡ length c.slots_in_turn.result = omega (arith, length-append kept rest, length-drop c.args.len c.items_in_order-ordered.result, c.keep_failing-count.auto.items) in
    ap (take c.keep_failing-count.result) (order_in_turn ordered c.slots_in_turn.result same (λ k l. c.slots_in_turn.ensures.each k (omega (arith, l))))
    ∙ take-append-le c.keep_failing-count.result kept rest (omega (arith, c.keep_failing-count.auto.items))
    ∙ c.keep_failing-count.ensures.kept q test
    ∙ ap (λ (xs : _). purged q (take c.args.len xs)) c.items_in_order-ordered.ensures

pub returns-clause-count : goal.returns-clause-count
returns-clause-count g c =
    let kept = c.keep_failing-count.new.items in
    let rest = drop c.args.len c.items_in_order-ordered.result in
    taken_count c.args.len c.keep_failing-count.result c.args.items.now (kept ++ rest) c.args.slots.now c.slots_in_turn.result (omega arith) (omega arith) (omega arith)

pub returns-clause-kept : goal.returns-clause-kept
returns-clause-kept g c =
    let kept = c.keep_failing-count.new.items in
    let rest = drop c.args.len c.items_in_order-ordered.result in
    let ordered = kept ++ rest in
    let same : length ordered ≡ length c.slots_in_turn.result = omega (arith, length-append kept rest, length-drop c.args.len c.items_in_order-ordered.result, c.keep_failing-count.auto.items) in
    record {
      marks_are =
          c.marks_of.ensures
          ∙ ap (map item_mark) (sym (order_in_turn ordered c.slots_in_turn.result same (λ k l. c.slots_in_turn.ensures.each k (omega (arith, l)))));
      slots_are = c.slots_in_turn.ensures.slots;
    }
