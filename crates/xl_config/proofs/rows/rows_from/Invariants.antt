use Rattle.xl_config.proofs.Common.{◌+◌, ◌≡◌, ◌≤◌, [], drop, items_view, length, map, row_of, rows_from}
use Rattle.xl_config.proofs.rows.rows_from.Given as goal

abbrev pub invariant-loop-value : goal.invariant-loop-value
invariant-loop-value l =
    (rows_from l.number (items_view (drop l.value-index l.values.items)) (map row_of l.rows.items) ≡ rows_from 1 (items_view l.values.items) [])
    × (l.number ≡ l.value-index + 1) × (length l.rows.items ≡ l.value-index) × (length l.values.items ≤ 16)
