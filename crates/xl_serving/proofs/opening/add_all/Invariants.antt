use Rattle.xl_serving.proofs.Common.{◌++◌, ◌≡◌, into_iter_items, into_iter_len, length, map, opened, row_of}
use Rattle.xl_serving.proofs.opening.add_all.Given as goal

abbrev pub invariant-loop-design : goal.invariant-loop-design
invariant-loop-design g l = (l.yielded ++ into_iter_items l.design-iterator ≡ into_iter_items l.initial.design-iterator)
    × (g.R.Rows.rows l.rows ≡ opened (map row_of l.yielded))
    × (into_iter_len l.design-iterator ≡ length (into_iter_items l.design-iterator))
