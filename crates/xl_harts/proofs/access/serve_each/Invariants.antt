use Rattle.xl_harts.proofs.Common.{drop, HartsState, IsCurrent, row_table}
use Rattle.xl_harts.proofs.ServeLemmas.{IsOnTheWay}
use Rattle.xl_harts.proofs.access.serve_each.Given as goal

abbrev pub invariant-loop-access : goal.invariant-loop-access
invariant-loop-access l =
    (s : HartsState) → IsCurrent s (row_table 3 l.fn.table) l.fn.hart → IsOnTheWay l.fn.accesses (drop l.access-index l.fn.accesses) s l.last (row_table 3 l.table) l.hart
