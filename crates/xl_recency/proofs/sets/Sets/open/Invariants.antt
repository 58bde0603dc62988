use Rattle.xl_recency.proofs.Common.{◌≡◌, [], of_width, replicate}
use Rattle.xl_recency.proofs.sets.Sets.open.Given as goal

abbrev pub invariant-opened : goal.invariant-opened
invariant-opened g l = of_width g.row.W l.few.items l.many.items ≡ replicate l.counter []
