use Rattle.xl_recency.proofs.Common.{◌≡◌, ◌≤◌}
use Rattle.xl_recency.proofs.FrontLemmas.{spread}
use Rattle.xl_recency.proofs.kernel.put_in_front.Given as goal

abbrev pub invariant-loop-place : goal.invariant-loop-place
invariant-loop-place g l = (l.items ≡ spread l.place l.at l.fn.items) × (l.place ≤ l.at)

abbrev pub decreases-loop-place : goal.decreases-loop-place
decreases-loop-place g l = l.place
