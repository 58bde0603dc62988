use Rattle.xl_numbers.proofs.ViewLemmas.{lowest-seen, none-seen}
use Rattle.xl_numbers.proofs.free.FreeNumbers.lowest.Goals as goal

pub returns-clause-some : goal.returns-clause-some
returns-clause-some c = lowest-seen _ c.lowest.result c.self.invariant c.self.view_is (rw c.deref.ensures.value at c.lowest.ensures.some)

pub returns-clause-none : goal.returns-clause-none
returns-clause-none c = none-seen _ _ _ c.lowest.result c.self.view_is (rw c.deref.ensures.value at c.lowest.ensures.none)
