use Rattle.xl_nested.proofs.CodingLemmas.{none-small}
use Rattle.xl_nested.proofs.g_cache.GCache.open.Goals as goal

pub invariant_of-result : goal.invariant_of-result
invariant_of-result c = record { small = rw c.in_ok-list.ensures.empty none-small; orders = c.held_first-held.ensures c.in_ok-list.list c.in_ok-list.ensures.empty }
