use Rattle.xl_cuckoo_walk.proofs.CacheLemmas.{known_opened}
use Rattle.xl_cuckoo_walk.proofs.cache.Sections.open.Goals as goal

pub invariant_of-result : goal.invariant_of-result
invariant_of-result c = known_opened c.args.width c.in_ok-list.list c.in_ok-list.ensures.empty
