use Rattle.xl_cuckoo_walk.proofs.Common.{is_reached}
use Rattle.xl_cuckoo_walk.proofs.CacheLemmas.{known_purged}
use Rattle.xl_cuckoo_walk.proofs.cache.Sections.fence.Goals as goal

pub invariant_of-self : goal.invariant_of-self
invariant_of-self c =
    let s = c.self.inside in
    known_purged s.is_kept s.tag (is_reached c.args.reach) s.list c.fence_cache.new.cache c.self.invariant.off c.fence_cache.ensures.left
