use Rattle.xl_cuckoo_walk.proofs.Common.{is_old}
use Rattle.xl_cuckoo_walk.proofs.CacheLemmas.{known_purged}
use Rattle.xl_cuckoo_walk.proofs.cache.Sections.refresh.Goals as goal

pub invariant_of-self : goal.invariant_of-self
invariant_of-self c =
    let s = c.self.inside in
    known_purged s.is_kept s.tag (is_old c.args.tag c.args.word) s.list c.refresh.new.cache c.self.invariant.off c.refresh.ensures
