use Rattle.xl_cuckoo_walk.proofs.CacheLemmas.{known_filled}
use Rattle.xl_cuckoo_walk.proofs.cache.Sections.put_newest.Goals as goal

pub invariant_of-self : goal.invariant_of-self
invariant_of-self c =
    let s = c.self.inside in
    known_filled s.is_kept s.tag c.args.tag c.args.word s.list c.put_newest.new.cache c.self.invariant.off c.put_newest.ensures
