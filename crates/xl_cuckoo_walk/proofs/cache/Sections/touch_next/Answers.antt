use Rattle.xl_cuckoo_walk.proofs.Common.{IsKnown, subst, sym}
use Rattle.xl_cuckoo_walk.proofs.CacheLemmas.{known_touched}
use Rattle.xl_cuckoo_walk.proofs.cache.Sections.touch_next.Goals as goal

pub invariant_of-self : goal.invariant_of-self
invariant_of-self c =
    let s = c.self.inside in
    subst (λ w. IsKnown s.is_kept c.args.tag w c.touch-word.new.cache) (sym c.known-self-inside.ensures)
    (known_touched s.is_kept c.args.tag c.touch-word.result s.list c.touch-word.new.cache c.self.invariant.off c.touch-word.ensures.found c.touch-word.ensures.moved)
