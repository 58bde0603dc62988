use Rattle.xl_nested.proofs.Common.{host_page, host_space, Leaf, List, small_leaf, with_newest}
use Rattle.xl_nested.proofs.FrontLemmas.{changed-seen}
use Rattle.xl_nested.proofs.front_cache.FrontCache.fill_small.Goals as goal

pub invariant_of-self : goal.invariant_of-self
invariant_of-self c = c.forget.ensures.known c.fill_small.new.self.items

pub returns-clause-filled : goal.returns-clause-filled
returns-clause-filled c =
    rw (← c.self.view_is)
    (changed-seen c.forget.new.fronts.swapped c.fill_small.new.self.items c.forget.new.cache.items _ (λ (xs : List Leaf). with_newest c.self.inside.cache.width (small_leaf (host_space c.args.guest_page) (host_page c.args.guest_page) c.args.word) xs) c.forget.ensures.straight
    (rw c.forget.ensures.width at c.fill_small.ensures.filled) c.forget.ensures.items)
