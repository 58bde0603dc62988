use Rattle.xl_nested.proofs.Common.{host_page, host_space, is_leaf, Leaf, List, purged}
use Rattle.xl_nested.proofs.FrontLemmas.{changed-seen}
use Rattle.xl_nested.proofs.front_cache.FrontCache.drop_leaf.Goals as goal

pub invariant_of-self : goal.invariant_of-self
invariant_of-self c = c.forget.ensures.known c.drop_leaf.new.self.items

pub returns-clause-kept : goal.returns-clause-kept
returns-clause-kept c =
    rw (← c.self.view_is)
    (changed-seen c.forget.new.fronts.swapped c.drop_leaf.new.self.items c.forget.new.cache.items _ (λ (xs : List Leaf). purged (is_leaf (host_space c.args.guest_page) (host_page c.args.guest_page) c.args.order) xs) c.forget.ensures.straight
    c.drop_leaf.ensures.kept c.forget.ensures.items)
