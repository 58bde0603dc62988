use Rattle.xl_nested.proofs.front_cache.FrontCache.open.Goals as goal

pub invariant_of-result : goal.invariant_of-result
invariant_of-result c = c.none-fronts.ensures.known _
