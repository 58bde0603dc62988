use Rattle.xl_nested.proofs.g_cache.GCache.touch.Goals as goal

pub invariant_of-self : goal.invariant_of-self
invariant_of-self c = c.touch_block.ensures.kept

pub returns-clause-found : goal.returns-clause-found
returns-clause-found c = rw (← c.self.view_is) c.touch_block.ensures.touched.found

pub returns-clause-moved : goal.returns-clause-moved
returns-clause-moved c = rw (← c.self.view_is) c.touch_block.ensures.touched.moved
