use Rattle.xl_radix.proofs.store.Store.+take_leaf_below.Given as goal

abbrev pub decreases-take_leaf_below : goal.decreases-take_leaf_below
decreases-take_leaf_below g l = l.from.level
