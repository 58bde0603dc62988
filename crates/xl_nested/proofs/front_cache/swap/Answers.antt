use Rattle.xl_nested.proofs.FrontLemmas.{swap-fronts, swap-items}
use Rattle.xl_nested.proofs.front_cache.swap.Goals as goal

pub touch-requires : goal.touch-requires
touch-requires c = c.requires.fronts.second_small.first_in

pub returns-clause-fronts : goal.returns-clause-fronts
returns-clause-fronts c = swap-fronts c.args.fronts.now c.args.cache.now.items c.touch.new.self.items c.requires.fronts c.requires.swapped c.touch.ensures.moved

pub returns-clause-items : goal.returns-clause-items
returns-clause-items c = swap-items c.args.fronts.now c.args.cache.now.items c.touch.new.self.items c.requires.fronts c.requires.swapped c.touch.ensures.moved
