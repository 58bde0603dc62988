use Rattle.xl_range.proofs.WalkLemmas.{small-walk}
use Rattle.xl_range.proofs.ranges.walk_of.Goals as goal

pub returns-in-K4 : goal.returns-in-K4
returns-in-K4 c = small-walk c.args._space c.args.page c.args.cache_hits c.perm_code.result c.args.range.now c.in-K4.is c.requires.at.from c.requires.own c.perm_code.ensures.value
