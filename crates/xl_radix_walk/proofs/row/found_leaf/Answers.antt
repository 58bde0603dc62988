use Rattle.xl_radix_walk.proofs.Common.{arith, up-le}
use Rattle.xl_radix_walk.proofs.row.found_leaf.Goals as goal

pub leaf_of-requires : goal.leaf_of-requires
leaf_of-requires c = let e = c.block_of.ensures in let h = up-le c.in-Leaf.level c.args.page in let b = c.requires.page in omega arith
