use Rattle.xl_radix_walk.proofs.Common.{◌+◌, arith, up-le}
use Rattle.xl_radix_walk.proofs.caches.tag_of.Goals as goal

pub overflow_add-result : goal.overflow_add-result
overflow_add-result c =
    let h = up-le (c.args.level + 1) c.args.page in
    let a = c.ranges.space.fits in
    let b = c.requires.page in
    let e = c.block_of.ensures in
    omega arith
