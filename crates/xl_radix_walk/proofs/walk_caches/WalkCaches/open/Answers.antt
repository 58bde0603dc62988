use Rattle.xl_radix_walk.proofs.Common.{◌-◌, drop, is_width, length}
use Rattle.xl_radix_walk.proofs.OpeningLemmas.{all-dropped, all-taken}
use Rattle.xl_radix_walk.proofs.walk_caches.WalkCaches.open.Goals as goal

pub open_caches-requires : goal.open_caches-requires
open_caches-requires c =
    let n = c.widths_off-lowest.result in
    all-taken is_width (length c.args.widths.now - n) (drop n c.args.widths.now) (all-dropped is_width n c.args.widths.now c.requires)
