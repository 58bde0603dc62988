use Rattle.xl_radix_walk.proofs.Common.{◌-◌, ◌≡◌, arith, is_width, length, length-take, take}
use Rattle.xl_radix_walk.proofs.OpeningLemmas.{all-taken, opening-is, opening-row}
use Rattle.xl_radix_walk.proofs.row.RadixRow.open.Goals as goal

pub open-requires-2 : goal.open-requires-2
open-requires-2 g c = all-taken is_width (g.row.LEVELS - 1) c.args.widths c.requires.widths

pub invariant_of-result : goal.invariant_of-result
invariant_of-result g c =
    let high = c.requires.levels.0 in
    let low = c.requires.levels.1 in
    let size : length (take (g.row.LEVELS - 1) c.args.widths) ≡ g.row.LEVELS - 1 = omega (arith, length-take (g.row.LEVELS - 1) c.args.widths) in
    rw c.in_ok-caches.ensures (opening-row g.row.LEVELS c.in_ok-radix.radix (take (g.row.LEVELS - 1) c.args.widths) high low size)

pub returns : goal.returns
returns g c =
    let radix = c.in_ok-radix.ensures in
    rw c.in_ok-caches.ensures (opening-is g.row.LEVELS c.args.table_frames c.args.spaces c.in_ok-radix.radix c.args.widths radix.leaves radix.nodes radix.spaces radix.loads)
