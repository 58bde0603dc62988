use Rattle.xl_recency.proofs.Common.{◌<◌, arith, nat_tests, sym}
use Rattle.xl_recency.proofs.FrontLemmas.{spread-back, spread-none}
use Rattle.xl_recency.proofs.kernel.put_in_front.Goals as goal

pub loop-place-init : goal.loop-place-init
loop-place-init g c = (sym (spread-none c.args.at c.args.items.now), omega arith)

pub loop-place-preserved : goal.loop-place-preserved
loop-place-preserved g c =
    let old = c.args.items.now in
    let at = c.args.at in
    let inv = c.loop-place.invariant in
    let some : 0 < c.loop-place.place = let t = c.loop-place-test.true in grind (arith, nat_tests) in (
      rw (c.index-items-place.is, inv.0) (spread-back c.loop-place.place at c.index-items-place.result old some inv.1 c.requires),
      omega (arith, inv.1),
    )
