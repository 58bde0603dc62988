use Rattle.xl_radix_walk.proofs.Common.{◌≤◌, arith, nat_tests}
use Rattle.xl_radix_walk.proofs.AboveLemmas.{fills-none}
use Rattle.xl_radix_walk.proofs.walk_caches.WalkCaches.fills_none.Goals as goal

pub returns : goal.returns
returns c t =
    let h : c.args.start ≤ c.self.inside.lowest = grind (arith, nat_tests) in
    rw (← c.self.view_is) (fills-none c.self.inside.lowest c.args.start c.self.inside.kept.items h)
