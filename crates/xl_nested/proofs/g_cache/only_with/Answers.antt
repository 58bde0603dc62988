use Rattle.xl_nested.proofs.Common.{arith, nat_tests}
use Rattle.xl_nested.proofs.HeldLemmas.{more_same}
use Rattle.xl_nested.proofs.g_cache.only_with.Goals as goal

pub returns-then-level : goal.returns-then-level
returns-then-level c old new item is e b =
    let a = c.level.ensures in
    let d = c.level-2.ensures in
    let z = c.if-level.true in
    more_same old new item c.args.only c.args.order (grind (arith, nat_tests)) is e b
