use Rattle.xl_nested.proofs.Common.{rules}
use Rattle.xl_nested.proofs.HeldLemmas.{opened_nothing, opened_off}
use Rattle.xl_nested.proofs.g_cache.held_first.Goals as goal

pub returns-then-width-eq0 : goal.returns-then-width-eq0
returns-then-width-eq0 c list e = let z = c.if-width-eq0.true in opened_off list c.args.width (search (rules, z)) e

pub returns-else-width-eq0 : goal.returns-else-width-eq0
returns-else-width-eq0 c list e = opened_nothing list c.args.width e
