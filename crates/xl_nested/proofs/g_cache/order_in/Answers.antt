use Rattle.xl_nested.proofs.Common.{IsHeld}
use Rattle.xl_nested.proofs.CodingLemmas.{order-known}
use Rattle.xl_nested.specs.declared.g_cache.Held.TheVariants as held
use Rattle.xl_nested.proofs.g_cache.order_in.Goals as goal

pub returns-in-Only : goal.returns-in-Only
returns-in-Only c list is m = let h : IsHeld (held.Only c.in-Only.order) list = rw c.in-Only.is at is in order-known c.in-Only.order c.args.item (h c.args.item m)
