use Rattle.xl_nested.proofs.Common.{IsHeld}
use Rattle.xl_nested.proofs.HeldLemmas.{touches_none, touches_only}
use Rattle.xl_nested.specs.declared.g_cache.Held.TheVariants as held
use Rattle.xl_nested.proofs.g_cache.touch_page.Goals as goal

pub returns-in-Off-clause-touched : goal.returns-in-Off-clause-touched
returns-in-Off-clause-touched c = let h : IsHeld held.Off c.args.list.now = rw c.in-Off.is at c.requires.orders in touches_none _ _ h.1

pub returns-in-Nothing-clause-touched : goal.returns-in-Nothing-clause-touched
returns-in-Nothing-clause-touched c = let h : IsHeld held.Nothing c.args.list.now = rw c.in-Nothing.is at c.requires.orders in touches_none _ _ h

pub returns-in-Only-clause-touched : goal.returns-in-Only-clause-touched
returns-in-Only-clause-touched c =
    let h : IsHeld (held.Only c.in-Only.order) c.args.list.now = rw c.in-Only.is at c.requires.orders in
    touches_only c.args.guest_page c.in-Only.order c.args.list.now.items c.touch_called.new.list.items c.touch_called.result h (rw c.tag_of.ensures.value at c.touch_called.ensures.touched)
