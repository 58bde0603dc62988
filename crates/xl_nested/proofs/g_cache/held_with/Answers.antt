use Rattle.xl_nested.proofs.Common.{IsHeld}
use Rattle.xl_nested.proofs.HeldLemmas.{first_filled, off_filled}
use Rattle.xl_nested.specs.declared.g_cache.Held.TheVariants as held
use Rattle.xl_nested.proofs.g_cache.held_with.Goals as goal

pub returns-in-Off : goal.returns-in-Off
returns-in-Off c old new item is e a b = let h : IsHeld held.Off old = rw c.in-Off.is at is in off_filled old new item h a b

pub returns-in-Nothing : goal.returns-in-Nothing
returns-in-Nothing c old new item is e a b = let h : IsHeld held.Nothing old = rw c.in-Nothing.is at is in first_filled old new item c.args.order h e b

pub returns-in-Only : goal.returns-in-Only
returns-in-Only c old new item is e a b = let h : IsHeld (held.Only c.in-Only.only) old = rw c.in-Only.is at is in c.only_with.ensures old new item h e b
