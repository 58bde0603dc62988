use Rattle.xl_recency.proofs.Common.{arith, FnReturnsAt, rules}
use Rattle.xl_recency.proofs.ScanLemmas.{fail_all, none_found, none_moved}
use Rattle.xl_recency.proofs.kernel.touch_from_12.Goals as goal

pub bring_at-requires : goal.bring_at-requires
bring_at-requires g c = (search rules, (c.requires.fits, (c.is_first_at.ensures.within c.if-is_first_at.true, c.is_first_at.ensures.yes c.if-is_first_at.true)))

pub bring_at-requires-then-is_first_at-2 : goal.bring_at-requires-then-is_first_at-2
bring_at-requires-then-is_first_at-2 g c = (search rules, (c.requires.fits, (c.is_first_at-2.ensures.within c.if-is_first_at-2.true, c.is_first_at-2.ensures.yes c.if-is_first_at-2.true)))

pub bring_at-requires-then-is_first_at-3 : goal.bring_at-requires-then-is_first_at-3
bring_at-requires-then-is_first_at-3 g c = (search rules, (c.requires.fits, (c.is_first_at-3.ensures.within c.if-is_first_at-3.true, c.is_first_at-3.ensures.yes c.if-is_first_at-3.true)))

pub bring_at-requires-then-is_first_at-4 : goal.bring_at-requires-then-is_first_at-4
bring_at-requires-then-is_first_at-4 g c = (search rules, (c.requires.fits, (c.is_first_at-4.ensures.within c.if-is_first_at-4.true, c.is_first_at-4.ensures.yes c.if-is_first_at-4.true)))

pub returns : goal.returns
returns g c =
    let none = fail_all (FnReturnsAt g.P.Fn c.args.test.now) c.args.slots.now c.args.len 16 (omega arith) (omega arith) (c.is_first_at-4.ensures.no c.if-is_first_at-4.false) in
    λ q test. record { found = none_found _ q test _ none; moved = none_moved _ q test _ none }

pub returns-then-is_first_at : goal.returns-then-is_first_at
returns-then-is_first_at g c = c.bring_at.ensures

pub returns-then-is_first_at-2 : goal.returns-then-is_first_at-2
returns-then-is_first_at-2 g c = c.bring_at-then-is_first_at-2.ensures

pub returns-then-is_first_at-3 : goal.returns-then-is_first_at-3
returns-then-is_first_at-3 g c = c.bring_at-then-is_first_at-3.ensures

pub returns-then-is_first_at-4 : goal.returns-then-is_first_at-4
returns-then-is_first_at-4 g c = c.bring_at-then-is_first_at-4.ensures
