use Rattle.xl_recency.proofs.Common.{FnReturnsAt, rules}
use Rattle.xl_recency.proofs.ScanLemmas.{fail_none}
use Rattle.xl_recency.proofs.kernel.touch_first.Goals as goal

pub is_first_at-requires : goal.is_first_at-requires
is_first_at-requires g c = (search rules, (c.requires.test, fail_none (FnReturnsAt g.P.Fn c.args.test.now) c.args.slots.now))

pub bring_at-requires : goal.bring_at-requires
bring_at-requires g c = (search rules, (c.requires.fits, (c.is_first_at.ensures.within c.if-is_first_at.true, c.is_first_at.ensures.yes c.if-is_first_at.true)))

pub bring_at-requires-then-is_first_at-2 : goal.bring_at-requires-then-is_first_at-2
bring_at-requires-then-is_first_at-2 g c = (search rules, (c.requires.fits, (c.is_first_at-2.ensures.within c.if-is_first_at-2.true, c.is_first_at-2.ensures.yes c.if-is_first_at-2.true)))

pub bring_at-requires-then-is_first_at-3 : goal.bring_at-requires-then-is_first_at-3
bring_at-requires-then-is_first_at-3 g c = (search rules, (c.requires.fits, (c.is_first_at-3.ensures.within c.if-is_first_at-3.true, c.is_first_at-3.ensures.yes c.if-is_first_at-3.true)))

pub bring_at-requires-then-is_first_at-4 : goal.bring_at-requires-then-is_first_at-4
bring_at-requires-then-is_first_at-4 g c = (search rules, (c.requires.fits, (c.is_first_at-4.ensures.within c.if-is_first_at-4.true, c.is_first_at-4.ensures.yes c.if-is_first_at-4.true)))

pub touch_from_4-requires : goal.touch_from_4-requires
touch_from_4-requires g c = (search rules, (c.requires.few, (c.requires.fits, (c.requires.test, c.is_first_at-4.ensures.no c.if-is_first_at-4.false))))

pub returns-then-is_first_at : goal.returns-then-is_first_at
returns-then-is_first_at g c = c.bring_at.ensures

pub returns-then-is_first_at-2 : goal.returns-then-is_first_at-2
returns-then-is_first_at-2 g c = c.bring_at-then-is_first_at-2.ensures

pub returns-then-is_first_at-3 : goal.returns-then-is_first_at-3
returns-then-is_first_at-3 g c = c.bring_at-then-is_first_at-3.ensures

pub returns-then-is_first_at-4 : goal.returns-then-is_first_at-4
returns-then-is_first_at-4 g c = c.bring_at-then-is_first_at-4.ensures

pub returns : goal.returns
returns g c = c.touch_from_4.ensures
