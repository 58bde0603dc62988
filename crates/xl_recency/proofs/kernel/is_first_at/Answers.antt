use Rattle.xl_recency.proofs.Common.{arith, FnReturnsAt, says_at}
use Rattle.xl_recency.proofs.ScanLemmas.{fail_more, fail_past, first_at}
use Rattle.xl_recency.proofs.kernel.is_first_at.Goals as goal

pub returns-then-at-clause-yes : goal.returns-then-at-clause-yes
returns-then-at-clause-yes g c = λ yes.
    first_at (FnReturnsAt g.P.Fn c.args.test.now) c.args.slots.now c.args.at c.index-slots-at.result (omega arith) c.index-slots-at.is (says_at g.P.Fn c.test.ensures yes) c.requires.before

pub returns-then-at-clause-no : goal.returns-then-at-clause-no
returns-then-at-clause-no g c = λ no.
    fail_more (FnReturnsAt g.P.Fn c.args.test.now) c.args.slots.now c.args.at c.index-slots-at.result (omega arith) c.index-slots-at.is (says_at g.P.Fn c.test.ensures no) c.requires.before

pub returns-else-at-clause-no : goal.returns-else-at-clause-no
returns-else-at-clause-no g c = λ no. fail_past (FnReturnsAt g.P.Fn c.args.test.now) c.args.slots.now c.args.at (omega arith) c.requires.before
