use Rattle.xl_recency.proofs.Common.{FnReturnsAt}
use Rattle.xl_recency.proofs.MarkLemmas.{none_purges}
use Rattle.xl_recency.proofs.ScanLemmas.{none_found}
use Rattle.xl_recency.proofs.marked.Marked.remove.Goals as goal

pub returns-then-not-any_passes-clause-kept : goal.returns-then-not-any_passes-clause-kept
returns-then-not-any_passes-clause-kept g c = λ q test.
    rw (← c.self.view_is) (none_purges q _ (none_found (FnReturnsAt g.P.Fn c.args.test.now) q test _ (c.any_passes.ensures c.if-not-any_passes.true)))

pub returns-clause-kept : goal.returns-clause-kept
returns-clause-kept g c = λ q test.
    let kept = c.keep_items-self-inside.ensures in
    rw (← c.self.view_is) (record { kept = kept.purged q test; count = kept.count })

pub returns-clause-count : goal.returns-clause-count
returns-clause-count g c = rw (← c.self.view_is) c.keep_items-self-inside.ensures.count
