use Rattle.xl_treap.proofs.Common.{merge}
use Rattle.xl_treap.proofs.MergeLemmas.{IsMerging}
use Rattle.xl_treap.proofs.joining.merge_down.Given as goal

abbrev pub invariant-down : goal.invariant-down
invariant-down g l = IsMerging l.words l.path (merge g.pair.low g.pair.high) g.pair.key l.depth l.low l.high
