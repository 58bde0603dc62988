use Rattle.xl_treap.proofs.Common.{merge}
use Rattle.xl_treap.proofs.joining.join.Given as goal

abbrev pub ghost-merge_down : goal.ghost-merge_down
ghost-merge_down g a = g.pair

abbrev pub ghost-rise : goal.ghost-rise
ghost-rise g a = merge g.pair.low g.pair.high
