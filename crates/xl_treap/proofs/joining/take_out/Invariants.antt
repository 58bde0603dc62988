use Rattle.xl_treap.proofs.Common.{length, tree_at}
use Rattle.xl_treap.proofs.joining.take_out.Given as goal

abbrev pub ghost-descend : goal.ghost-descend
ghost-descend g a = g.tree

abbrev pub ghost-join : goal.ghost-join
ghost-join g a = record {
  low = tree_at (length a.path.now) a.words.now a.low;
  high = tree_at (length a.path.now) a.words.now a.high;
  key = a.key;
}
