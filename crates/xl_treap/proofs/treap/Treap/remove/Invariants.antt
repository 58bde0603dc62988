use Rattle.xl_treap.proofs.Common.{length, tree_at}
use Rattle.xl_treap.proofs.treap.Treap.remove.Given as goal

abbrev pub ghost-take_out : goal.ghost-take_out
ghost-take_out a = tree_at (length a.path.now) a.words.now a.root
