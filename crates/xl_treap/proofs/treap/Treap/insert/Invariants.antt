use Rattle.xl_treap.proofs.Common.{length, tree_at}
use Rattle.xl_treap.proofs.treap.Treap.insert.Given as goal

abbrev pub ghost-put_in : goal.ghost-put_in
ghost-put_in a = tree_at (length a.path.now) a.words.now a.root
