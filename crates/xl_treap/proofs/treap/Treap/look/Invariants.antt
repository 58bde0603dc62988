use Rattle.xl_treap.proofs.Common.{◌/◌, length, tree_at}
use Rattle.xl_treap.proofs.treap.Treap.look.Given as goal

abbrev pub ghost-node_with : goal.ghost-node_with
ghost-node_with a = tree_at (length a.words.now / 4) a.words.now a.root
