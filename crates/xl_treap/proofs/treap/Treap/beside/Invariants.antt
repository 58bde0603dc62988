use Rattle.xl_treap.proofs.Common.{◌/◌, length, tree_at}
use Rattle.xl_treap.proofs.treap.Treap.beside.Given as goal

abbrev pub ghost-nodes_beside : goal.ghost-nodes_beside
ghost-nodes_beside a = tree_at (length a.words.now / 4) a.words.now a.root
