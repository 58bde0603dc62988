use Rattle.xl_treap.proofs.Common.{length, tree_at}
use Rattle.xl_treap.proofs.treap.Treap.resize.Given as goal

abbrev pub ghost-give_pages : goal.ghost-give_pages
ghost-give_pages a = tree_at (length a.path.now) a.words.now a.root
