use Rattle.xl_treap.proofs.joining.give_pages.Given as goal

abbrev pub ghost-descend : goal.ghost-descend
ghost-descend g a = g.tree
