use Rattle.xl_treap.proofs.parting.put_in.Given as goal

abbrev pub ghost-descend : goal.ghost-descend
ghost-descend g a = g.tree

abbrev pub ghost-part : goal.ghost-part
ghost-part g a = g.tree
