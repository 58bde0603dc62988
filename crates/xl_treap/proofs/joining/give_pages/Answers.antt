use Rattle.xl_treap.proofs.Common.{arith, length}
use Rattle.xl_treap.proofs.TakeLemmas.{resize-made, take-some, take-there}
use Rattle.xl_treap.proofs.joining.give_pages.Goals as goal

pub overflow_sub-way : goal.overflow_sub-way
overflow_sub-way g c =
    let a = c.args in let w = c.descend-way.result in
    let h = take-some a.words.now c.descend-way.new.path a.root (length a.path.now) g.tree a.key w.depth w.at c.requires.take c.descend-way.ensures in omega (arith, h)

pub set_pages-requires : goal.set_pages-requires
set_pages-requires g c =
    let a = c.args in let w = c.descend-way.result in
    take-there a.words.now c.descend-way.new.path a.root (length a.path.now) g.tree a.key w.depth w.at c.requires.take c.descend-way.ensures

pub returns : goal.returns
returns g c =
    let a = c.args in let w = c.descend-way.result in
    resize-made a.words.now c.descend-way.new.path a.root (length a.path.now) g.tree a.key w.depth w.at c.requires.take c.descend-way.ensures c.set_pages.new.words a.pages c.requires.apart c.set_pages.ensures
