use Rattle.xl_treap.proofs.Common.{◌*◌, ◌-◌, ◌≤◌, arith, CanMerge, CanTake, High, IsAttached, IsRisen, length, link_at, Low, merge, refl, subst, sym, tree_at, ℕ}
use Rattle.xl_treap.proofs.TakeLemmas.{take-made, take-pair, take-room, take-some, take-there}
use Rattle.xl_treap.proofs.joining.take_out.Goals as goal

pub overflow_sub-node : goal.overflow_sub-node
overflow_sub-node g c =
    let a = c.args in let w = c.descend-way.result in
    let h = take-some a.words.now c.descend-way.new.path a.root (length a.path.now) g.tree a.key w.depth w.at c.requires c.descend-way.ensures in omega (arith, h)

pub link_of-low-requires : goal.link_of-low-requires
link_of-low-requires g c =
    let a = c.args in let w = c.descend-way.result in
    take-there a.words.now c.descend-way.new.path a.root (length a.path.now) g.tree a.key w.depth w.at c.requires c.descend-way.ensures

pub link_of-high-requires : goal.link_of-high-requires
link_of-high-requires g c =
    let a = c.args in let w = c.descend-way.result in
    take-there a.words.now c.descend-way.new.path a.root (length a.path.now) g.tree a.key w.depth w.at c.requires c.descend-way.ensures

pub join-at-requires : goal.join-at-requires
join-at-requires g c =
    let a = c.args in let w = c.descend-way.result in let W = a.words.now in
    let N = length c.descend-way.new.path in
    let can = subst (λ (n : ℕ). CanTake W a.root n g.tree a.key) (sym c.descend-way.auto.path) c.requires in
    let p = take-pair W c.descend-way.new.path a.root N g.tree a.key w.depth w.at can c.descend-way.ensures in
    let L : ℕ → Type 0 = λ l. CanMerge W l (link_at High W (w.at - 1)) N (record { low = tree_at N W l; high = tree_at N W (link_at High W (w.at - 1)); key = a.key }) in
    let R : ℕ → Type 0 = λ r. CanMerge W c.link_of-low.result r N (record { low = tree_at N W c.link_of-low.result; high = tree_at N W r; key = a.key }) in
    (subst R (sym c.link_of-high.ensures) (subst L (sym c.link_of-low.ensures) p), refl)

pub attach-root-requires : goal.attach-root-requires
attach-root-requires g c =
    let a = c.args in let w = c.descend-way.result in let W = a.words.now in
    let N = length c.descend-way.new.path in
    let can = subst (λ (n : ℕ). CanTake W a.root n g.tree a.key) (sym c.descend-way.auto.path) c.requires in
    let L : ℕ → Type 0 = λ l. IsRisen W c.join-at.new.words (merge (tree_at N W l) (tree_at N W c.link_of-high.result)) c.join-at.result in
    let R : ℕ → Type 0 = λ r. IsRisen W c.join-at.new.words (merge (tree_at N W (link_at Low W (w.at - 1))) (tree_at N W r)) c.join-at.result in
    let risen = subst R c.link_of-high.ensures (subst L c.link_of-low.ensures c.join-at.ensures) in
    subst (λ (p : ℕ). 4 * p ≤ length c.join-at.new.words) (sym c.parent_of-parent.ensures)
    (take-room W c.descend-way.new.path a.root N g.tree a.key w.depth w.at can c.descend-way.ensures c.join-at.new.words c.join-at.result risen)

pub set_pages-requires : goal.set_pages-requires
set_pages-requires g c =
    let a = c.args in let w = c.descend-way.result in
    let h = take-there a.words.now c.descend-way.new.path a.root (length a.path.now) g.tree a.key w.depth w.at c.requires c.descend-way.ensures in
    let e = c.attach-root.auto.words in let f = c.join-at.auto.words in omega arith

pub returns : goal.returns
returns g c =
    let a = c.args in let w = c.descend-way.result in let W = a.words.now in
    let N = length c.descend-way.new.path in
    let can = subst (λ (n : ℕ). CanTake W a.root n g.tree a.key) (sym c.descend-way.auto.path) c.requires in
    let L : ℕ → Type 0 = λ l. IsRisen W c.join-at.new.words (merge (tree_at N W l) (tree_at N W c.link_of-high.result)) c.join-at.result in
    let R : ℕ → Type 0 = λ r. IsRisen W c.join-at.new.words (merge (tree_at N W (link_at Low W (w.at - 1))) (tree_at N W r)) c.join-at.result in
    let risen = subst R c.link_of-high.ensures (subst L c.link_of-low.ensures c.join-at.ensures) in
    let P : ℕ → Type 0 = λ p. IsAttached c.join-at.new.words c.attach-root.new.words a.root c.attach-root.result p a.key c.join-at.result in
    take-made W c.descend-way.new.path a.root N g.tree a.key w.depth w.at can c.descend-way.ensures c.join-at.new.words c.join-at.result risen
    c.attach-root.new.words c.set_pages.new.words c.attach-root.result (subst P c.parent_of-parent.ensures c.attach-root.ensures) c.set_pages.ensures
