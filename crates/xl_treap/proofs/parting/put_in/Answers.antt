use Rattle.xl_treap.proofs.Common.{◌*◌, ◌+◌, ◌≤◌, arith, CanPart, IsAttached, IsParted, IsWay, length, parent_at, subst, sym, ℕ}
use Rattle.xl_treap.proofs.PutLemmas.{put-at, put-fit, put-made, put-part, put-room}
use Rattle.xl_treap.proofs.parting.put_in.Goals as goal

pub key_of-key-requires : goal.key_of-key-requires
key_of-key-requires g c =
    let a = c.args in
    let f = put-fit a.words.now a.words.now a.root (length a.path.now) g.tree a.node a.range c.requires in
    let s = f.space_in in let p = f.pages_in in let m = f.some in omega arith

pub set_line-requires-clause-frame_in : goal.set_line-requires-clause-frame_in
set_line-requires-clause-frame_in g c =
    let a = c.args in
    let f = put-fit a.words.now a.words.now a.root (length a.path.now) g.tree a.node a.range c.requires in
    let p = f.frames_in in let m = f.some in omega arith

pub descend-way-requires : goal.descend-way-requires
descend-way-requires g c =
    let a = c.args in
    (put-at a.words.now c.set_line.new.words a.root (length a.path.now) g.tree a.node a.range c.requires c.set_line.ensures, c.requires.few)

pub part-parts-requires : goal.part-parts-requires
part-parts-requires g c =
    let a = c.args in
    let w = c.descend-way.result in
    subst (λ (k : ℕ). CanPart c.set_line.new.words c.descend-way.new.path g.tree k w.depth) (sym c.key_of-key.ensures)
    (put-part a.words.now c.set_line.new.words a.root (length a.path.now) g.tree a.node a.range c.requires c.set_line.ensures
    c.descend-way.new.path w.depth w.at (subst (λ (k : ℕ). IsWay c.set_line.new.words c.descend-way.new.path g.tree k w.depth w.at) c.key_of-key.ensures c.descend-way.ensures))

pub parent_of-parent-requires : goal.parent_of-parent-requires
parent_of-parent-requires g c = let s = c.part-parts.ensures.short in let t = c.descend-way.ensures.short in omega arith

pub overflow_add-node : goal.overflow_add-node
overflow_add-node g c = let s = c.requires.small in omega arith

pub attach-requires : goal.attach-requires
attach-requires g c =
    let a = c.args in
    let w = c.descend-way.result in
    let k = c.key_of-key.ensures in
    let W : ℕ → Type 0 = λ k. IsWay c.set_line.new.words c.descend-way.new.path g.tree k w.depth w.at in
    let P : ℕ → Type 0 = λ k. IsParted c.set_line.new.words c.part-parts.new.words g.tree k w.depth c.part-parts.result in
    subst (λ (p : ℕ). 4 * p ≤ length c.set_links.new.words) (sym c.parent_of-parent.ensures)
    (put-room a.words.now c.set_line.new.words a.root (length a.path.now) g.tree a.node a.range c.requires c.set_line.ensures
    c.descend-way.new.path w.depth w.at (subst W k c.descend-way.ensures) c.part-parts.new.words c.part-parts.result (subst P k c.part-parts.ensures) c.set_links.new.words c.set_links.ensures)

pub returns : goal.returns
returns g c =
    let a = c.args in
    let w = c.descend-way.result in
    let k = c.key_of-key.ensures in
    let W : ℕ → Type 0 = λ k. IsWay c.set_line.new.words c.descend-way.new.path g.tree k w.depth w.at in
    let P : ℕ → Type 0 = λ k. IsParted c.set_line.new.words c.part-parts.new.words g.tree k w.depth c.part-parts.result in
    let B : ℕ → Type 0 = λ p. IsAttached c.set_links.new.words c.attach.new.words a.root c.attach.result p c.key_of-key.result (a.node + 1) in
    let A : ℕ → Type 0 = λ k. IsAttached c.set_links.new.words c.attach.new.words a.root c.attach.result (parent_at c.descend-way.new.path c.part-parts.result.depth) k (a.node + 1) in
    let att = subst A k (subst B c.parent_of-parent.ensures c.attach.ensures) in
    put-made a.words.now c.set_line.new.words c.part-parts.new.words c.set_links.new.words c.attach.new.words c.descend-way.new.path a.root (length a.path.now) a.node w.depth w.at c.attach.result g.tree a.range c.part-parts.result
    c.requires c.set_line.ensures (subst W k c.descend-way.ensures) (subst P k c.part-parts.ensures) c.set_links.ensures att
