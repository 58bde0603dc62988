use Rattle.xl_treap.proofs.Common.{◌+◌, ◌≡◌, arith, down, inl, length, slice_set, subst, sym, ℕ}
use Rattle.xl_treap.proofs.WayLemmas.{at-there, IsUpTo, none-left, up-to-more}
use Rattle.xl_treap.proofs.descent.descend.Goals as goal

pub bounds-words-node : goal.bounds-words-node
bounds-words-node g c =
    let h = at-there c.args.words.now c.down.at (down g.tree c.args.key c.down.depth) c.down.invariant.here (omega arith) in
    omega (arith, h)

pub step_of-at-requires : goal.step_of-at-requires
step_of-at-requires g c = at-there c.args.words.now c.down.at (down g.tree c.args.key c.down.depth) c.down.invariant.here (omega arith)

pub down-preserved : goal.down-preserved
down-preserved g c =
    let A : ℕ → Type 0 = λ a. IsUpTo c.args.words.now (slice_set c.down.path c.down.depth c.down.at) g.tree c.args.key (c.down.depth + 1) a in
    subst A (sym c.step_of-at.ensures) (up-to-more c.args.words.now c.down.path g.tree c.args.key c.down.depth c.down.at c.down.invariant (omega arith) c.if-words-node.false (omega arith))

pub returns : goal.returns
returns g c =
    let p = c.down.path in
    let u = c.down.invariant in
    let n : length p ≡ c.down.depth = omega arith in
    let v = subst (λ (d : ℕ). IsUpTo c.args.words.now p g.tree c.args.key d c.down.at) (sym n) u in
    let f = v.few in
    let none : c.down.at ≡ 0 = none-left c.args.words.now c.down.at (down g.tree c.args.key (length p)) v.here (omega arith) in
    record { short = omega arith; nodes = v.nodes; some = v.some; other = v.other; here = v.here; ends = inl none }
