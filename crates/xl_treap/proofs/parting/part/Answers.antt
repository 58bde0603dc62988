use Rattle.xl_treap.proofs.Common.{◌-◌, ◌∙◌, ◌≤◌, arith, down, High, IsCut, List, Low, Over, Parts, slice_index, subst, sym, ℕ}
use Rattle.xl_treap.proofs.CutLemmas.{cut-none, part-more, part-over, part-stop, part-there}
use Rattle.xl_treap.proofs.OrderLemmas.{side-high, side-low}
use Rattle.xl_treap.proofs.parting.part.Goals.{else-own-key, then-own-key}
use Rattle.xl_treap.proofs.parting.part.Goals as goal

pub loop-parts-init : goal.loop-parts-init
loop-parts-init g c =
    let n = cut-none c.args.words.now c.args.key (down g.tree c.args.key c.args.depth) c.requires.way.here in
    record { short = omega arith; cut = n.0; over = n.1 }

pub bounds-words-node : goal.bounds-words-node
bounds-words-node g c =
    let p = c.loop-parts.parts in let i = c.loop-parts.invariant in
    let h = part-there c.args.words.now c.loop-parts.words c.args.path.now g.tree c.args.key c.args.depth p.depth p.low p.high c.requires c.loop-parts-test.true i.short i.cut in
    omega (arith, h)

pub returns-then-is_above : goal.returns-then-is_above
returns-then-is_above g c =
    let p = c.loop-parts.parts in let i = c.loop-parts.invariant in
    record {
      short = i.short;
      cut = i.cut;
      place = record {
        over = i.over;
        stop = part-stop c.args.words.now c.loop-parts.words c.args.path.now g.tree c.args.key c.args.depth p.depth p.low p.high c.requires c.loop-parts-test.true i.short i.cut (sym c.is_above.ensures ∙ c.if-is_above.true);
      };
    }

pub hang-requires : goal.hang-requires
hang-requires g c =
    let p = c.loop-parts.parts in let i = c.loop-parts.invariant in
    part-there c.args.words.now c.loop-parts.words c.args.path.now g.tree c.args.key c.args.depth p.depth p.low p.high c.requires c.loop-parts-test.true i.short i.cut

pub hang-requires-else-own-key : goal.hang-requires-else-own-key
hang-requires-else-own-key g c =
    let p = c.loop-parts.parts in let i = c.loop-parts.invariant in
    part-there c.args.words.now c.loop-parts.words c.args.path.now g.tree c.args.key c.args.depth p.depth p.low p.high c.requires c.loop-parts-test.true i.short i.cut

pub loop-parts-preserved : goal.loop-parts-preserved
loop-parts-preserved g c =
    let p = c.loop-parts.parts in let i = c.loop-parts.invariant in
    let old = c.args.words.now in
    let k = c.args.key in
    let over = part-over old c.loop-parts.words c.args.path.now g.tree k c.args.depth p.depth p.low p.high c.requires c.loop-parts-test.true i.short i.cut (sym c.is_above.ensures ∙ c.if-is_above.false) in
    let short : p.depth - 1 ≤ c.args.depth = omega arith in
    let more = part-more old c.loop-parts.words c.args.path.now g.tree k c.args.depth p.depth p.low p.high c.requires c.loop-parts-test.true i.short i.cut in
    let C : List ℕ → Parts → Type 0 = λ ws q. (q.depth - 1 ≤ c.args.depth) × IsCut old ws q.low q.high k (down g.tree k (q.depth - 1)) × Over k (down g.tree k (q.depth - 1)) in
    let done : C c.if-own-key.words c.if-own-key.parts = (elim c.if-own-key.branch [
      | then-own-key w ↦
          let cut = more w.hang.new.words High (side-high _ k w.if-own-key.true) w.hang.ensures in
          let P : Parts → Type 0 = λ q. C c.if-own-key.words q in
          subst P (sym w.parts-is) (subst (λ (ws : List ℕ). C ws (record p { low = slice_index c.args.path.now (p.depth - 1) })) (sym w.words-is) (short, cut, over))
      | else-own-key w ↦
          let cut = more w.hang-else-own-key.new.words Low (side-low _ k w.if-own-key.false) w.hang-else-own-key.ensures in
          let P : Parts → Type 0 = λ q. C c.if-own-key.words q in
          subst P (sym w.parts-is) (subst (λ (ws : List ℕ). C ws (record p { high = slice_index c.args.path.now (p.depth - 1) })) (sym w.words-is) (short, cut, over))
    ]) in
    record { short = done.0; cut = done.1; over = done.2 }
