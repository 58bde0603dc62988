use Rattle.xl_treap.proofs.Common.{◌+◌, ◌∙◌, ◌≡◌, arith, false, length, List, merge, slice_set, subst, sym, true, ℕ}
use Rattle.xl_treap.proofs.MergeLemmas.{IsMerging, merged-end, merged-high, merged-low, merging-next, merging-there}
use Rattle.xl_treap.proofs.joining.merge_down.Goals.{else-is_above, then-is_above}
use Rattle.xl_treap.proofs.joining.merge_down.Goals as goal

pub returns-then-low-eq0 : goal.returns-then-low-eq0
returns-then-low-eq0 g c = record {
  short = omega arith;
  nodes = c.down.invariant.nodes;
  here = merged-low c.args.words.now c.down.path (merge g.pair.low g.pair.high) g.pair.key c.down.depth c.down.low c.down.high c.down.invariant c.if-low-eq0.true;
}

pub returns-then-high-eq0 : goal.returns-then-high-eq0
returns-then-high-eq0 g c = record {
  short = omega arith;
  nodes = c.down.invariant.nodes;
  here = merged-high c.args.words.now c.down.path (merge g.pair.low g.pair.high) g.pair.key c.down.depth c.down.low c.down.high c.down.invariant c.if-high-eq0.true;
}

pub bounds-words-first : goal.bounds-words-first
bounds-words-first g c =
    let h = merging-there c.args.words.now c.down.path (merge g.pair.low g.pair.high) g.pair.key c.down.depth c.down.low c.down.high c.down.invariant (omega arith) (omega arith) in
    omega (arith, h.0)

pub bounds-words-second : goal.bounds-words-second
bounds-words-second g c =
    let h = merging-there c.args.words.now c.down.path (merge g.pair.low g.pair.high) g.pair.key c.down.depth c.down.low c.down.high c.down.invariant (omega arith) (omega arith) in
    omega (arith, h.1)

pub link_of-low-requires : goal.link_of-low-requires
link_of-low-requires g c =
    (merging-there c.args.words.now c.down.path (merge g.pair.low g.pair.high) g.pair.key c.down.depth c.down.low c.down.high c.down.invariant (omega arith) (omega arith)).0

pub link_of-high-requires : goal.link_of-high-requires
link_of-high-requires g c =
    (merging-there c.args.words.now c.down.path (merge g.pair.low g.pair.high) g.pair.key c.down.depth c.down.low c.down.high c.down.invariant (omega arith) (omega arith)).1

pub down-preserved : goal.down-preserved
down-preserved g c =
    let W = c.args.words.now in
    let t = merge g.pair.low g.pair.high in
    let d = c.down.depth in
    elim c.if-is_above.branch [
      | then-is_above w ↦
          let m = merging-next W c.down.path t g.pair.key d c.down.low c.down.high c.down.invariant (omega arith) (omega arith) (omega arith) true (sym c.is_above.ensures ∙ w.if-is_above.true) in
          let L : ℕ → Type 0 = λ z. IsMerging W (slice_set c.down.path d c.down.low) t g.pair.key (d + 1) z c.down.high in
          let P : List ℕ → Type 0 = λ p. IsMerging W p t g.pair.key (d + 1) w.link_of-low.result c.down.high in
          let A : ℕ → Type 0 = λ z. IsMerging W c.if-is_above.path t g.pair.key (d + 1) z c.down.high in
          let B : ℕ → Type 0 = λ z. IsMerging W c.if-is_above.path t g.pair.key (d + 1) c.if-is_above.low z in
          subst B (sym w.high-is) (subst A (sym w.low-is) (subst P (sym w.path-is) (subst L (sym w.link_of-low.ensures) m)))
      | else-is_above w ↦
          let m = merging-next W c.down.path t g.pair.key d c.down.low c.down.high c.down.invariant (omega arith) (omega arith) (omega arith) false (sym c.is_above.ensures ∙ w.if-is_above.false) in
          let L : ℕ → Type 0 = λ z. IsMerging W (slice_set c.down.path d c.down.high) t g.pair.key (d + 1) c.down.low z in
          let P : List ℕ → Type 0 = λ p. IsMerging W p t g.pair.key (d + 1) c.down.low w.link_of-high.result in
          let A : ℕ → Type 0 = λ z. IsMerging W c.if-is_above.path t g.pair.key (d + 1) c.down.low z in
          let B : ℕ → Type 0 = λ z. IsMerging W c.if-is_above.path t g.pair.key (d + 1) z c.if-is_above.high in
          subst B (sym w.low-is) (subst A (sym w.high-is) (subst P (sym w.path-is) (subst L (sym w.link_of-high.ensures) m)))
    ]

pub returns : goal.returns
returns g c =
    let p = c.down.path in
    let n : c.down.depth ≡ length p = omega arith in
    let m = subst (λ (d : ℕ). IsMerging c.args.words.now p (merge g.pair.low g.pair.high) g.pair.key d c.down.low c.down.high) n c.down.invariant in
    let z = merged-end c.args.words.now p (merge g.pair.low g.pair.high) g.pair.key (length p) c.down.low c.down.high m (omega arith) in
    record {
      short = omega arith;
      nodes = m.nodes;
      here = merged-low c.args.words.now p (merge g.pair.low g.pair.high) g.pair.key (length p) c.down.low c.down.high m z;
    }
