-- A tree to come is linked from the end of its way up.
use Rattle.xl_treap.proofs.Common.{◌*◌, ◌+◌, ◌-◌, ◌<◌, ◌∙◌, ◌≡◌, ◌≤◌, arith, Bin, CanMerge, CanRise, child, down, Half, High, InOrder, IsAt, IsHung, IsNode, IsSpine, Keeps, length, List, Low, merge, on_side, Pair, Range, range_key, refl, SameBut, Side, side_at, side_in, slice_index, subst, suc, sym, Tip, toward, Tree, with_child, ℕ}
use Rattle.xl_treap.proofs.MergeLemmas.{merge-every, merge-order}
use Rattle.xl_treap.proofs.WayLemmas.{at-keeps, down-next, every-down, Hung, hung, hung-side, linked-three, off-side, order-down}

with-own : (c : Side) (n : ℕ) (x : Range) (l r : Tree) → with_child c (Bin n x l r) (on_side c l r) ≡ Bin n x l r
with-own Low n x l r = refl
with-own High n x l r = refl

half-there : (words : List ℕ) (p k : ℕ) (q : Tree) → Half words p k q → (4 * (p - 1) + 4 ≤ length words) × (0 < p)
half-there words p k Tip h = absurd h
half-there words p k (Bin n x l r) h = let a = h.1.there in let e = h.0 in (omega arith, omega arith)

-- one node more on the path
rise-node : (old w new : List ℕ) (low high p k at : ℕ) (q : Tree) → Half old p k q → Keeps old q → InOrder low high q → IsAt w at (child (toward k q) q) → SameBut (child (toward k q) q) old w
    → IsHung w new (p - 1) (side_in w (p - 1) k) at → IsAt new p q × SameBut q old new
rise-node old w new low high p k at Tip h keep o i but link = absurd h
rise-node old w new low high p k at (Bin n x l r) h keep o i but link =
    let c : Side = side_at (range_key x) k in
    let m : p - 1 ≡ n = let e = h.0 in omega arith in
    let L : ℕ → Type 0 = λ z. IsHung w new z (side_in w z k) at in
    let lk : IsHung w new n c at = subst (λ (z : Side). IsHung w new n z at) (hung-side old w new low high c n at x l r (on_side c l r) keep o but.off k) (subst L m link) in
    let raised : Hung old new c n (Bin n x l r) (on_side c l r) =
    hung old w new low high c n at x l r (on_side c l r) keep o but.off lk i (off-side old n low high x l r keep o c) h.2 in
    let T : Tree → Type 0 = λ z. IsAt new (suc n) z in (
      subst (λ (z : ℕ). IsAt new z (Bin n x l r)) (sym h.0) (subst T (with-own c n x l r) raised.here),
      record { off = raised.off; kept = λ m j q. linked-three w new n _ _ lk m j q ∙ but.kept m j q },
    )

module _ (old w path : List ℕ) (t : Tree) (k depth d at last : ℕ) (can : CanRise old path t k depth last) (up : 0 < d) (le : d ≤ depth)
    (here : IsAt w at (down t k d)) (but : SameBut (down t k d) old w) where
  half : Half old (slice_index path (d - 1)) k (down t k (d - 1))
  half = can.spine.nodes (d - 1) (omega arith)

  pub rise-there : 4 * (slice_index path (d - 1) - 1) + 4 ≤ length w
  rise-there = let h = (half-there old (slice_index path (d - 1)) k (down t k (d - 1)) half).0 in let e = but.off.len in omega arith

  pub rise-some : 0 < slice_index path (d - 1)
  rise-some = (half-there old (slice_index path (d - 1)) k (down t k (d - 1)) half).1

  pub rise-one : (new : List ℕ) → IsHung w new (slice_index path (d - 1) - 1) (side_in w (slice_index path (d - 1) - 1) k) at
      → IsAt new (slice_index path (d - 1)) (down t k (d - 1)) × SameBut (down t k (d - 1)) old new
  rise-one new link =
      let m : d ≡ suc (d - 1) = omega arith in
      let o = order-down t k (d - 1) 0 can.order.0 can.order.1 in
      let E : ℕ → Type 0 = λ z. SameBut (down t k z) old w in
      let B : Tree → Type 0 = λ z. SameBut z old w in
      rise-node old w new o.0 o.1 (slice_index path (d - 1)) k at (down t k (d - 1)) half (every-down (IsNode old) t k (d - 1) can.keeps) o.2
      (subst (λ (z : Tree). IsAt w at z) (down-next t k (d - 1)) (subst (λ (z : ℕ). IsAt w at (down t k z)) m here)) (subst B (down-next t k (d - 1)) (subst E m but)) link

-- the spine of two trees made one can be linked
pub can-rise : (words path : List ℕ) (low high nodes k depth at : ℕ) (pair : Pair) → CanMerge words low high nodes pair → IsSpine words path (merge pair.low pair.high) pair.key depth at → pair.key ≡ k
    → CanRise words path (merge pair.low pair.high) k depth at
can-rise words path low high nodes k depth at pair c spine e =
    record {
      spine = subst (λ (z : ℕ). IsSpine words path (merge pair.low pair.high) z depth at) e spine;
      keeps = merge-every (IsNode words) pair.low pair.high (at-keeps words low pair.low c.low_at) (at-keeps words high pair.high c.high_at);
      order = (c.high_order.0, merge-order 0 pair.key (suc pair.key) c.high_order.0 pair.low pair.high c.low_order c.high_order.1 (omega arith));
    }
