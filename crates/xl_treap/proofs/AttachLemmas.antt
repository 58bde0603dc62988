-- A tree is hung under the end of a way.
use Rattle.xl_treap.proofs.Common.{◌*◌, ◌+◌, ◌-◌, ◌<◌, ◌==◌, ◌∙◌, ◌≡◌, ◌≤◌, ◌⊎◌, ap, arith, beyond, Bin, child, down, Each, end_key, false, graft, inl, InOrder, inr, IsAt, IsAttached, IsEmpty, IsHung, IsLined, Keeps, length, List, nat_tests, Off, on_side, parent_at, Range, range_key, refl, SameLine, SameOff, Side, side_at, side_in, slice_index, subst, suc, sym, Tip, toward, Tree, true, with_child, zero, ℕ}
use Rattle.xl_treap.proofs.GraftLemmas.{graft-next, lift, off-down}
use Rattle.xl_treap.proofs.OrderLemmas.{at-side}
use Rattle.xl_treap.proofs.WayLemmas.{at-keeps, at-there, down-next, Hung, hung, hung-side, off-side, order-down}

pub same-or-not : (m n : ℕ) → (m ≡ n) ⊎ (m ≡ n → ⊥)
same-or-not m n = elim (m == n) as (λ b. (m == n) ≡ b → (m ≡ n) ⊎ (m ≡ n → ⊥)) [
  | true ↦ λ e. inl (grind (arith, nat_tests))
  | false ↦ λ e. inr (λ q. let t : (m == n) ≡ true = grind (arith, nat_tests) in absurd (cc))
] refl

-- the top of a tree is one of its nodes
pub top-each : (P : ℕ → Type 0) (words : List ℕ) (at : ℕ) (t : Tree) → IsAt words at t → 0 < at → Each P t → P (at - 1)
top-each P words at Tip i h e = absurd (omega arith)
top-each P words at (Bin n x l r) i h e = let m : n ≡ at - 1 = let q = i.0 in omega arith in subst P m e.0

-- and no node under itself
pub off-child : (words : List ℕ) (at low high : ℕ) (side : Side) (t : Tree) → IsAt words at t → 0 < at → InOrder low high t → Off (at - 1) (child side t)
off-child words at low high side Tip i h o = tt
off-child words at low high side (Bin n x l r) i h o =
    let m : n ≡ at - 1 = let q = i.0 in omega arith in
    subst (λ (z : ℕ). Off z (on_side side l r)) m (off-side words n low high x l r (at-keeps words at (Bin n x l r) i) o side)

hung-under : (base w new : List ℕ) (low high k p b : ℕ) (q s : Tree) → IsAt base (suc p) q → InOrder low high q → SameOff (child (toward k q) q) base w
    → IsHung w new p (side_in w p k) b → IsAt w b s → Off p s → Hung base new (toward k q) p q s
hung-under base w new low high k p b Tip s i o so link u off = absurd (omega arith)
hung-under base w new low high k p b (Bin n x l r) s i o so link u off =
    let m : n ≡ p = let e = i.0 in omega arith in
    let c : Side = side_at (range_key x) k in
    let keep = at-keeps base (suc p) (Bin n x l r) i in
    let G : ℕ → Type 0 = λ p. IsHung w new p (side_in w p k) b → Off p s → Hung base new c p (Bin n x l r) s in
    subst G m (λ link off. hung base w new low high c n b x l r s keep o so (subst (λ (z : Side). IsHung w new n z b) (hung-side base w new low high c n b x l r s keep o so k) link) u off
    (at-side (beyond c) base (suc p) n x l r i)) link off

-- what is after a tree was attached `depth` steps down a way
pub record Attached (base new : List ℕ) (t : Tree) (k depth : ℕ) (s : Tree) (root : ℕ) : Type 0 where
  pub here : IsAt new root (graft t k depth s)
  pub off : SameOff t base new

-- the node before the end of a way, and that it is none of the tree to be attached
abbrev pub IsParent : List ℕ → List ℕ → Tree → ℕ → ℕ → Tree → Type 0
IsParent base path t k depth s = (d : ℕ) → depth ≡ suc d → IsAt base (slice_index path d) (down t k d) × (0 < slice_index path d) × Off (slice_index path d - 1) s

pub attached : (base w new path : List ℕ) (low high root result k depth at : ℕ) (t s : Tree) → IsAt base root t → InOrder low high t
    → IsParent base path t k depth s → SameOff (down t k depth) base w → IsAt w at s → IsAttached w new root result (parent_at path depth) k at
    → Attached base new t k depth s result
attached base w new path low high root result k zero at t s i o parent so u a =
    record { here = subst (λ (z : ℕ). IsAt new z s) (sym a.1) (subst (λ (z : List ℕ). IsAt z at s) (sym a.0) u); off = subst (λ (z : List ℕ). SameOff t base z) (sym a.0) so }
attached base w new path low high root result k (suc d) at t s i o parent so u a = go (slice_index path d) (parent d refl) a
  where
    go : (q : ℕ) → IsAt base q (down t k d) × (0 < q) × Off (q - 1) s → IsAttached w new root result q k at → Attached base new t k (suc d) s result
    go zero h a = absurd (let z = h.1 in omega arith)
    go (suc p) h a =
        let b = order-down t k d low high o in
        let e : suc p - 1 ≡ p = omega arith in
        let P : ℕ → Type 0 = λ z. Off z s in
        let O : Tree → Type 0 = λ z. SameOff z base w in
        let hung : Hung base new (toward k (down t k d)) p (down t k d) s = hung-under base w new b.0 b.1 k p at (down t k d) s h.0 b.2 (subst O (down-next t k d) so) a.0 u (subst P e h.2) in
        let R : ℕ → Type 0 = λ z. IsAt new z (graft t k (suc d) s) in
        let T : Tree → Type 0 = λ z. IsAt new root z in
        record {
          here = subst R (sym a.1) (subst T (graft-next t s k d) (lift base new low high root (suc p) k d t (with_child (toward k (down t k d)) (down t k d) s) i o h.0 hung.off hung.here));
          off = off-down t k d base new hung.off;
        }

-- the parent of a way's end is there
pub parent-there : (base w path : List ℕ) (t s : Tree) (k depth : ℕ) → IsParent base path t k depth s → length w ≡ length base → 4 * parent_at path depth ≤ length w
parent-there base w path t s k zero p len = omega arith
parent-there base w path t s k (suc d) p len =
    let h = p d refl in let a = at-there base (slice_index path d) (down t k d) h.0 h.1 in let some = h.1 in omega arith

-- a node that is free is none of a tree
pub off-empty : (words : List ℕ) (n low high : ℕ) (t : Tree) → IsEmpty words n → Keeps words t → InOrder low high t → Off n t
off-empty words n low high Tip e k o = tt
off-empty words n low high (Bin m x l r) e (i, a, b) (f, p, q) =
    let some = f.some in (
      λ z. let w : x.pages ≡ 0 = sym i.pages_is ∙ ap (λ m. slice_index words (4 * m + 1)) z ∙ e.none in omega arith,
      off-empty words n low (range_key x) l e a p,
      off-empty words n (end_key x) high r e b q,
    )

pub lined-line : (old new : List ℕ) (n : ℕ) (x : Range) (m : ℕ) → IsLined old new n x → (m ≡ n → ⊥) → SameLine old new m
lined-line old new n x m h ne = λ j l. h.others m j l ne
