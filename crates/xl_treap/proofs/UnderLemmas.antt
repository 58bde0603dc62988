-- What is under a link.
use Rattle.xl_treap.proofs.Common.{◌+◌, ◌-◌, ◌<◌, ◌^◌, ◌∙◌, ◌≡◌, ap, arith, Bin, High, In, InOrder, IsAt, IsFit, IsNode, IsTree, length, link_at, List, Low, on_side, Range, range_key, range_of_link, ranges, refl, Side, Some, subst, suc, Tip, Tree, ℕ}
use Rattle.xl_treap.proofs.OrderLemmas.{at-side, order-apart, order-In, order-side, sizes}
use Rattle.xl_treap.proofs.WordLemmas.{node-said}

-- a tree is in the words from a link on, in order
pub record IsPlaced (words : List ℕ) (at : ℕ) (s : Tree) : Type 0 where
  pub here : IsAt words at s
  pub order : (low : ℕ) × (high : ℕ) × InOrder low high s

pub placed-tree : (words : List ℕ) (root : ℕ) (t : Tree) → IsTree words root t → IsPlaced words root t
placed-tree words root t s = record { here = s.at; order = (0, 2 ^ 58, order-apart t s.apart) }

pub tip-of : (words : List ℕ) (at : ℕ) (s : Tree) → IsPlaced words at s → at ≡ 0 → s ≡ Tip
tip-of words at Tip h z = refl
tip-of words at (Bin n x l r) h z = absurd (let i = h.here in let e = i.0 in omega arith)

-- the node of a link, and the trees under it
pub record IsTop (words : List ℕ) (at : ℕ) (s : Tree) : Type 0 where
  pub range : Range
  pub low : Tree
  pub high : Tree
  pub is : s ≡ Bin (at - 1) range low high
  pub node : IsNode words (at - 1) range
  pub fit : IsFit range
  pub said : range_of_link words at ≡ Some range
  pub size_is : length (ranges s) ≡ length (ranges low) + suc (length (ranges high))
  pub lower : (z : Range) → In z (ranges low) → range_key z < range_key range
  pub under : (s : Side) → IsPlaced words (link_at s words (at - 1)) (on_side s low high)

pub top-of : (words : List ℕ) (at : ℕ) (s : Tree) → IsPlaced words at s → 0 < at → IsTop words at s
top-of words at Tip h some = absurd (let e : at ≡ 0 = h.here in omega arith)
top-of words at (Bin n x l r) h some =
    let i = h.here in
    let low = h.order.0 in
    let high = h.order.1 in
    let o = h.order.2 in
    let m : n ≡ at - 1 = let e = i.0 in omega arith in
    let P : ℕ → Type 0 = λ z. (Bin n x l r ≡ Bin z x l r) × IsNode words z x × IsAt words (link_at Low words z) l × IsAt words (link_at High words z) r in
    let p : P (at - 1) = subst P m (refl, i.1, i.2, i.3) in
    let e : at ≡ suc (at - 1) = omega arith in
    record {
      range = x;
      low = l;
      high = r;
      is = p.0;
      node = p.1;
      fit = o.0;
      said = ap (range_of_link words) e ∙ node-said words (at - 1) x p.1 o.0;
      size_is = sizes n x l r;
      lower = λ z j. (let a = order-In low (range_key x) z l o.1 j in let b = a.to_high in let c = a.fit.some in omega arith);
      under = λ s. record { here = at-side s words (suc (at - 1)) (at - 1) x l r (refl, p.1, p.2, p.3); order = order-side s low high (at - 1) x l r o };
    }
