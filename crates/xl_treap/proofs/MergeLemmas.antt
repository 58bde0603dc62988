-- Two trees are made one.
use Rattle.xl_treap.proofs.Common.{◌*◌, ◌++◌, ◌+◌, ◌-◌, ◌<◌, ◌∙◌, ◌∷◌, ◌≡◌, ◌≤◌, [], ap, append_assoc, arith, beyond, Bin, Bool, child, cond, down, end_key, Every, false, get_or-set_other, get_or-set_same, Half, High, inl, InOrder, inr, is_above, IsAt, IsHeap, length, length-set, link_at, List, Low, merge, merge_into, on_side, Over, Range, range_key, ranges, refl, side_at, slice_index, slice_set, subst, suc, sym, Tip, toward, Tree, true, ℕ}
use Rattle.xl_treap.proofs.AboveLemmas.{above-total, over-chain}
use Rattle.xl_treap.proofs.OrderLemmas.{of-order, order-le, order-of, order-wider, side, side-high, side-low, sizes, Within}
use Rattle.xl_treap.proofs.WayLemmas.{at-there, down-next, none-left}

pub merge-none : (a : Tree) → merge a Tip ≡ a
merge-none Tip = refl
merge-none (Bin n x l r) = refl

into-ranges : (n : ℕ) (x : Range) (l r b : Tree) → ((z : Tree) → ranges (merge r z) ≡ ranges r ++ ranges z) → ranges (merge_into n x l r (λ z. merge r z) b) ≡ ranges (Bin n x l r) ++ ranges b
into-ranges n x l r Tip f = sym (append-none (ranges l ++ x ∷ ranges r))
  where
    append-none : (xs : List Range) → xs ++ [] ≡ xs
    append-none [] = refl
    append-none (x ∷ xs) = ap (λ zs. x ∷ zs) (append-none xs)
into-ranges n x l r (Bin m y c d) f =
    elim (is_above (range_key x) (range_key y)) as (λ t. ranges (cond t (Bin n x l (merge r (Bin m y c d))) (Bin m y (merge_into n x l r (λ z. merge r z) c) d)) ≡ ranges (Bin n x l r) ++ ranges (Bin m y c d)) [
      | true ↦ ap (λ zs. ranges l ++ x ∷ zs) (f (Bin m y c d)) ∙ sym (append_assoc (ranges l) (x ∷ ranges r) (ranges c ++ y ∷ ranges d))
      | false ↦ ap (λ zs. zs ++ y ∷ ranges d) (into-ranges n x l r c f) ∙ append_assoc (ranges l ++ x ∷ ranges r) (ranges c) (y ∷ ranges d)
    ]

pub merge-ranges : (a b : Tree) → ranges (merge a b) ≡ ranges a ++ ranges b
merge-ranges Tip b = refl
merge-ranges (Bin n x l r) b = into-ranges n x l r b (λ z. merge-ranges r z)

into-every : (P : ℕ → Range → Type 0) (n : ℕ) (x : Range) (l r b : Tree) → ((z : Tree) → Every P r → Every P z → Every P (merge r z)) → Every P (Bin n x l r) → Every P b
    → Every P (merge_into n x l r (λ z. merge r z) b)
into-every P n x l r Tip f h g = h
into-every P n x l r (Bin m y c d) f h g =
    elim (is_above (range_key x) (range_key y)) as (λ t. Every P (cond t (Bin n x l (merge r (Bin m y c d))) (Bin m y (merge_into n x l r (λ z. merge r z) c) d))) [
      | true ↦ (h.0, h.1, f (Bin m y c d) h.2 g)
      | false ↦ (g.0, into-every P n x l r c f h g.1, g.2)
    ]

pub merge-every : (P : ℕ → Range → Type 0) (a b : Tree) → Every P a → Every P b → Every P (merge a b)
merge-every P Tip b h g = g
merge-every P (Bin n x l r) b h g = into-every P n x l r b (λ z q s. merge-every P r z q s) h g

-- a key that is above each of two trees is above each of both
pub merge-over : (k : ℕ) (a b : Tree) → Over k a → Over k b → Over k (merge a b)
merge-over k a b o p = merge-every (λ m y. is_above k (range_key y) ≡ true) a b o p

into-heap : (n : ℕ) (x : Range) (l r b : Tree) → ((z : Tree) → IsHeap r → IsHeap z → IsHeap (merge r z)) → IsHeap (Bin n x l r) → IsHeap b → IsHeap (merge_into n x l r (λ z. merge r z) b)
into-heap n x l r Tip f h g = h
into-heap n x l r (Bin m y c d) f h g =
    elim (is_above (range_key x) (range_key y)) as (λ t. is_above (range_key x) (range_key y) ≡ t → IsHeap (cond t (Bin n x l (merge r (Bin m y c d))) (Bin m y (merge_into n x l r (λ z. merge r z) c) d))) [
      | true ↦ λ e. (h.0, merge-over (range_key x) r (Bin m y c d) h.1 (e, over-chain (range_key x) (range_key y) c e g.0, over-chain (range_key x) (range_key y) d e g.1), h.2, f (Bin m y c d) h.3 g)
      | false ↦ λ e.
          let a : is_above (range_key y) (range_key x) ≡ true = above-total (range_key x) (range_key y) e in
          (merge-over (range_key y) (Bin n x l r) c (a, over-chain (range_key y) (range_key x) l a h.0, over-chain (range_key y) (range_key x) r a h.1) g.0, g.1, into-heap n x l r c f h g.2, g.3)
    ] refl

pub merge-heap : (a b : Tree) → IsHeap a → IsHeap b → IsHeap (merge a b)
merge-heap Tip b h g = g
merge-heap (Bin n x l r) b h g = into-heap n x l r b (λ z q s. merge-heap r z q s) h g

within-append : (low mid next high : ℕ) (xs ys : List Range) → Within low mid xs → Within next high ys → mid ≤ next → Within low high (xs ++ ys)
within-append low mid next high [] [] a b h = omega arith
within-append low mid next high [] (y ∷ ys) a b h = (omega arith, b.1, b.2)
within-append low mid next high (x ∷ xs) ys a b h = (a.0, a.1, within-append (end_key x) mid next high xs ys a.2 b h)

pub merge-order : (low mid next high : ℕ) (a b : Tree) → InOrder low mid a → InOrder next high b → mid ≤ next → InOrder low high (merge a b)
merge-order low mid next high a b o p h =
    let W : List Range → Type 0 = λ zs. Within low high zs in
    order-of low high (merge a b) (subst W (sym (merge-ranges a b)) (within-append low mid next high (ranges a) (ranges b) (of-order low mid a o) (of-order next high b p) h))

-- how far two trees were gone down, along the nodes of the tree of both
pub record IsMerging (words path : List ℕ) (t : Tree) (k depth low high : ℕ) : Type 0 where
  pub first : Tree
  pub second : Tree
  pub low_at : IsAt words low first
  pub high_at : IsAt words high second
  pub rest : down t k depth ≡ merge first second
  pub low_order : InOrder 0 k first
  pub high_order : (top : ℕ) × InOrder (suc k) top second
  pub few : depth + (length (ranges first) + length (ranges second)) ≤ length path
  pub nodes : (i : ℕ) → i < depth → Half words (slice_index path i) k (down t k i)

-- the way ends where one of the trees does
pub merged-low : (words path : List ℕ) (t : Tree) (k depth low high : ℕ) → IsMerging words path t k depth low high → low ≡ 0 → IsAt words high (down t k depth)
merged-low words path t k depth low high m z =
    subst (λ (s : Tree). IsAt words high s) (sym m.rest) (go m.first m.low_at)
  where
    go : (a : Tree) → IsAt words low a → IsAt words high (merge a m.second)
    go Tip i = m.high_at
    go (Bin n x l r) i = absurd (let e = i.0 in omega arith)

pub merged-high : (words path : List ℕ) (t : Tree) (k depth low high : ℕ) → IsMerging words path t k depth low high → high ≡ 0 → IsAt words low (down t k depth)
merged-high words path t k depth low high m z =
    subst (λ (s : Tree). IsAt words low s) (sym m.rest) (go m.second m.high_at)
  where
    go : (b : Tree) → IsAt words high b → IsAt words low (merge m.first b)
    go Tip i = let T : Tree → Type 0 = λ s. IsAt words low s in subst T (sym (merge-none m.first)) m.low_at
    go (Bin n x l r) i = absurd (let e = i.0 in omega arith)

pub merged-end : (words path : List ℕ) (t : Tree) (k depth low high : ℕ) → IsMerging words path t k depth low high → length path ≤ depth → low ≡ 0
merged-end words path t k depth low high m h = let f = m.few in none-left words low m.first m.low_at (omega arith)

pub merging-there : (words path : List ℕ) (t : Tree) (k depth low high : ℕ) → IsMerging words path t k depth low high → 0 < low → 0 < high → (4 * (low - 1) + 4 ≤ length words) × (4 * (high - 1) + 4 ≤ length words)
merging-there words path t k depth low high m a b = (at-there words low m.first m.low_at a, at-there words high m.second m.high_at b)

-- one node more on the way
more-nodes : (words path : List ℕ) (t : Tree) (k depth at : ℕ) → ((i : ℕ) → i < depth → Half words (slice_index path i) k (down t k i)) → depth < length path → Half words at k (down t k depth)
    → (i : ℕ) → i < depth + 1 → Half words (slice_index (slice_set path depth at) i) k (down t k i)
more-nodes words path t k depth at u less here i h = elim (side i depth) [
  | inl lt ↦ let ne : i ≡ depth → ⊥ = (λ q. omega arith) in
      subst (λ (a : ℕ). Half words a k (down t k i)) (sym (get_or-set_other path depth i at 0 ne)) (u i lt)
  | inr ge ↦ let q : depth ≡ i = omega arith in
      subst (λ (j : ℕ). Half words (slice_index (slice_set path depth at) j) k (down t k j)) q (subst (λ (a : ℕ). Half words a k (down t k depth)) (sym (get_or-set_same path depth at 0 less)) here)
]

-- the result of a step down, where the first tree's top is above, or the second's
merging-step : (words path : List ℕ) (t : Tree) (k depth low high : ℕ) (a b : Tree) (top : ℕ) → IsAt words low a → IsAt words high b → down t k depth ≡ merge a b → InOrder 0 k a → InOrder (suc k) top b
    → depth + (length (ranges a) + length (ranges b)) ≤ length path → ((i : ℕ) → i < depth → Half words (slice_index path i) k (down t k i)) → 0 < low → 0 < high → depth < length path → (above : Bool)
    → is_above (slice_index words (4 * (low - 1))) (slice_index words (4 * (high - 1))) ≡ above
    → cond above (IsMerging words (slice_set path depth low) t k (depth + 1) (link_at High words (low - 1)) high) (IsMerging words (slice_set path depth high) t k (depth + 1) low (link_at Low words (high - 1)))
merging-step words path t k depth low high Tip b top i j e o p few nodes sl sh less above q = absurd (omega arith)
merging-step words path t k depth low high (Bin n x l r) Tip top i j e o p few nodes sl sh less above q = absurd (omega arith)
merging-step words path t k depth low high (Bin n x l r) (Bin m y c d) top i j e o p few nodes sl sh less above q =
    let ln : low - 1 ≡ n = let z = i.0 in omega arith in
    let hm : high - 1 ≡ m = let z = j.0 in omega arith in
    let N : ℕ → Type 0 = λ z. is_above (slice_index words (4 * z)) (slice_index words (4 * (high - 1))) ≡ above in
    let M : ℕ → Type 0 = λ z. is_above (slice_index words (4 * n)) (slice_index words (4 * z)) ≡ above in
    let K : ℕ → Type 0 = λ z. is_above z (slice_index words (4 * m)) ≡ above in
    let s : is_above (range_key x) (range_key y) ≡ above = subst (λ (z : ℕ). is_above (range_key x) z ≡ above) j.1.key_is (subst K i.1.key_is (subst M hm (subst N ln q))) in
    let x-side : side_at (range_key x) k ≡ High = side-high (range_key x) k (let w = order-le (end_key x) k r o.2 in let some = o.0.some in omega arith) in
    let y-side : side_at (range_key y) k ≡ Low = side-low (range_key y) k (let w = order-le (suc k) (range_key y) c p.1 in omega arith) in
    let nx : suc depth ≡ depth + 1 = omega arith in
    go above s ln hm x-side y-side nx
  where
    go : (above : Bool) → is_above (range_key x) (range_key y) ≡ above → low - 1 ≡ n → high - 1 ≡ m → side_at (range_key x) k ≡ High → side_at (range_key y) k ≡ Low → suc depth ≡ depth + 1
        → cond above (IsMerging words (slice_set path depth low) t k (depth + 1) (link_at High words (low - 1)) high) (IsMerging words (slice_set path depth high) t k (depth + 1) low (link_at Low words (high - 1)))
    go true s ln hm x-side y-side nx =
        let here : down t k depth ≡ Bin n x l (merge r (Bin m y c d)) = e ∙ ap (λ z. cond z (Bin n x l (merge r (Bin m y c d))) (Bin m y (merge_into n x l r (λ z. merge r z) c) d)) s in
        let next : down t k (depth + 1) ≡ merge r (Bin m y c d) =
        ap (down t k) (sym nx) ∙ down-next t k depth ∙ ap (λ z. child (toward k z) z) here ∙ ap (λ z. on_side z l (merge r (Bin m y c d))) x-side in
        let H : Tree → Type 0 = λ z. Half words low k z in
        record {
          first = r;
          second = Bin m y c d;
          low_at = subst (λ (z : ℕ). IsAt words (link_at High words z) r) (sym ln) i.3;
          high_at = j;
          rest = next;
          low_order = order-wider (end_key x) k 0 k r o.2 (omega arith) (omega arith);
          high_order = (top, p);
          few = (let z = length-set path depth low in omega (arith, sizes n x l r));
          nodes = more-nodes words path t k depth low nodes less (subst H (sym here) (i.0, i.1, subst (λ z. IsAt words (link_at (beyond z) words n) (on_side (beyond z) l (merge r (Bin m y c d)))) (sym x-side) i.2));
        }
    go false s ln hm x-side y-side nx =
        let here : down t k depth ≡ Bin m y (merge (Bin n x l r) c) d = e ∙ ap (λ z. cond z (Bin n x l (merge r (Bin m y c d))) (Bin m y (merge_into n x l r (λ z. merge r z) c) d)) s in
        let next : down t k (depth + 1) ≡ merge (Bin n x l r) c =
        ap (down t k) (sym nx) ∙ down-next t k depth ∙ ap (λ z. child (toward k z) z) here ∙ ap (λ z. on_side z (merge (Bin n x l r) c) d) y-side in
        let H : Tree → Type 0 = λ z. Half words high k z in
        record {
          first = Bin n x l r;
          second = c;
          low_at = i;
          high_at = subst (λ (z : ℕ). IsAt words (link_at Low words z) c) (sym hm) j.2;
          rest = next;
          low_order = o;
          high_order = (range_key y, p.1);
          few = (let z = length-set path depth high in omega (arith, sizes m y c d));
          nodes = more-nodes words path t k depth high nodes less (subst H (sym here) (j.0, j.1, subst (λ z. IsAt words (link_at (beyond z) words m) (on_side (beyond z) (merge (Bin n x l r) c) d)) (sym y-side) j.3));
        }

pub merging-next : (words path : List ℕ) (t : Tree) (k depth low high : ℕ) → IsMerging words path t k depth low high → 0 < low → 0 < high → depth < length path → (above : Bool)
    → is_above (slice_index words (4 * (low - 1))) (slice_index words (4 * (high - 1))) ≡ above
    → cond above (IsMerging words (slice_set path depth low) t k (depth + 1) (link_at High words (low - 1)) high) (IsMerging words (slice_set path depth high) t k (depth + 1) low (link_at Low words (high - 1)))
merging-next words path t k depth low high m a b less above q =
    merging-step words path t k depth low high m.first m.second m.high_order.0 m.low_at m.high_at m.rest m.low_order m.high_order.1 m.few m.nodes a b less above q
