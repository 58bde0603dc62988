-- A tree is parted at a key, from the end of the key's way up.
use Rattle.xl_treap.proofs.Common.{◌*◌, ◌+◌, ◌-◌, ◌<◌, ◌^◌, ◌∙◌, ◌≡◌, ◌≤◌, ap, arith, beyond, Bin, CanPart, child, cut, cut_by, down, Every, false, High, InOrder, is_above, IsAt, IsCut, IsHeap, IsHung, length, List, Low, Off, on_side, Over, Range, range_key, refl, SameLine, Side, side_at, side_in, slice_index, subst, suc, sym, Tip, TopOver, toward, Tree, true, with_child, ℕ}
use Rattle.xl_treap.proofs.AboveLemmas.{above-total, over-chain}
use Rattle.xl_treap.proofs.OrderLemmas.{at-side}
use Rattle.xl_treap.proofs.WayLemmas.{at-keeps, at-there, down-next, each-map, frame, heap-down, Hung, hung, linked-line, linked-three, off-side, order-down}

-- what each of a tree's nodes is, each node of its two parts is
pub every-cut : (P : ℕ → Range → Type 0) (s : Side) (k : ℕ) (t : Tree) → Every P t → Every P (cut s k t)
every-cut P s k Tip e = tt
every-cut P s k (Bin m x l r) (e, a, b) = go s (side_at (range_key x) k) (cut s k l) (cut s k r) (every-cut P s k l a) (every-cut P s k r b)
  where
    go : (s c : Side) (u v : Tree) → Every P u → Every P v → Every P (cut_by s c m x l r u v)
    go Low Low u v f g = f
    go Low High u v f g = (e, a, g)
    go High Low u v f g = (e, f, b)
    go High High u v f g = g

-- and a key that is above each of a tree's is above each of its parts'
pub over-cut : (y : ℕ) (s : Side) (k : ℕ) (t : Tree) → Over y t → Over y (cut s k t)
over-cut y s k t o = every-cut (λ m x. is_above y (range_key x) ≡ true) s k t o

-- one node on the way up goes to the part on the other side of it than the key
pub cut-more : (old w new : List ℕ) (at k bound top low high : ℕ) (t : Tree) (c : Side) → IsAt old at t → 0 < at → InOrder bound top t → IsCut old w low high k (child (toward k t) t)
    → side_in w (at - 1) k ≡ c → IsHung w new (at - 1) c (on_side (beyond c) low high) → IsCut old new (on_side c low at) (on_side c at high) k t
cut-more old w new at k bound top low high Tip c i some o parts e link = absurd (omega arith)
cut-more old w new at k bound top low high (Bin n x l r) c i some o parts e link =
    let m : at - 1 ≡ n = let e = i.0 in omega arith in
    let z : 4 * n + 0 ≡ 4 * n = omega arith in
    let own : slice_index w (4 * n) ≡ range_key x = ap (slice_index w) (sym z) ∙ parts.but.kept n 0 (omega arith) ∙ ap (slice_index old) z ∙ i.1.key_is in
    let is : side_at (range_key x) k ≡ c = subst (λ (a : ℕ). side_at a k ≡ c) own (subst (λ (a : ℕ). side_in w a k ≡ c) m e) in
    let lk : IsHung w new n c (on_side (beyond c) low high) = subst (λ (a : ℕ). IsHung w new a c (on_side (beyond c) low high)) m link in
    let d : IsCut old w low high k (on_side c l r) = subst (λ (s : Side). IsCut old w low high k (on_side s l r)) is parts in
    let keep = at-keeps old at (Bin n x l r) i in
    let off : (s : Side) → Off n (cut s k (on_side c l r)) = (λ s. every-cut (λ m y. m ≡ n → ⊥) s k (on_side c l r) (off-side old n bound top x l r keep o c)) in
    let h : Hung old new c n (Bin n x l r) (cut (beyond c) k (on_side c l r)) =
    hung old w new bound top c n (on_side (beyond c) low high) x l r (cut (beyond c) k (on_side c l r)) keep o d.but.off lk (d.parts (beyond c)) (off (beyond c))
    (at-side (beyond c) old at n x l r i) in
    let stay : IsAt new (on_side c low high) (cut c k (on_side c l r)) =
    frame w new (on_side c low high) (cut c k (on_side c l r)) lk.len
    (each-map (λ m. m ≡ n → ⊥) (SameLine w new) (cut c k (on_side c l r)) (λ m ne. linked-line w new n _ _ m lk ne) (off c)) (d.parts c) in
    record {
      parts = λ s. let T : Side → Type 0 = λ z. IsAt new (on_side s (on_side c low at) (on_side c at high)) (cut_by s z n x l r (cut s k l) (cut s k r)) in
          subst T (sym is) (go c s (subst (λ (a : ℕ). IsAt new a (with_child c (Bin n x l r) (cut (beyond c) k (on_side c l r)))) (sym i.0) h.here) stay);
      but = record { off = h.off; kept = λ m j q. linked-three w new n _ _ lk m j q ∙ d.but.kept m j q };
    }
  where
    go : (c s : Side) → IsAt new at (with_child c (Bin n x l r) (cut (beyond c) k (on_side c l r))) → IsAt new (on_side c low high) (cut c k (on_side c l r))
        → IsAt new (on_side s (on_side c low at) (on_side c at high)) (cut_by s c n x l r (cut s k l) (cut s k r))
    go Low Low a b = b
    go Low High a b = a
    go High Low a b = a
    go High High a b = b

-- the key of a node on the way, in words of which only links changed
pub own-key : (old w : List ℕ) (at : ℕ) (t : Tree) → IsAt old at t → 0 < at → ((m j : ℕ) → j < 3 → slice_index w (4 * m + j) ≡ slice_index old (4 * m + j))
    → slice_index w (4 * (at - 1)) ≡ slice_index old (4 * (at - 1))
own-key old w at t i some kept =
    let z : 4 * (at - 1) + 0 ≡ 4 * (at - 1) = omega arith in
    ap (slice_index w) (sym z) ∙ kept (at - 1) 0 (omega arith) ∙ ap (slice_index old) z

pub top-over : (old : List ℕ) (at k : ℕ) (t : Tree) → IsAt old at t → 0 < at → is_above (slice_index old (4 * (at - 1))) k ≡ true → TopOver k t
top-over old at k Tip i some h = absurd (omega arith)
top-over old at k (Bin n x l r) i some h =
    let m : at - 1 ≡ n = let e = i.0 in omega arith in
    subst (λ (a : ℕ). is_above a k ≡ true) i.1.key_is (subst (λ (a : ℕ). is_above (slice_index old (4 * a)) k ≡ true) m h)

-- a key that a node isn't above is over the node's tree
pub over-tree : (old : List ℕ) (at k : ℕ) (t : Tree) → IsAt old at t → 0 < at → IsHeap t → is_above (slice_index old (4 * (at - 1))) k ≡ false → Over k t
over-tree old at k Tip i some h n = tt
over-tree old at k (Bin n x l r) i some h under =
    let m : at - 1 ≡ n = let e = i.0 in omega arith in
    let K : ℕ → Type 0 = λ a. is_above a k ≡ false in
    let a : is_above k (range_key x) ≡ true = above-total (range_key x) k (subst K i.1.key_is (subst (λ (a : ℕ). is_above (slice_index old (4 * a)) k ≡ false) m under)) in
    (a, over-chain k (range_key x) l a h.0, over-chain k (range_key x) r a h.1)

pub tip-of : (words : List ℕ) (t : Tree) → IsAt words 0 t → t ≡ Tip
tip-of words Tip i = refl
tip-of words (Bin n x l r) i = absurd (let e = i.0 in omega arith)

pub cut-none : (words : List ℕ) (k : ℕ) (t : Tree) → IsAt words 0 t → IsCut words words 0 0 k t × Over k t
cut-none words k t i =
    subst (λ (s : Tree). IsCut words words 0 0 k s × Over k s) (sym (tip-of words t i)) (
      record {
        parts = λ s. none s;
        but = record { off = record { len = refl; same = λ m o j l. refl }; kept = λ m j l. refl };
      },
      tt,
    )
  where
    none : (s : Side) → IsAt words (on_side s 0 0) Tip
    none Low = refl
    none High = refl

-- One node of a way on which a tree is parted.
module _ (old w path : List ℕ) (t : Tree) (k depth d low high : ℕ) (can : CanPart old path t k depth) (up : 0 < d) (le : d ≤ depth)
    (cut : IsCut old w low high k (down t k d)) where
  top : IsAt old (slice_index path (d - 1)) (down t k (d - 1))
  top = can.way.nodes (d - 1) (omega arith)

  top-some : 0 < slice_index path (d - 1)
  top-some = can.way.some (d - 1) (omega arith)

  pub part-there : 4 * (slice_index path (d - 1) - 1) + 4 ≤ length w
  part-there =
      let h = at-there old (slice_index path (d - 1)) (down t k (d - 1)) top top-some in
      let e = cut.but.off.len in omega arith

  own : slice_index w (4 * (slice_index path (d - 1) - 1)) ≡ slice_index old (4 * (slice_index path (d - 1) - 1))
  own = own-key old w (slice_index path (d - 1)) (down t k (d - 1)) top top-some cut.but.kept

  pub part-stop : is_above (slice_index w (4 * (slice_index path (d - 1) - 1))) k ≡ true → (e : ℕ) → d ≡ suc e → TopOver k (down t k e)
  part-stop h e q =
      let m : d - 1 ≡ e = omega arith in
      subst (λ (a : ℕ). TopOver k (down t k a)) m (top-over old (slice_index path (d - 1)) k (down t k (d - 1)) top top-some (subst (λ (a : ℕ). is_above a k ≡ true) own h))

  pub part-over : is_above (slice_index w (4 * (slice_index path (d - 1) - 1))) k ≡ false → Over k (down t k (d - 1))
  part-over h =
      over-tree old (slice_index path (d - 1)) k (down t k (d - 1)) top top-some (heap-down t k (d - 1) can.heap) (subst (λ (a : ℕ). is_above a k ≡ false) own h)

  under : IsCut old w low high k (child (toward k (down t k (d - 1))) (down t k (d - 1)))
  under =
      let m : d ≡ suc (d - 1) = omega arith in
      subst (λ (s : Tree). IsCut old w low high k s) (down-next t k (d - 1)) (subst (λ (a : ℕ). IsCut old w low high k (down t k a)) m cut)

  pub part-more : (new : List ℕ) (c : Side) → side_in w (slice_index path (d - 1) - 1) k ≡ c
      → IsHung w new (slice_index path (d - 1) - 1) (side_in w (slice_index path (d - 1) - 1) k) (on_side (beyond c) low high)
      → IsCut old new (on_side c low (slice_index path (d - 1))) (on_side c (slice_index path (d - 1)) high) k (down t k (d - 1))
  part-more new c e link =
      let o = order-down t k (d - 1) 0 (2 ^ 58) can.order in
      let L : Side → Type 0 = λ z. IsHung w new (slice_index path (d - 1) - 1) z (on_side (beyond c) low high) in
      cut-more old w new (slice_index path (d - 1)) k o.0 o.1 low high (down t k (d - 1)) c top top-some o.2 under e (subst L e link)
