-- Trees in words of which others change, and ways down a tree.
use Rattle.xl_treap.proofs.Common.{◌%◌, ◌*◌, ◌+◌, ◌-◌, ◌/◌, ◌<◌, ◌^◌, ◌∙◌, ◌≡◌, ◌≤◌, ◌⊎◌, ap, arith, beyond, Bin, child, down, Each, end_key, Every, get_or-set_other, get_or-set_same, High, inl, InOrder, inr, IsAt, IsHeap, IsHung, IsLinked, IsNode, Keeps, length, length-set, link_at, List, Low, Off, on_side, Range, range_key, ranges, refl, SameLine, SameOff, Side, side_at, side_in, slice_index, slice_set, step_at, subst, suc, sym, Tip, toward, Tree, with_child, zero, ℕ}
use Rattle.xl_treap.proofs.OrderLemmas.{at-side, at-with, hung-links, on-either, order-le, order-side, side, sizes}

pub each-map : (P Q : ℕ → Type 0) (t : Tree) → ((m : ℕ) → P m → Q m) → Each P t → Each Q t
each-map P Q Tip f e = tt
each-map P Q (Bin m x l r) f (e, a, b) = (f m e, each-map P Q l f a, each-map P Q r f b)

pub each-both : (P Q : ℕ → Type 0) (t : Tree) → Each P t → Each Q t → Each (λ m. P m × Q m) t
each-both P Q Tip e f = tt
each-both P Q (Bin m x l r) (e, a, b) (f, c, d) = ((e, f), each-both P Q l a c, each-both P Q r b d)

pub at-keeps : (words : List ℕ) (at : ℕ) (t : Tree) → IsAt words at t → Keeps words t
at-keeps words at Tip i = tt
at-keeps words at (Bin n x l r) (e, i, a, b) = (i, at-keeps words (link_at Low words n) l a, at-keeps words (link_at High words n) r b)

pub line-chain : (a b c : List ℕ) (m : ℕ) → SameLine a b m → SameLine b c m → SameLine a c m
line-chain a b c m h k = λ j l. k j l ∙ h j l

-- a node whose first three words stay
pub node-same : (old new : List ℕ) (n : ℕ) (x : Range) → length new ≡ length old → ((j : ℕ) → j < 3 → slice_index new (4 * n + j) ≡ slice_index old (4 * n + j)) → IsNode old n x → IsNode new n x
node-same old new n x len same i =
    let z : 4 * n + 0 ≡ 4 * n = omega arith in
    record {
      there = (let t = i.there in omega arith);
      key_is = ap (slice_index new) (sym z) ∙ same 0 (omega arith) ∙ ap (slice_index old) z ∙ i.key_is;
      pages_is = same 1 (omega arith) ∙ i.pages_is;
      word_is = same 2 (omega arith) ∙ i.word_is;
    }

pub frame : (old new : List ℕ) (at : ℕ) (t : Tree) → length new ≡ length old → Each (SameLine old new) t → IsAt old at t → IsAt new at t
frame old new at Tip len s i = i
frame old new at (Bin n x l r) len (s, p, q) (e, i, a, b) =
    let link : slice_index new (4 * n + 3) ≡ slice_index old (4 * n + 3) = s 3 (omega arith) in
    let R : ℕ → Type 0 = λ z. IsAt new (z / 2 ^ 32) r in (
      e,
      node-same old new n x len (λ j h. s j (omega arith)) i,
      subst (λ (z : ℕ). IsAt new (z % 2 ^ 32) l) (sym link) (frame old new (link_at Low old n) l len p a),
      subst R (sym link) (frame old new (link_at High old n) r len q b),
    )

-- a node whose key lies outside a tree's keys is none of it
pub off-key : (words : List ℕ) (n k low high : ℕ) (t : Tree) → slice_index words (4 * n) ≡ k → Keeps words t → InOrder low high t → (k < low) ⊎ (high ≤ k) → Off n t
off-key words n k low high Tip e h o s = tt
off-key words n k low high (Bin m x l r) e (i, a, b) (f, p, q) s =
    let c = order-le low (range_key x) l p in
    let d = order-le (end_key x) high r q in
    let some : 0 < x.pages = f.some in
    let own : m ≡ n → range_key x ≡ k = (λ q. sym i.key_is ∙ ap (λ z. slice_index words (4 * z)) q ∙ e) in (
      λ q. let z : range_key x ≡ k = own q in elim s [ inl lt ↦ omega arith | inr ge ↦ omega arith ],
      off-key words n k low (range_key x) l e a p (elim s [ inl lt ↦ inl lt | inr ge ↦ inr (omega arith) ]),
      off-key words n k (end_key x) high r e b q (elim s [ inl lt ↦ inl (omega arith) | inr ge ↦ inr ge ]),
    )

-- the nodes of a tree that lies apart from another are none of that
pub each-off : (words : List ℕ) (low high down up : ℕ) (t s : Tree) → Keeps words t → InOrder low high t → Keeps words s → InOrder down up s → (high ≤ down) ⊎ (up ≤ low) → Each (λ m. Off m s) t
each-off words low high down up Tip s h o k p side = tt
each-off words low high down up (Bin m x l r) s (i, a, b) (f, p, q) k o side =
    let c = order-le low (range_key x) l p in
    let d = order-le (end_key x) high r q in
    let some : 0 < x.pages = f.some in (
      off-key words m (range_key x) down up s i.key_is k o (elim side [ inl le ↦ inl (omega arith) | inr le ↦ inr (omega arith) ]),
      each-off words low (range_key x) down up l s a p k o (elim side [ inl le ↦ inl (omega arith) | inr le ↦ inr le ]),
      each-off words (end_key x) high down up r s b q k o (elim side [ inl le ↦ inl le | inr le ↦ inr (omega arith) ]),
    )

pub linked-line : (old new : List ℕ) (n low high m : ℕ) → IsLinked old new n low high → (m ≡ n → ⊥) → SameLine old new m
linked-line old new n low high m h ne = λ j l. h.others (4 * m + j) (λ q. ne (omega arith))

pub linked-three : (old new : List ℕ) (n low high : ℕ) → IsLinked old new n low high → (m j : ℕ) → j < 3 → slice_index new (4 * m + j) ≡ slice_index old (4 * m + j)
linked-three old new n low high h m j l = h.others (4 * m + j) (λ q. omega arith)

-- a node is none of the trees under it, and neither of these has a node of the other
pub off-side : (words : List ℕ) (n low high : ℕ) (x : Range) (l r : Tree) → Keeps words (Bin n x l r) → InOrder low high (Bin n x l r) → (s : Side) → Off n (on_side s l r)
off-side words n low high x l r keep o s =
    let some = o.0.some in
    on-either (Off n) s l r (off-key words n (range_key x) low (range_key x) l keep.0.key_is keep.1 o.1 (inr (omega arith)))
    (off-key words n (range_key x) (end_key x) high r keep.0.key_is keep.2 o.2 (inl (omega arith)))

pub apart-sides : (words : List ℕ) (n low high : ℕ) (x : Range) (l r : Tree) → Keeps words (Bin n x l r) → InOrder low high (Bin n x l r) → (s : Side)
    → Each (λ m. Off m (on_side s l r)) (on_side (beyond s) l r)
apart-sides words n low high x l r keep o Low =
    let some = o.0.some in each-off words (end_key x) high low (range_key x) r l keep.2 o.2 keep.1 o.1 (inr (omega arith))
apart-sides words n low high x l r keep o High =
    let some = o.0.some in each-off words low (range_key x) (end_key x) high l r keep.1 o.1 keep.2 o.2 (inl (omega arith))

-- What is after a tree was hung on a side of a node: the node's tree so far, `base` its words before
-- what is under it changed, and `old` before the hanging.
pub record Hung (base new : List ℕ) (s : Side) (p : ℕ) (t u : Tree) : Type 0 where
  pub here : IsAt new (suc p) (with_child s t u)
  pub off : SameOff t base new

module _ (base old new : List ℕ) (low high : ℕ) (s : Side) (p b : ℕ) (x : Range) (l r u : Tree)
    (keeps : Keeps base (Bin p x l r)) (order : InOrder low high (Bin p x l r))
    (so : SameOff (on_side s l r) base old) where
  line : SameLine base old p
  line = so.same p (off-side base p low high x l r keeps order s)

  node : IsNode old p x
  node = node-same base old p x so.len (λ j h. line j (omega arith)) keeps.0

  -- the side of a key is what it was
  pub hung-side : (k : ℕ) → side_in old p k ≡ side_at (range_key x) k
  hung-side k = ap (λ z. side_at z k) node.key_is

  pub hung : IsHung old new p s b → IsAt old b u → Off p u → IsAt base (link_at (beyond s) base p) (on_side (beyond s) l r) → Hung base new s p (Bin p x l r) u
  hung link under off-p a =
      let links = hung-links s old new p b link in
      let far : link_at (beyond s) new p ≡ link_at (beyond s) base p = links.1 ∙ ap (λ z. on_side (beyond s) (z % 2 ^ 32) (z / 2 ^ 32)) (line 3 (omega arith)) in
      let stay : Each (SameLine base new) (on_side (beyond s) l r) =
      each-map (λ m. Off m (on_side s l r) × (m ≡ p → ⊥)) (SameLine base new) (on_side (beyond s) l r)
      (λ m h. line-chain base old new m (so.same m h.0) (linked-line old new p _ _ m link h.1))
      (each-both (λ m. Off m (on_side s l r)) (λ m. m ≡ p → ⊥) (on_side (beyond s) l r)
      (apart-sides base p low high x l r keeps order s) (off-side base p low high x l r keeps order (beyond s))) in
      record {
        here = at-with s new p x l r u
            (node-same old new p x link.len (λ j h. linked-three old new p _ _ link p j h) node)
            (subst (λ (z : ℕ). IsAt new z u) (sym links.0) (frame old new b u link.len (each-map (λ m. m ≡ p → ⊥) (SameLine old new) u (λ m ne. linked-line old new p _ _ m link ne) off-p) under))
            (subst (λ (z : ℕ). IsAt new z (on_side (beyond s) l r)) (sym far) (frame base new (link_at (beyond s) base p) (on_side (beyond s) l r) (link.len ∙ so.len) stay a));
        off = record {
          len = link.len ∙ so.len;
          same = λ m o. line-chain base old new m (so.same m (on-either (Off m) s l r o.1 o.2)) (linked-line old new p _ _ m link (λ e. o.0 (sym e)));
        };
      }

pub at-there : (words : List ℕ) (at : ℕ) (t : Tree) → IsAt words at t → 0 < at → 4 * (at - 1) + 4 ≤ length words
at-there words at Tip i h = absurd (omega arith)
at-there words at (Bin n x l r) (e, i, a, b) h = let c = i.there in omega arith

pub down-next : (t : Tree) (k d : ℕ) → down t k (suc d) ≡ child (toward k (down t k d)) (down t k d)
down-next Tip k zero = refl
down-next Tip k (suc d) = refl
down-next (Bin n x l r) k zero = refl
down-next (Bin n x l r) k (suc d) = down-next (on_side (side_at (range_key x) k) l r) k d

pub step-child : (words : List ℕ) (at : ℕ) (t : Tree) (k : ℕ) → IsAt words at t → 0 < at → IsAt words (step_at words (at - 1) k) (child (toward k t) t)
step-child words at Tip k i h = absurd (omega arith)
step-child words at (Bin n x l r) k i h =
    let m : n ≡ at - 1 = let e = i.0 in omega arith in
    let Q : ℕ → Type 0 = λ z. IsAt words (link_at (side_at z k) words n) (on_side (side_at (range_key x) k) l r) in
    subst (λ (z : ℕ). IsAt words (step_at words z k) (on_side (side_at (range_key x) k) l r)) m (subst Q (sym i.1.key_is) (at-side (side_at (range_key x) k) words at n x l r i))

pub child-less : (words : List ℕ) (at : ℕ) (t : Tree) (s : Side) → IsAt words at t → 0 < at → length (ranges (child s t)) < length (ranges t)
child-less words at Tip s i h = absurd (omega arith)
child-less words at (Bin n x l r) s i h =
    on-either (λ z. length (ranges z) < length (ranges (Bin n x l r))) s l r (omega (arith, sizes n x l r)) (omega (arith, sizes n x l r))

-- a tree without ranges has no node
pub none-left : (words : List ℕ) (at : ℕ) (t : Tree) → IsAt words at t → length (ranges t) ≡ 0 → at ≡ 0
none-left words at Tip i h = i
none-left words at (Bin n x l r) i h = absurd (omega (arith, sizes n x l r))

-- a way so far, and what is left of the path
pub record IsUpTo (words path : List ℕ) (t : Tree) (k depth at : ℕ) : Type 0 where
  pub here : IsAt words at (down t k depth)
  pub few : depth + length (ranges (down t k depth)) ≤ length path
  pub nodes : (i : ℕ) → i < depth → IsAt words (slice_index path i) (down t k i)
  pub some : (i : ℕ) → i < depth → 0 < slice_index path i
  pub other : (i : ℕ) → i < depth → slice_index words (4 * (slice_index path i - 1)) ≡ k → ⊥

pub up-to-more : (words path : List ℕ) (t : Tree) (k depth at : ℕ) → IsUpTo words path t k depth at → 0 < at → (slice_index words (4 * (at - 1)) ≡ k → ⊥) → depth < length path
    → IsUpTo words (slice_set path depth at) t k (depth + 1) (step_at words (at - 1) k)
up-to-more words path t k depth at u some unlike less =
    let e : down t k (suc depth) ≡ child (toward k (down t k depth)) (down t k depth) = down-next t k depth in
    let m : suc depth ≡ depth + 1 = omega arith in
    let T : Tree → Type 0 = λ s. IsAt words (step_at words (at - 1) k) s in
    let L : ℕ → Type 0 = λ d. length (ranges (down t k d)) < length (ranges (down t k depth)) in
    let S : Tree → Type 0 = λ s. length (ranges s) < length (ranges (down t k depth)) in
    let less-left : length (ranges (down t k (depth + 1))) < length (ranges (down t k depth)) = subst L m (subst S (sym e) (child-less words at (down t k depth) (toward k (down t k depth)) u.here some)) in
    let f = u.few in
    record {
      here = subst (λ (d : ℕ). IsAt words (step_at words (at - 1) k) (down t k d)) m (subst T (sym e) (step-child words at (down t k depth) k u.here some));
      few = (let z : length (slice_set path depth at) ≡ length path = length-set path depth at in omega arith);
      nodes = λ i h. elim (side i depth) [
        | inl lt ↦ let ne : i ≡ depth → ⊥ = (λ q. omega arith) in
            subst (λ (a : ℕ). IsAt words a (down t k i)) (sym (get_or-set_other path depth i at 0 ne)) (u.nodes i lt)
        | inr ge ↦ let q : depth ≡ i = omega arith in
            let I : ℕ → Type 0 = λ j. IsAt words (slice_index (slice_set path depth at) j) (down t k j) in
            subst I q (subst (λ (a : ℕ). IsAt words a (down t k depth)) (sym (get_or-set_same path depth at 0 less)) u.here)
      ];
      some = λ i h. elim (side i depth) [
        | inl lt ↦ let ne : i ≡ depth → ⊥ = (λ q. omega arith) in
            subst (λ (a : ℕ). 0 < a) (sym (get_or-set_other path depth i at 0 ne)) (u.some i lt)
        | inr ge ↦ let q : depth ≡ i = omega arith in
            subst (λ (j : ℕ). 0 < slice_index (slice_set path depth at) j) q (subst (λ (a : ℕ). 0 < a) (sym (get_or-set_same path depth at 0 less)) some)
      ];
      other = λ i h. elim (side i depth) [
        | inl lt ↦ let ne : i ≡ depth → ⊥ = (λ q. omega arith) in
            subst (λ (a : ℕ). slice_index words (4 * (a - 1)) ≡ k → ⊥) (sym (get_or-set_other path depth i at 0 ne)) (u.other i lt)
        | inr ge ↦ let q : depth ≡ i = omega arith in
            let I : ℕ → Type 0 = λ j. slice_index words (4 * (slice_index (slice_set path depth at) j - 1)) ≡ k → ⊥ in
            subst I q (subst (λ (a : ℕ). slice_index words (4 * (a - 1)) ≡ k → ⊥) (sym (get_or-set_same path depth at 0 less)) unlike)
      ];
    }

-- a tree on the way down lies between two keys, and is a heap
pub order-down : (t : Tree) (k d low high : ℕ) → InOrder low high t → (a : ℕ) × (b : ℕ) × InOrder a b (down t k d)
order-down t k zero low high o = (low, high, o)
order-down Tip k (suc d) low high o = (low, high, o)
order-down (Bin n x l r) k (suc d) low high o =
    let b = order-side (side_at (range_key x) k) low high n x l r o in
    order-down (on_side (side_at (range_key x) k) l r) k d b.0 b.1 b.2

pub heap-down : (t : Tree) (k d : ℕ) → IsHeap t → IsHeap (down t k d)
heap-down t k zero h = h
heap-down Tip k (suc d) h = h
heap-down (Bin n x l r) k (suc d) h =
    heap-down (on_side (side_at (range_key x) k) l r) k d (on-either IsHeap (side_at (range_key x) k) l r h.2 h.3)

-- and each of its nodes is one of the tree's
pub every-down : (P : ℕ → Range → Type 0) (t : Tree) (k d : ℕ) → Every P t → Every P (down t k d)
every-down P t k zero e = e
every-down P Tip k (suc d) e = e
every-down P (Bin n x l r) k (suc d) e =
    every-down P (on_side (side_at (range_key x) k) l r) k d (on-either (Every P) (side_at (range_key x) k) l r e.1 e.2)
