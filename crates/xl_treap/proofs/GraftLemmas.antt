-- Another tree n steps down a path: the ranges, the priorities and the words of the whole.
use Rattle.xl_treap.proofs.Common.{◌%◌, ◌++◌, ◌/◌, ◌<◌, ◌==◌, ◌^◌, ◌∙◌, ◌∷◌, ◌≡◌, ◌≤◌, ◌⊎◌, [], ap, append_assoc, arith, beyond, Bin, cond, cut, cut_by, down, Each, end_key, false, graft, High, In, In-left, In-right, inl, InOrder, inr, is_above, IsAt, IsHeap, link_at, List, Low, nat_lt, nat_tests, Off, on_side, Over, pick-no, pick-yes, Range, range_key, ranges, refl, resized, SameLine, SameOff, Side, side_at, subst, suc, sym, Tip, toward, Tree, true, with_child, with_range, without_range, zero, ℕ}
use Rattle.xl_treap.proofs.CutLemmas.{over-cut}
use Rattle.xl_treap.proofs.OrderLemmas.{at-side, at-with, on-either, order-In, order-side, side, side-high, side-low}
use Rattle.xl_treap.proofs.WayLemmas.{apart-sides, at-keeps, each-map, every-down, frame, node-same, off-side}

pub down-In : (y : Range) (t : Tree) (k d : ℕ) → In y (ranges (down t k d)) → In y (ranges t)
down-In y t k zero i = i
down-In y Tip k (suc d) i = i
down-In y (Bin n x l r) k (suc d) i = go (side_at (range_key x) k) (down-In y (on_side (side_at (range_key x) k) l r) k d i)
  where
    go : (s : Side) → In y (ranges (on_side s l r)) → In y (ranges l ++ x ∷ ranges r)
    go Low j = In-left y (ranges l) (x ∷ ranges r) j
    go High j = In-right y (ranges l) (x ∷ ranges r) (inr j)

-- a change of sorted ranges at a key, by its steps: ranges below the key stay in front, and ranges
-- after stay after
module _ (F : List Range → List Range) (k : ℕ) (H : List Range → Type 0)
    (in-front : (y : Range) (ys : List Range) → range_key y < k → F (y ∷ ys) ≡ y ∷ F ys)
    (following : (ls : List Range) (x : Range) (rs : List Range) → H ls → k ≤ range_key x → F (ls ++ x ∷ rs) ≡ F ls ++ x ∷ rs)
    (up : (t : Tree) (d : ℕ) → H (ranges (down t k d)) → H (ranges t)) where
  pub front-all : (ls ys : List Range) → ((z : Range) → In z ls → range_key z < k) → F (ls ++ ys) ≡ ls ++ F ys
  front-all [] ys h = refl
  front-all (x ∷ ls) ys h = in-front x (ls ++ ys) (h x (inl refl)) ∙ ap (λ zs. x ∷ zs) (front-all ls ys (λ z i. h z (inr i)))

  pub front-node : (low high n : ℕ) (x : Range) (l r : Tree) (ys : List Range) → InOrder low high (Bin n x l r) → range_key x ≤ k → F (ranges l ++ ys) ≡ ranges l ++ F ys
  front-node low high n x l r ys o le =
      front-all (ranges l) ys (λ z i. let a = order-In low (range_key x) z l o.1 i in let b = a.to_high in let c = a.fit.some in omega arith)

  pub graft-ranges : (low high : ℕ) (t s : Tree) (d : ℕ) → InOrder low high t → H (ranges (down t k d)) → ranges s ≡ F (ranges (down t k d)) → ranges (graft t k d s) ≡ F (ranges t)
  graft-ranges low high t s zero o h e = e
  graft-ranges low high Tip s (suc d) o h e = e
  graft-ranges low high (Bin n x l r) s (suc d) o h e =
      elim (side (range_key x) k) [
        | inl lt ↦
            let c : down (Bin n x l r) k (suc d) ≡ down r k d = ap (λ z. down (on_side z l r) k d) (side-high (range_key x) k lt) in
            let i = graft-ranges (end_key x) high r s d o.2 (subst (λ (t : Tree). H (ranges t)) c h) (subst (λ (t : Tree). ranges s ≡ F (ranges t)) c e) in
            ap (λ z. ranges (with_child z (Bin n x l r) (graft (on_side z l r) k d s))) (side-high (range_key x) k lt)
            ∙ ap (λ zs. ranges l ++ x ∷ zs) i
            ∙ ap (λ zs. ranges l ++ zs) (sym (in-front x (ranges r) lt))
            ∙ sym (front-node low high n x l r (x ∷ ranges r) o (omega arith))
        | inr ge ↦
            let c : down (Bin n x l r) k (suc d) ≡ down l k d = ap (λ z. down (on_side z l r) k d) (side-low (range_key x) k ge) in
            let K : Tree → Type 0 = λ t. H (ranges t) in
            let i = graft-ranges low (range_key x) l s d o.1 (subst K c h) (subst (λ (t : Tree). ranges s ≡ F (ranges t)) c e) in
            ap (λ z. ranges (with_child z (Bin n x l r) (graft (on_side z l r) k d s))) (side-low (range_key x) k ge)
            ∙ ap (λ zs. zs ++ x ∷ ranges r) i
            ∙ sym (following (ranges l) x (ranges r) (up l d (subst K c h)) ge)
      ]

-- the three changes
with-front : (new y : Range) (ys : List Range) → range_key y < range_key new → with_range new (y ∷ ys) ≡ y ∷ with_range new ys
with-front new y ys h = pick-yes (range_key y) (range_key new) _ _ h

with-following : (new : Range) (ls : List Range) (x : Range) (rs : List Range) → range_key new ≤ range_key x → with_range new (ls ++ x ∷ rs) ≡ with_range new ls ++ x ∷ rs
with-following new [] x rs h = pick-no (range_key x) (range_key new) _ _ h
with-following new (y ∷ ls) x rs h = elim (nat_lt (range_key y) (range_key new)) as (λ b. cond b (y ∷ with_range new (ls ++ x ∷ rs)) (new ∷ y ∷ (ls ++ x ∷ rs)) ≡ cond b (y ∷ with_range new ls) (new ∷ y ∷ ls) ++ x ∷ rs) [
  | true ↦ ap (λ zs. y ∷ zs) (with-following new ls x rs h)
  | false ↦ refl
]

-- one of the ranges has this key
abbrev pub Has : ℕ → List Range → Type 0
Has k xs = (y : Range) × In y xs × (range_key y ≡ k)

has-up : (k : ℕ) (t : Tree) (d : ℕ) → Has k (ranges (down t k d)) → Has k (ranges t)
has-up k t d (y, i, e) = (y, down-In y t k d i, e)

unlike : (a b : ℕ) → a < b → (a == b) ≡ false
unlike a b h = grind (arith, nat_tests)

pub alike : (a b : ℕ) → a ≡ b → (a == b) ≡ true
alike a b h = grind (arith, nat_tests)

without-front : (k : ℕ) (y : Range) (ys : List Range) → range_key y < k → without_range k (y ∷ ys) ≡ y ∷ without_range k ys
without-front k y ys h = let e : (range_key y == k) ≡ false = unlike (range_key y) k h in ap (λ b. cond b ys (y ∷ without_range k ys)) e

without-following : (k : ℕ) (ls : List Range) (x : Range) (rs : List Range) → Has k ls → without_range k (ls ++ x ∷ rs) ≡ without_range k ls ++ x ∷ rs
without-following k [] x rs h = absurd h.1
without-following k (y ∷ ls) x rs (z, i, e) =
    elim (range_key y == k) as (λ b. (range_key y == k) ≡ b → cond b (ls ++ x ∷ rs) (y ∷ without_range k (ls ++ x ∷ rs)) ≡ cond b ls (y ∷ without_range k ls) ++ x ∷ rs) [
      | true ↦ λ t. refl
      | false ↦ λ t. ap (λ zs. y ∷ zs) (without-following k ls x rs (
        z,
        elim i [
          | inl q ↦ let P : Range → Type 0 = λ w. range_key w ≡ k in let u : (range_key y == k) ≡ true = alike (range_key y) k (subst P q e) in absurd (cc)
          | inr j ↦ j
        ],
        e,
      ))
    ] refl

resized-front : (k pages : ℕ) (y : Range) (ys : List Range) → range_key y < k → resized k pages (y ∷ ys) ≡ y ∷ resized k pages ys
resized-front k pages y ys h = let e : (range_key y == k) ≡ false = unlike (range_key y) k h in ap (λ b. cond b (record y { pages = pages } ∷ ys) (y ∷ resized k pages ys)) e

resized-following : (k pages : ℕ) (ls : List Range) (x : Range) (rs : List Range) → Has k ls → resized k pages (ls ++ x ∷ rs) ≡ resized k pages ls ++ x ∷ rs
resized-following k pages [] x rs h = absurd h.1
resized-following k pages (y ∷ ls) x rs (z, i, e) =
    elim (range_key y == k) as (λ b. (range_key y == k) ≡ b → cond b (record y { pages = pages } ∷ (ls ++ x ∷ rs)) (y ∷ resized k pages (ls ++ x ∷ rs)) ≡ cond b (record y { pages = pages } ∷ ls) (y ∷ resized k pages ls) ++ x ∷ rs) [
      | true ↦ λ t. refl
      | false ↦ λ t. ap (λ zs. y ∷ zs) (resized-following k pages ls x rs (
        z,
        elim i [
          | inl q ↦ let P : Range → Type 0 = λ w. range_key w ≡ k in let u : (range_key y == k) ≡ true = alike (range_key y) k (subst P q e) in absurd (cc)
          | inr j ↦ j
        ],
        e,
      ))
    ] refl

pub without-before : (k : ℕ) (ls ys : List Range) → ((z : Range) → In z ls → range_key z < k) → without_range k (ls ++ ys) ≡ ls ++ without_range k ys
without-before k = front-all (without_range k) k (Has k) (without-front k) (λ ls x rs h le. without-following k ls x rs h) (has-up k)

pub resized-before : (k pages : ℕ) (ls ys : List Range) → ((z : Range) → In z ls → range_key z < k) → resized k pages (ls ++ ys) ≡ ls ++ resized k pages ys
resized-before k pages = front-all (resized k pages) k (Has k) (resized-front k pages) (λ ls x rs h le. resized-following k pages ls x rs h) (has-up k)

pub graft-with : (new : Range) (low high : ℕ) (t s : Tree) (d : ℕ) → InOrder low high t → ranges s ≡ with_range new (ranges (down t (range_key new) d))
    → ranges (graft t (range_key new) d s) ≡ with_range new (ranges t)
graft-with new low high t s d o e =
    graft-ranges (with_range new) (range_key new) (λ xs. Unit {0}) (with-front new) (λ ls x rs h le. with-following new ls x rs le) (λ t d h. h) low high t s d o tt e

pub graft-without : (k low high : ℕ) (t s : Tree) (d : ℕ) → InOrder low high t → Has k (ranges (down t k d)) → ranges s ≡ without_range k (ranges (down t k d))
    → ranges (graft t k d s) ≡ without_range k (ranges t)
graft-without k low high t s d o h e =
    graft-ranges (without_range k) k (Has k) (without-front k) (λ ls x rs h le. without-following k ls x rs h) (has-up k) low high t s d o h e

pub graft-resized : (k pages low high : ℕ) (t s : Tree) (d : ℕ) → InOrder low high t → Has k (ranges (down t k d)) → ranges s ≡ resized k pages (ranges (down t k d))
    → ranges (graft t k d s) ≡ resized k pages (ranges t)
graft-resized k pages low high t s d o h e =
    graft-ranges (resized k pages) k (Has k) (resized-front k pages) (λ ls x rs h le. resized-following k pages ls x rs h) (has-up k) low high t s d o h e

-- a tree cut at a new range's key, with the range between its parts
pub cut-with : (new : Range) (low high : ℕ) (t : Tree) → InOrder low high t → ranges (cut Low (range_key new) t) ++ new ∷ ranges (cut High (range_key new) t) ≡ with_range new (ranges t)
cut-with new low high Tip o = refl
cut-with new low high (Bin n x l r) o =
    let k : ℕ = range_key new in
    let P : Side → List Range = λ c. ranges (cut_by Low c n x l r (cut Low k l) (cut Low k r)) ++ new ∷ ranges (cut_by High c n x l r (cut High k l) (cut High k r)) in
    elim (side (range_key x) k) [
      | inl lt ↦
          ap P (side-high (range_key x) k lt)
          ∙ append_assoc (ranges l) (x ∷ ranges (cut Low k r)) (new ∷ ranges (cut High k r))
          ∙ ap (λ zs. ranges l ++ x ∷ zs) (cut-with new (end_key x) high r o.2)
          ∙ ap (λ zs. ranges l ++ zs) (sym (with-front new x (ranges r) lt))
          ∙ sym (front-node (with_range new) k (λ xs. Unit {0}) (with-front new) (λ ls x rs h le. with-following new ls x rs le) (λ t d h. h) low high n x l r (x ∷ ranges r) o (omega arith))
      | inr ge ↦
          ap P (side-low (range_key x) k ge)
          ∙ sym (append_assoc (ranges (cut Low k l)) (new ∷ ranges (cut High k l)) (x ∷ ranges r))
          ∙ ap (λ zs. zs ++ x ∷ ranges r) (cut-with new low (range_key x) l o.1)
          ∙ sym (with-following new (ranges l) x (ranges r) ge)
    ]

-- priorities: a heap with another one on a side of its top, under which each key of the top and each
-- above it is
pub heap-with : (c : Side) (n : ℕ) (x : Range) (l r u : Tree) → IsHeap (Bin n x l r) → IsHeap u
    → ((y : ℕ) → (range_key x ≡ y) ⊎ (is_above y (range_key x) ≡ true) → Over y (on_side c l r) → Over y u)
    → IsHeap (with_child c (Bin n x l r) u) × ((y : ℕ) → Over y (Bin n x l r) → Over y (with_child c (Bin n x l r) u))
heap-with Low n x l r u (o, p, a, b) g f = ((f (range_key x) (inl refl) o, p, g, b), λ y q. (q.0, f y (inr q.0) q.1, q.2))
heap-with High n x l r u (o, p, a, b) g f = ((o, f (range_key x) (inl refl) p, a, g), λ y q. (q.0, q.1, f y (inr q.0) q.2))

pub heap-graft : (t s : Tree) (k d : ℕ) → IsHeap t → IsHeap s → ((y : ℕ) → Over y (down t k d) → Over y s) → IsHeap (graft t k d s) × ((y : ℕ) → Over y t → Over y (graft t k d s))
heap-graft t s k zero h g f = (g, f)
heap-graft Tip s k (suc d) h g f = (g, f)
heap-graft (Bin n x l r) s k (suc d) h g f =
    let c : Side = side_at (range_key x) k in
    let i = heap-graft (on_side c l r) s k d (on-either IsHeap c l r h.2 h.3) g f in
    heap-with c n x l r (graft (on_side c l r) k d s) h i.0 (λ y e. i.1 y)

pub heap-cut : (s : Side) (k : ℕ) (t : Tree) → IsHeap t → IsHeap (cut s k t)
heap-cut s k Tip h = tt
heap-cut s k (Bin n x l r) (o, p, a, b) = go s (side_at (range_key x) k) (heap-cut s k l a) (heap-cut s k r b)
  where
    go : (s c : Side) → IsHeap (cut s k l) → IsHeap (cut s k r) → IsHeap (cut_by s c n x l r (cut s k l) (cut s k r))
    go Low Low u v = u
    go Low High u v = (o, over-cut (range_key x) Low k r p, a, v)
    go High Low u v = (over-cut (range_key x) High k l o, p, u, b)
    go High High u v = v

-- a graft one step further down
pub graft-next : (t s : Tree) (k d : ℕ) → graft t k d (with_child (toward k (down t k d)) (down t k d) s) ≡ graft t k (suc d) s
graft-next Tip s k zero = refl
graft-next Tip s k (suc d) = refl
graft-next (Bin n x l r) s k zero = refl
graft-next (Bin n x l r) s k (suc d) =
    ap (with_child (side_at (range_key x) k) (Bin n x l r)) (graft-next (on_side (side_at (range_key x) k) l r) s k d)

-- a link leads to one tree's top
same-link : (words : List ℕ) (a b : ℕ) (t : Tree) → IsAt words a t → IsAt words b t → a ≡ b
same-link words a b Tip i j = i ∙ sym j
same-link words a b (Bin n x l r) i j = i.0 ∙ sym j.0

pub off-down : (t : Tree) (k d : ℕ) (old new : List ℕ) → SameOff (down t k d) old new → SameOff t old new
off-down t k d old new s = record { len = s.len; same = λ m o. s.same m (every-down (λ n y. n ≡ m → ⊥) t k d o) }

-- what is under a link is another tree now, and all above it stays
pub lift : (base new : List ℕ) (low high at a k d : ℕ) (t s : Tree) → IsAt base at t → InOrder low high t → IsAt base a (down t k d) → SameOff (down t k d) base new → IsAt new a s
    → IsAt new at (graft t k d s)
lift base new low high at a k zero t s i o j so u = let A : ℕ → Type 0 = λ z. IsAt new z s in subst A (same-link base a at t j i) u
lift base new low high at a k (suc d) Tip s i o j so u = let A : ℕ → Type 0 = λ z. IsAt new z s in subst A (same-link base a at Tip j i) u
lift base new low high at a k (suc d) (Bin n x l r) s i o j so u =
    let c : Side = side_at (range_key x) k in
    let keep = at-keeps base at (Bin n x l r) i in
    let b = order-side c low high n x l r o in
    let line : SameLine base new n = so.same n (every-down (λ m y. m ≡ n → ⊥) (on_side c l r) k d (off-side base n low high x l r keep o c)) in
    let stay : Each (SameLine base new) (on_side (beyond c) l r) =
    each-map (λ m. Off m (on_side c l r)) (SameLine base new) (on_side (beyond c) l r) (λ m f. so.same m (every-down (λ n y. n ≡ m → ⊥) (on_side c l r) k d f))
    (apart-sides base n low high x l r keep o c) in
    let N : ℕ → Type 0 = λ z. IsAt new (on_side c (z % 2 ^ 32) (z / 2 ^ 32)) (graft (on_side c l r) k d s) in
    let F : ℕ → Type 0 = λ z. IsAt new (on_side (beyond c) (z % 2 ^ 32) (z / 2 ^ 32)) (on_side (beyond c) l r) in
    let A : ℕ → Type 0 = λ z. IsAt new z (with_child c (Bin n x l r) (graft (on_side c l r) k d s)) in
    subst A (sym i.0) (at-with c new n x l r (graft (on_side c l r) k d s) (node-same base new n x so.len (λ m f. line m (omega arith)) i.1)
    (subst N (sym (line 3 (omega arith))) (lift base new b.0 b.1 (link_at c base n) a k d (on_side c l r) s (at-side c base at n x l r i) b.2 j so u))
    (subst F (sym (line 3 (omega arith))) (frame base new (link_at (beyond c) base n) (on_side (beyond c) l r) so.len stay (at-side (beyond c) base at n x l r i))))
