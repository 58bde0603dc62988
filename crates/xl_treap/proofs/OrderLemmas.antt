-- The two sides of a node, and ranges in order, as lists and as trees.
use Rattle.xl_treap.proofs.Common.{◌++◌, ◌+◌, ◌<◌, ◌^◌, ◌∷◌, ◌≡◌, ◌≤◌, ◌⊎◌, [], arith, beyond, Bin, end_key, false, High, In, inl, InOrder, inr, IsApart, IsAt, IsFit, IsHung, IsNode, length, length-append, link_at, List, Low, nat_lt, nat_tests, on_side, pick-no, pick-yes, Range, range_key, ranges, refl, Side, side_at, subst, suc, sym, Tip, Tree, true, with_child, ℕ}

pub side-low : (own k : ℕ) → k ≤ own → side_at own k ≡ Low
side-low own k h = pick-no own k High Low h

pub side-high : (own k : ℕ) → own < k → side_at own k ≡ High
side-high own k h = pick-yes own k High Low h

pub on-either : (P : Tree → Type 0) (s : Side) (l r : Tree) → P l → P r → P (on_side s l r)
on-either P Low l r a b = a
on-either P High l r a b = b

pub order-side : (s : Side) (low high n : ℕ) (x : Range) (l r : Tree) → InOrder low high (Bin n x l r) → (a : ℕ) × (b : ℕ) × InOrder a b (on_side s l r)
order-side Low low high n x l r o = (low, range_key x, o.1)
order-side High low high n x l r o = (end_key x, high, o.2)

-- the links of a node in words
pub at-side : (s : Side) (words : List ℕ) (at n : ℕ) (x : Range) (l r : Tree) → IsAt words at (Bin n x l r) → IsAt words (link_at s words n) (on_side s l r)
at-side Low words at n x l r i = i.2
at-side High words at n x l r i = i.3

pub at-with : (s : Side) (words : List ℕ) (n : ℕ) (x : Range) (l r u : Tree) → IsNode words n x → IsAt words (link_at s words n) u
    → IsAt words (link_at (beyond s) words n) (on_side (beyond s) l r) → IsAt words (suc n) (with_child s (Bin n x l r) u)
at-with Low words n x l r u i a b = (refl, i, a, b)
at-with High words n x l r u i a b = (refl, i, b, a)

pub hung-links : (s : Side) (old new : List ℕ) (n at : ℕ) → IsHung old new n s at → (link_at s new n ≡ at) × (link_at (beyond s) new n ≡ link_at (beyond s) old n)
hung-links Low old new n at h = (h.low_is, h.high_is)
hung-links High old new n at h = (h.high_is, h.low_is)

-- which of two numbers is the lesser
pub side : (m n : ℕ) → (m < n) ⊎ (n ≤ m)
side m n = elim (nat_lt m n) as (λ b. nat_lt m n ≡ b → (m < n) ⊎ (n ≤ m)) [
  | true ↦ λ e. inl (grind (arith, nat_tests))
  | false ↦ λ e. inr (grind (arith, nat_tests))
] refl

-- ranges between two keys, sorted, none over another
abbrev pub Within : ℕ → ℕ → List Range → Type 0
Within low high [] = low ≤ high
Within low high (r ∷ rs) = (low ≤ range_key r) × IsFit r × Within (end_key r) high rs

pub fit-end : (r : Range) → IsFit r → end_key r ≤ 2 ^ 58
fit-end r f = let a = f.space_in in let b = f.pages_in in omega arith

pub apart-within : (low : ℕ) (xs : List Range) → low ≤ 2 ^ 58 → IsApart low xs → Within low (2 ^ 58) xs
apart-within low [] h a = h
apart-within low (x ∷ xs) h (a, f, b) = (a, f, apart-within (end_key x) xs (fit-end x f) b)

pub within-le : (low high : ℕ) (xs : List Range) → Within low high xs → low ≤ high
within-le low high [] h = h
within-le low high (x ∷ xs) (a, f, b) = let c = within-le (end_key x) high xs b in let d = f.some in omega arith

-- the parts before a range and after it
pub within-split : (low high : ℕ) (ls : List Range) (x : Range) (rs : List Range) → Within low high (ls ++ x ∷ rs) → Within low (range_key x) ls × IsFit x × Within (end_key x) high rs
within-split low high [] x rs (a, f, b) = (a, f, b)
within-split low high (y ∷ ls) x rs (a, f, b) = let k = within-split (end_key y) high ls x rs b in ((a, f, k.0), k.1, k.2)

pub within-join : (low high : ℕ) (ls : List Range) (x : Range) (rs : List Range) → Within low (range_key x) ls → IsFit x → Within (end_key x) high rs → Within low high (ls ++ x ∷ rs)
within-join low high [] x rs a f b = (a, f, b)
within-join low high (y ∷ ls) x rs (a, g, k) f b = (a, g, within-join (end_key y) high ls x rs k f b)

pub order-of : (low high : ℕ) (t : Tree) → Within low high (ranges t) → InOrder low high t
order-of low high Tip h = h
order-of low high (Bin n x l r) h =
    let k = within-split low high (ranges l) x (ranges r) h in
    (k.1, order-of low (range_key x) l k.0, order-of (end_key x) high r k.2)

pub of-order : (low high : ℕ) (t : Tree) → InOrder low high t → Within low high (ranges t)
of-order low high Tip h = h
of-order low high (Bin n x l r) (f, a, b) = within-join low high (ranges l) x (ranges r) (of-order low (range_key x) l a) f (of-order (end_key x) high r b)

pub order-le : (low high : ℕ) (t : Tree) → InOrder low high t → low ≤ high
order-le low high t h = within-le low high (ranges t) (of-order low high t h)

pub order-apart : (t : Tree) → IsApart 0 (ranges t) → InOrder 0 (2 ^ 58) t
order-apart t h = order-of 0 (2 ^ 58) t (apart-within 0 (ranges t) (omega arith) h)

-- a range between two keys
pub record Lies (low high : ℕ) (y : Range) : Type 0 where
  pub from_low : low ≤ range_key y
  pub to_high : end_key y ≤ high
  pub fit : IsFit y

pub within-In : (low high : ℕ) (y : Range) (xs : List Range) → Within low high xs → In y xs → Lies low high y
within-In low high y [] h i = absurd i
within-In low high y (x ∷ xs) (a, f, b) (inl e) =
    let c : end_key x ≤ high = within-le (end_key x) high xs b in
    subst (Lies low high) (sym e) (record { from_low = a; to_high = c; fit = f })
within-In low high y (x ∷ xs) (a, f, b) (inr i) =
    let k = within-In (end_key x) high y xs b i in
    let c = k.from_low in let d = f.some in
    record { from_low = omega arith; to_high = k.to_high; fit = k.fit }

pub order-In : (low high : ℕ) (y : Range) (t : Tree) → InOrder low high t → In y (ranges t) → Lies low high y
order-In low high y t h i = within-In low high y (ranges t) (of-order low high t h) i

-- wider bounds
pub within-wider : (low high down up : ℕ) (xs : List Range) → Within low high xs → down ≤ low → high ≤ up → Within down up xs
within-wider low high down up [] h a b = omega arith
within-wider low high down up (x ∷ xs) (c, f, d) a b = (omega arith, f, within-wider (end_key x) high (end_key x) up xs d (omega arith) b)

pub order-wider : (low high down up : ℕ) (t : Tree) → InOrder low high t → down ≤ low → high ≤ up → InOrder down up t
order-wider low high down up t h a b = order-of down up t (within-wider low high down up (ranges t) (of-order low high t h) a b)

pub sizes : (n : ℕ) (x : Range) (l r : Tree) → length (ranges (Bin n x l r)) ≡ length (ranges l) + suc (length (ranges r))
sizes n x l r = length-append (ranges l) (x ∷ ranges r)
