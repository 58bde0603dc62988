-- The calls that cut a leaf out of a held range make the cut list, and what they ask for.
use Rattle.xl_range.proofs.Common.{◌+◌, ◌-◌, ◌<◌, ◌==◌, ◌∙◌, ◌∷◌, ◌≡◌, ◌≤◌, [], ap, arith, before_on, Bool, cut, end_key, false, following_on, has_key, In, inl, inr, IsApart, IsHeld, IsInside, IsLeafIn, keeping, kept_cut, kept_following, length, List, list_any, nat_le, nat_lt, nat_tests, Order, pages_before, pages_following, pages_of, part_following, Range, range_key, refl, resized, some_if, subst, suc, sym, TreapView, true, with-length, with_range, without_range, zero, ℕ}
use Rattle.xl_range.proofs.CutCountLemmas.{cut-count}
use Rattle.xl_range.proofs.CutLemmas.{head-cut, held-cut, next-cut, own-key}
use Rattle.xl_range.proofs.HoldLemmas.{apart-held, apart-resized, fit-range, key-there, with-front}
use Rattle.xl_range.proofs.LeafInLemmas.{Sizes, sizes}
use Rattle.xl_range.proofs.TouchLemmas.{In-key, In-range, some-pages}

following-cons : (n : ℕ) (x r : Range) (rs : List Range) → range_key r < range_key x → kept_following n x (r ∷ rs) ≡ r ∷ kept_following n x rs
following-cons zero x r rs less = refl
following-cons (suc n) x r rs less = let a : nat_lt (range_key r) (range_key x) ≡ true = grind (arith, nat_tests) in rw a refl

-- the calls make the pieces
following-front : (n low : ℕ) (x : Range) (rs : List Range) → IsHeld low rs → range_key x ≤ low → kept_following n x rs ≡ following_on n x rs
following-front zero low x rs h le = refl
following-front (suc n) low x rs h le = with-front low x rs h le

cut-cons : (n m : ℕ) (y r x : Range) (rs : List Range) → range_key y < range_key r → range_key r < range_key x
    → kept_following m x (kept_cut n (range_key r) (y ∷ rs)) ≡ y ∷ kept_following m x (kept_cut n (range_key r) rs)
cut-cons zero m y r x rs less more = let a : (range_key y == range_key r) ≡ false = grind (arith, nat_tests) in rw a (following-cons m x y (without_range (range_key r) rs) (omega arith))
cut-cons (suc n) m y r x rs less more = let a : (range_key y == range_key r) ≡ false = grind (arith, nat_tests) in rw a (following-cons m x y (resized (range_key r) (suc n) rs) (omega arith))

cut-front : (n m low : ℕ) (r x : Range) (rs : List Range) → IsHeld low rs → range_key x ≤ low → range_key r < range_key x
    → kept_following m x (kept_cut n (range_key r) (r ∷ rs)) ≡ before_on n r (following_on m x rs)
cut-front zero m low r x rs h le less = rw (own-key r) (following-front m low x rs h le)
cut-front (suc n) m low r x rs h le less =
    let cons : kept_following m x (record r { pages = suc n } ∷ rs) ≡ record r { pages = suc n } ∷ kept_following m x rs = following-cons m x (record r { pages = suc n }) rs less in
    rw (own-key r) (cons ∙ ap (λ (ys : List Range). record r { pages = suc n } ∷ ys) (following-front m low x rs h le))

pub following-room : (n : ℕ) (x : Range) (rs : List Range) (nodes : ℕ) → 0 < n → length (kept_following n x rs) ≤ nodes → length rs ≡ nodes → ⊥
following-room zero x rs nodes some h full = absurd (omega arith)
following-room (suc n) x rs nodes some h full = let a : length (with_range x rs) ≡ suc (length rs) = with-length x rs in omega arith

-- The calls make the cut list.
pub cut-calls : (space first : ℕ) (o : Order) (low : ℕ) (r : Range) (rs : List Range) (i : IsLeafIn space first o r) → IsHeld low rs → In r rs
    → kept_following (pages_following first o r) (part_following first o r) (kept_cut (pages_before first r) (range_key r) rs) ≡ cut first o r rs
cut-calls space first o low r [] i h m = absurd m
cut-calls space first o low r (y ∷ rs) i (above, is, stops, rest) (inl e) =
    let s : Sizes first o r i.before i.following = sizes space first o r i in
    let from = s.from in
    let to = s.to in
    let some = s.some in
    let held : IsHeld (end_key r) rs = subst (λ (z : Range). IsHeld (end_key z) rs) (sym e) rest in
    let F : Range → Type 0 = λ z. kept_following (pages_following first o r) (part_following first o r) (kept_cut (pages_before first r) (range_key r) (z ∷ rs)) ≡ cut first o r (z ∷ rs) in
    subst F e (cut-front (pages_before first r) (pages_following first o r) (end_key r) r (part_following first o r) rs held (omega arith) (omega arith) ∙ sym (head-cut first o r rs))
cut-calls space first o low r (y ∷ rs) i (above, is, stops, rest) (inr m) =
    let s : Sizes first o r i.before i.following = sizes space first o r i in
    let from = s.from in
    let some = s.some in
    let pages : 0 < y.pages = some-pages y is in
    let key : end_key y ≤ range_key r = In-key (end_key y) r rs rest m in
    cut-cons (pages_before first r) (pages_following first o r) y r (part_following first o r) rs (omega arith) (omega arith)
    ∙ ap (λ (ys : List Range). y ∷ ys) (cut-calls space first o (end_key y) r rs i rest m)
    ∙ sym (next-cut first o y r rs (omega arith))

-- What the calls of a cut ask for.
pub record CanCut (first : ℕ) (o : Order) (r : Range) (rs : List Range) : Type 0 where
  pub inside : IsInside first o r
  pub there : list_any (has_key (range_key r)) rs ≡ true
  pub shorter : 0 < pages_before first r → IsApart 0 (resized (range_key r) (pages_before first r) rs)
  pub apart : IsApart 0 (cut first o r rs)
  pub calls : kept_following (pages_following first o r) (part_following first o r) (kept_cut (pages_before first r) (range_key r) rs) ≡ cut first o r rs

pub can-cut : (space first : ℕ) (o : Order) (r : Range) (rs : List Range) → IsHeld 0 rs → In r rs → IsLeafIn space first o r → CanCut first o r rs
can-cut space first o r rs h m i =
    let s : Sizes first o r i.before i.following = sizes space first o r i in
    let from = s.from in
    let to = s.to in
    record {
      inside = record { fit = fit-range r (In-range 0 r rs h m); from = s.from; to = s.to };
      there = key-there r rs m;
      shorter = λ some. apart-resized (pages_before first r) 0 r rs h m some (omega arith);
      apart = apart-held 0 (cut first o r rs) (held-cut space first o 0 r rs i h m);
      calls = cut-calls space first o 0 r rs i h m;
    }

-- The treap's calls, with the pages of the order as a number of its own.
pub put-calls : (first p : ℕ) (o : Order) (r : Range) (old new : TreapView) → p ≡ pages_of o → new ≡ keeping old (kept_cut (first - r.start) (range_key r) old.kept) → CanCut first o r old.kept
    → kept_following (r.start + r.pages - (first + p)) (record r { start = first + p; pages = r.start + r.pages - (first + p); frame = r.frame + (first + p - r.start) }) new.kept ≡ cut first o r old.kept
put-calls first p o r old new e is k =
    ap (λ (q : ℕ). kept_following (r.start + r.pages - (first + q)) (record r { start = first + q; pages = r.start + r.pages - (first + q); frame = r.frame + (first + q - r.start) }) new.kept) e
    ∙ ap (λ (t : TreapView). kept_following (pages_following first o r) (part_following first o r) t.kept) is ∙ k.calls

-- The test of room says whether the cut list is short enough.
pub test-cut : (n len before following : ℕ) (first : ℕ) (o : Order) (r : Range) (rs : List Range) (result : Bool) → In r rs → result ≡ nat_le (len + (some_if before + some_if following)) (n + 1)
    → len ≡ length rs → before ≡ pages_before first r → following ≡ pages_following first o r → result ≡ nat_le (length (cut first o r rs)) n
test-cut n len before following first o r rs result m e l b d =
    let count : suc (length (cut first o r rs)) ≡ length rs + (some_if (pages_before first r) + some_if (pages_following first o r)) = cut-count first o r rs m in
    let x : some_if before ≡ some_if (pages_before first r) = ap some_if b in
    let y : some_if following ≡ some_if (pages_following first o r) = ap some_if d in
    e ∙ same (len + (some_if before + some_if following)) (length (cut first o r rs)) n (omega arith)
  where
    same : (a b n : ℕ) → a ≡ suc b → nat_le a (n + 1) ≡ nat_le b n
    same a b n e = grind (arith, nat_tests)
