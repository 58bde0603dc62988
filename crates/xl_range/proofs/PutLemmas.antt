-- The calls that put a range among its neighbours make the joined list.
use Rattle.xl_range.proofs.Common.{◌+◌, ◌<◌, ◌==◌, ◌∙◌, ◌∷◌, ◌≡◌, ◌≤◌, [], ap, arith, Bool, cond, end_key, false, first_from, glue, grown, inl, inr, IsApart, IsClear, IsHeld, IsRange, IsThere, join, kept_put, kept_taken, last_below, last_or, length, List, nat_le, nat_lt, nat_tests, next_of, next_where, None, of_space, one_if, Option, prev_of, prev_where, put_by, Range, range_key, range_taken, refl, resized, resized-length, Some, subst, suc, sym, touches, true, with-length, with_range, without_range, ℕ}
use Rattle.xl_range.proofs.CutLemmas.{own-key}
use Rattle.xl_range.proofs.HoldLemmas.{apart-held, length-without, with-front}
use Rattle.xl_range.proofs.NeighbourLemmas.{by-option, can-put, CanPut, first-next, IsNext, IsPrev, last-prev, next-space, next-there, prev-space}
use Rattle.xl_range.proofs.TouchLemmas.{grown-touches, held-following, held-join, not-touching, some-pages, Touch, touch, touch-key}

-- neighbours after a first range
pub Past : Range → Option Range → Type 0
Past r None = Unit {0}
Past r (Some q) = range_key r < range_key q

put-cons : (next prev : Option Range) (x r : Range) (rs : List Range) → Past r next → Past r prev → range_key r < range_key x
    → put_by next prev x (r ∷ rs) ≡ r ∷ put_by next prev x rs
unfolding Past
put-cons None None x r rs n p less =
    let a : nat_lt (range_key r) (range_key x) ≡ true = grind (arith, nat_tests) in rw a refl
put-cons None (Some p) x r rs n above less =
    let a : (range_key r == range_key p) ≡ false = grind (arith, nat_tests) in rw a refl
put-cons (Some q) None x r rs n p less =
    let a : nat_lt (range_key r) (range_key x) ≡ true = grind (arith, nat_tests) in
    let b : (range_key r == range_key q) ≡ false = grind (arith, nat_tests) in rw (b, a) refl
put-cons (Some q) (Some p) x r rs n above less =
    let a : (range_key r == range_key p) ≡ false = grind (arith, nat_tests) in
    let b : (range_key r == range_key q) ≡ false = grind (arith, nat_tests) in rw (b, a) refl

past-next : (r x : Range) (o : Option Range) → ((q : Range) → o ≡ Some q → range_key r < range_key q) → Past r (next_where (of_space x.space o) x)
unfolding Past
past-next r x None h = tt
past-next r x (Some q) h =
    elim (q.space == x.space) as (λ b. Past r (next_where (cond b (Some q) None) x)) [
      | true ↦ elim (touches x q) as (λ b. Past r (cond b (Some q) None)) [ true ↦ h q refl | false ↦ tt ]
      | false ↦ tt
    ]

past-prev : (r x : Range) (o : Option Range) → ((q : Range) → o ≡ Some q → range_key r < range_key q) → Past r (prev_where (of_space x.space o) x)
unfolding Past
past-prev r x None h = tt
past-prev r x (Some q) h =
    elim (q.space == x.space) as (λ b. Past r (prev_where (cond b (Some q) None) x)) [
      | true ↦ elim (touches q x) as (λ b. Past r (cond b (Some q) None)) [ true ↦ h q refl | false ↦ tt ]
      | false ↦ tt
    ]

-- in front of all
put-front : (low : ℕ) (x r : Range) (rs : List Range) → IsHeld low (r ∷ rs) → range_key x ≤ range_key r → put_by (next_where (Some r) x) None x (r ∷ rs) ≡ glue x (r ∷ rs)
put-front low x r rs (above, is, stops, rest) le =
    let not_less : nat_lt (range_key r) (range_key x) ≡ false = grind (arith, nat_tests) in
    elim (touches x r) as (λ b. kept_put None (range_taken (cond b (Some r) None) x) (kept_taken (cond b (Some r) None) (r ∷ rs)) ≡ cond b (grown x r ∷ rs) (x ∷ r ∷ rs)) [
      | true ↦ rw (own-key r) (with-front (end_key r) (grown x r) rs rest (omega arith))
      | false ↦ rw not_less refl
    ]

-- after a range that it touches
put-touch : (x r : Range) (rs : List Range) → Touch r x → 0 < r.pages → 0 < x.pages → IsHeld (end_key x) rs → put_by (next_of x rs) (Some r) x (r ∷ rs) ≡ glue (grown r x) rs
put-touch x r [] k some more h = rw (own-key r) refl
put-touch x r (s ∷ ss) k some more (above, is, stops, rest) =
    let key : end_key r ≡ range_key x = touch-key r x k in
    let from : nat_lt (range_key s) (range_key x) ≡ false = grind (arith, nat_tests) in
    let apart : (range_key r == range_key s) ≡ false = grind (arith, nat_tests) in
    let ends : touches (grown r x) s ≡ touches x s = grown-touches r x s k in
    let sums : r.pages + (x.pages + s.pages) ≡ r.pages + x.pages + s.pages = omega arith in
    let G : Option Range → Type 0 = λ o. kept_put (Some r) (range_taken o x) (kept_taken o (r ∷ s ∷ ss)) ≡ glue (grown r x) (s ∷ ss) in
    let body : G (next_where (Some s) x) =
    rw ends (elim (touches x s) as (λ b. kept_put (Some r) (range_taken (cond b (Some s) None) x) (kept_taken (cond b (Some s) None) (r ∷ s ∷ ss)) ≡ cond b (grown (grown r x) s ∷ ss) (grown r x ∷ s ∷ ss)) [
      | true ↦ rw (apart, own-key s, own-key r) (ap (λ (n : ℕ). record r { pages = n } ∷ ss) sums)
      | false ↦ rw (own-key r) refl
    ]) in
    let first : first_from (range_key x) (s ∷ ss) ≡ Some s = rw from refl in
    subst G (sym (ap (λ (o : Option Range). next_where (of_space x.space o) x) first ∙ next-space x s)) body

pub put-join : (low : ℕ) (x : Range) (rs : List Range) → IsHeld low rs → IsRange x → IsClear x rs → put_by (next_of x rs) (prev_of x rs) x rs ≡ join x rs
unfolding join
put-join low x [] h is clear = refl
put-join low x (r ∷ rs) (above, also, stops, rest) is (apart, clear) =
    let k : ℕ = range_key x in
    let next : Option Range = next_of x rs in
    let some : 0 < x.pages = some-pages x is in
    let r_some : 0 < r.pages = some-pages r also in
    let tail : put_by next (prev_of x rs) x rs ≡ join x rs = put-join (end_key r) x rs rest is clear in
    let next_past : Past r next = past-next r x (first_from k rs) (λ q e. let n : IsNext (end_key r) k q rs = first-next (end_key r) k rs q rest e in let l = n.low_in in omega arith) in
    let prev_past : Past r (prev_of x rs) = past-prev r x (last_below k rs) (λ q e. let n : IsPrev (end_key r) k q rs = last-prev (end_key r) k rs q rest e in let l = n.low_in in omega arith) in
    elim (nat_lt (range_key r) k) as (λ b. nat_lt (range_key r) k ≡ b
    → put_by (next_where (of_space x.space (cond b (first_from k rs) (Some r))) x) (prev_where (of_space x.space (cond b (Some (last_or r (last_below k rs))) None)) x) x (r ∷ rs)
    ≡ cond b (cond (touches r x) (glue (grown r x) rs) (r ∷ join x rs)) (glue x (r ∷ rs))) [
      | true ↦ λ t.
          let less : range_key r < k = grind (arith, nat_tests) in
          let ends : end_key r ≤ k = elim apart [ inl a ↦ a | inr b ↦ omega arith ] in
          let G : Option Range → Type 0 = λ o. put_by next (prev_where (of_space x.space (Some (last_or r o))) x) x (r ∷ rs) ≡ cond (touches r x) (glue (grown r x) rs) (r ∷ join x rs) in
          let cons : put_by next (prev_of x rs) x (r ∷ rs) ≡ r ∷ join x rs = put-cons next (prev_of x rs) x r rs next_past prev_past less ∙ ap (λ (ys : List Range). r ∷ ys) tail in
          let none : last_below k rs ≡ None → G None = λ e.
          let H : Option Range → Type 0 = λ o. put_by next o x (r ∷ rs) ≡ cond (touches r x) (glue (grown r x) rs) (r ∷ join x rs) in
          let no_prev : prev_of x rs ≡ None = ap (λ (o : Option Range). prev_where (of_space x.space o) x) e in
          let body : H (prev_where (Some r) x) =
          elim (touches r x) as (λ b. touches r x ≡ b → put_by next (cond b (Some r) None) x (r ∷ rs) ≡ cond b (glue (grown r x) rs) (r ∷ join x rs)) [
            | true ↦ λ u.
                let h : Touch r x = touch r x u in
                let f : end_key r ≡ k = touch-key r x h in
                put-touch x r rs h r_some some (held-following (end_key r) x rs rest clear (omega arith))
            | false ↦ λ u. ap (λ (o : Option Range). put_by next o x (r ∷ rs)) (sym no_prev) ∙ cons
          ] refl in
          subst H (sym (prev-space x r)) body
          in
          let found : (z : Range) → last_below k rs ≡ Some z → G (Some z) = λ z e.
          let n : IsPrev (end_key r) k z rs = last-prev (end_key r) k rs z rest e in
          let l = n.low_in in
          let m = n.below in
          let apart_ends : touches r x ≡ false = not-touching r x (λ u. let f : end_key r ≡ k = touch-key r x (touch r x u) in omega arith) in
          let same : prev_where (of_space x.space (Some z)) x ≡ prev_of x rs = ap (λ (o : Option Range). prev_where (of_space x.space o) x) (sym e) in
          rw apart_ends (ap (λ (o : Option Range). put_by next o x (r ∷ rs)) same ∙ cons)
          in
          by-option G (last_below k rs) none found
      | false ↦ λ t.
          let le : k ≤ range_key r = grind (arith, nat_tests) in
          ap (λ (o : Option Range). put_by o None x (r ∷ rs)) (next-space x r) ∙ put-front low x r rs (above, also, stops, rest) le
    ] refl

pub put-length : (next prev : Option Range) (x : Range) (rs : List Range) → IsThere next rs → length (put_by next prev x rs) + (one_if next + one_if prev) ≡ suc (length rs)
put-length None None x rs t = let a : length (with_range x rs) ≡ suc (length rs) = with-length x rs in omega arith
put-length None (Some p) x rs t = let a : length (resized (range_key p) (p.pages + x.pages) rs) ≡ length rs = resized-length (range_key p) (p.pages + x.pages) rs in omega arith
put-length (Some q) None x rs t =
    let a : length (with_range (grown x q) (without_range (range_key q) rs)) ≡ suc (length (without_range (range_key q) rs)) = with-length (grown x q) (without_range (range_key q) rs) in
    let b : suc (length (without_range (range_key q) rs)) ≡ length rs = length-without (range_key q) rs t in
    omega arith
put-length (Some q) (Some p) x rs t =
    let a : length (resized (range_key p) (p.pages + (x.pages + q.pages)) (without_range (range_key q) rs)) ≡ length (without_range (range_key q) rs) = resized-length (range_key p) (p.pages + (x.pages + q.pages)) (without_range (range_key q) rs) in
    let b : suc (length (without_range (range_key q) rs)) ≡ length rs = length-without (range_key q) rs t in
    omega arith

-- a list with a range more than a full treap holds
pub no-room : (prev : Option Range) (x : Range) (rs : List Range) (nodes : ℕ) → prev ≡ None → length (kept_put prev x rs) ≤ nodes → length rs ≡ nodes → ⊥
no-room None x rs nodes e h full = let a : length (with_range x rs) ≡ suc (length rs) = with-length x rs in omega arith
no-room (Some p) x rs nodes e h full = absurd (cc)

pub test-is : (n held len count joined : ℕ) (result : Bool) → result ≡ nat_le (len + 1) (n + joined) → len ≡ held → count + joined ≡ suc held → result ≡ nat_le count n
test-is n held len count joined result e l s = e ∙ (grind (arith, nat_tests))

pub few-test : (count n : ℕ) → nat_le count n ≡ true → count ≤ n
few-test count n t = grind (arith, nat_tests)

-- What the calls that put a leaf's range in ask for, and what comes of them.
pub record IsReady (x : Range) (rs : List Range) (y : Range) (next prev : Option Range) : Type 0 where
  pub can : CanPut next prev y rs
  pub same : put_by next prev y rs ≡ join x rs
  pub apart : IsApart 0 (put_by next prev y rs)
  pub count : length (join x rs) + (one_if next + one_if prev) ≡ suc (length rs)

pub ready : (x : Range) (rs : List Range) (y : Range) (next prev : Option Range) → IsHeld 0 rs → IsRange x → IsClear x rs
    → y ≡ x → next ≡ next_of y rs → prev ≡ prev_of y rs → IsReady x rs y next prev
ready x rs y next prev h is clear ex en ep =
    let all : put_by next prev y rs ≡ put_by (next_of x rs) (prev_of x rs) x rs =
    ap (λ (m : Option Range). put_by m prev y rs) en ∙ ap (λ (p : Option Range). put_by (next_of y rs) p y rs) ep ∙ ap (λ (z : Range). put_by (next_of z rs) (prev_of z rs) z rs) ex in
    let same : put_by next prev y rs ≡ join x rs = all ∙ put-join 0 x rs h is clear in
    let there : IsThere next rs = (let T : Option Range → Type 0 = λ o. IsThere o rs in subst T (sym en) (next-there y rs h)) in
    record {
      can = can-put y rs next prev h (subst (λ (z : Range). IsRange z) (sym ex) is) en ep;
      same = same;
      apart = subst (λ (ys : List Range). IsApart 0 ys) (sym same) (apart-held 0 (join x rs) (held-join 0 x rs h (omega arith) is clear));
      count = subst (λ (ys : List Range). length ys + (one_if next + one_if prev) ≡ suc (length rs)) same (put-length next prev y rs there);
    }

-- the same, of the ranges that are found beside the place
pub ready-beside : {before from : Option Range} → (x : Range) (rs : List Range) (y : Range) (next prev : Option Range) → IsHeld 0 rs → IsRange x → IsClear x rs → y ≡ x
    → before ≡ of_space y.space (last_below (range_key y) rs) → from ≡ of_space y.space (first_from (range_key y) rs) → next ≡ next_where from y → prev ≡ prev_where before y
    → IsReady x rs y next prev
ready-beside x rs y next prev h is clear ex eb ef en ep =
    ready x rs y next prev h is clear ex (en ∙ ap (λ (o : Option Range). next_where o y) ef) (ep ∙ ap (λ (o : Option Range). prev_where o y) eb)
