-- For the table of ranges: a leaf of held ranges overlaps a block where one of the ranges does, and
-- what overlaps none lies apart from them.
use Rattle.xl_range.proofs.Common.{◌&&◌, ◌*◌, ◌+◌, ◌<◌, ◌==◌, ◌^◌, ◌||◌, ◌∙◌, ◌∷◌, ◌≡◌, ◌≤◌, ◌⊎◌, [], ap, arith, Bool, end_key, false, first_leaf, inl, inr, IsClear, IsHeld, IsRange, Leaf, List, list_any, meets_any, meets_block, meets_range, nat_le, nat_lt, nat_tests, next_leaf, Order, pages-some, pages_of, Range, range_key, range_of_leaf, refl, run_on, same-tests, spread, suc, sym, true, zero, ℕ}
use Rattle.xl_range.proofs.RunLemmas.{leaves-is}

or-three : (a b c : Bool) → (a || (b || c)) ≡ ((a || b) || c)
or-three true b c = refl
or-three false b c = refl

or-runs : (s : Bool) (first p m f e : ℕ) → f < e → 0 < p
    → ((s && (nat_lt first e && nat_lt f (first + p))) || (s && (nat_lt (first + p) e && nat_lt f (first + p + m)))) ≡ (s && (nat_lt first e && nat_lt f (first + p + m)))
or-runs false first p m f e less some = refl
or-runs true first p m f e less some = same-tests _ _ (λ t. grind (arith, nat_tests)) (λ t. grind (arith, nat_tests))

any-run : (n : ℕ) (space f : ℕ) (o : Order) (l : Leaf) (rest : List Leaf)
    → list_any (meets_block space f o) (run_on (suc n) l rest)
    ≡ (((l.space == space) && (nat_lt l.first (f + pages_of o) && nat_lt f (l.first + suc n * pages_of l.order))) || list_any (meets_block space f o) rest)
any-run zero space f o l rest = let e : 1 * pages_of l.order ≡ pages_of l.order = omega arith in rw e refl
any-run (suc n) space f o l rest =
    let p : ℕ = pages_of l.order in
    let some : 0 < p = pages-some l.order in
    let block : 0 < pages_of o = pages-some o in
    let tail = any-run n space f o (next_leaf l) rest in
    let e : l.first + suc (suc n) * p ≡ l.first + p + suc n * p = omega arith in
    rw (tail, e) (or-three (meets_block space f o l) ((l.space == space) && (nat_lt (l.first + p) (f + pages_of o) && nat_lt f (l.first + p + suc n * p))) (list_any (meets_block space f o) rest) ∙ ap (λ (b : Bool). b || list_any (meets_block space f o) rest) (or-runs (l.space == space) l.first p (suc n * p) f (f + pages_of o) (omega arith) some))

pub any-spread : (low space f : ℕ) (o : Order) (rs : List Range) → IsHeld low rs → list_any (meets_block space f o) (spread rs) ≡ list_any (meets_range space f (f + pages_of o)) rs
unfolding spread meets_range
any-spread low space f o [] h = refl
any-spread low space f o (r ∷ rs) (above, is, stops, rest) =
    let n : ℕ = is.leaves.0 in
    let e : suc n * pages_of r.order ≡ r.pages = sym is.leaves.1 in
    let tail = any-spread (end_key r) space f o rs rest in
    rw (leaves-is r is) (any-run n space f o (first_leaf r) (spread rs)
    ∙ ap (λ (k : ℕ). ((r.space == space) && (nat_lt r.start (f + pages_of o) && nat_lt f (r.start + k))) || list_any (meets_block space f o) (spread rs)) e
    ∙ ap (λ (b : Bool). ((r.space == space) && (nat_lt r.start (f + pages_of o) && nat_lt f (r.start + r.pages))) || b) tail)

-- what no leaf overlaps lies apart from the ranges
clear-one : (l : Leaf) (r : Range) → l.first + pages_of l.order ≤ 2 ^ 52 → IsRange r → meets_range l.space l.first (l.first + pages_of l.order) r ≡ false
    → (end_key r ≤ range_key (range_of_leaf l)) ⊎ (end_key (range_of_leaf l) ≤ range_key r)
unfolding meets_range
clear-one l r limit is out =
    let r_in : r.start + r.pages ≤ 2 ^ 52 = is.pages_in in
    elim (nat_le (end_key r) (range_key (range_of_leaf l))) as (λ b. nat_le (end_key r) (range_key (range_of_leaf l)) ≡ b → (end_key r ≤ range_key (range_of_leaf l)) ⊎ (end_key (range_of_leaf l) ≤ range_key r)) [
      | true ↦ λ t. inl (grind (arith, nat_tests))
      | false ↦ λ t.
          let after : range_key (range_of_leaf l) < end_key r = grind (arith, nat_tests) in
          inr (elim (l.space == r.space) as (λ b. (l.space == r.space) ≡ b → end_key (range_of_leaf l) ≤ range_key r) [
            | true ↦ λ u.
                let same : l.space ≡ r.space = grind (arith, nat_tests) in
                let own : (r.space == l.space) ≡ true = grind (arith, nat_tests) in
                let reach : nat_lt l.first (r.start + r.pages) ≡ true = grind (arith, nat_tests) in
                let not_below : nat_lt r.start (l.first + pages_of l.order) ≡ false = none-below (r.space == l.space) _ _ own reach out in
                grind (arith, nat_tests)
            | false ↦ λ u.
                let other : l.space < r.space = apart-spaces l.space r.space l.first (r.start + r.pages) r_in (omega arith) u in
                omega arith
          ] refl)
    ] refl
  where
    none-below : (a b c : Bool) → a ≡ true → c ≡ true → (a && (b && c)) ≡ false → b ≡ false
    none-below true true true s t h = h
    none-below true true false s t h = absurd (cc)
    none-below true false c s t h = refl
    none-below false b c s t h = absurd (cc)

    apart-spaces : (a b first last : ℕ) → last ≤ 2 ^ 52 → a * 2 ^ 52 + first < b * 2 ^ 52 + last → (a == b) ≡ false → a < b
    apart-spaces a b first last h less other = let ne : a ≡ b → ⊥ = λ e. grind (arith, nat_tests) in omega arith

pub clear-of : (low : ℕ) (l : Leaf) (rs : List Range) → IsHeld low rs → l.first + pages_of l.order ≤ 2 ^ 52
    → list_any (meets_range l.space l.first (l.first + pages_of l.order)) rs ≡ false → IsClear (range_of_leaf l) rs
clear-of low l [] h limit none = tt
clear-of low l (r ∷ rs) (above, is, stops, rest) limit none =
    (clear-one l r limit is (or-first _ _ none), clear-of (end_key r) l rs rest limit (or-second _ _ none))
  where
    or-first : (a b : Bool) → (a || b) ≡ false → a ≡ false
    or-first true b h = h
    or-first false b h = refl

    or-second : (a b : Bool) → (a || b) ≡ false → b ≡ false
    or-second true b h = absurd (cc)
    or-second false b h = h

pub clear-any : (l : Leaf) (rs : List Range) → IsHeld 0 rs → l.first + pages_of l.order ≤ 2 ^ 52 → meets_any l.space l.first l.order (spread rs) ≡ false → IsClear (range_of_leaf l) rs
unfolding meets_any
clear-any l rs h limit none = clear-of 0 l rs h limit (sym (any-spread 0 l.space l.first l.order rs h) ∙ none)
