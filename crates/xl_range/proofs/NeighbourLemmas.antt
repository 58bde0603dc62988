-- The neighbours of a range among held ranges: where they are, and what putting a range among them
-- requires.
use Rattle.xl_range.proofs.Common.{◌<◌, ◌==◌, ◌^◌, ◌||◌, ◌∙◌, ◌∷◌, ◌≡◌, ◌≤◌, [], arith, Bool, cond, end_key, false, first_from, has_key, IsHeld, IsRange, IsThere, kept_taken, last_below, last_or, List, list_any, nat_lt, nat_tests, next_of, next_where, None, of_space, Option, pages_with, prev_of, prev_where, Range, range_key, range_taken, refl, Some, subst, sym, touches, true, without_range, ℕ}

-- a neighbour that touches is of the range's space
pub next-space : (x r : Range) → next_where (of_space x.space (Some r)) x ≡ next_where (Some r) x
next-space x r =
    elim (r.space == x.space) as (λ b. (r.space == x.space) ≡ b → next_where (cond b (Some r) None) x ≡ next_where (Some r) x) [
      | true ↦ λ t. refl
      | false ↦ λ t. let f : touches x r ≡ false = grind (arith, nat_tests) in rw f refl
    ] refl

pub prev-space : (x r : Range) → prev_where (of_space x.space (Some r)) x ≡ prev_where (Some r) x
prev-space x r =
    elim (r.space == x.space) as (λ b. (r.space == x.space) ≡ b → prev_where (cond b (Some r) None) x ≡ prev_where (Some r) x) [
      | true ↦ λ t. refl
      | false ↦ λ t. let f : touches r x ≡ false = grind (arith, nat_tests) in rw f refl
    ] refl

-- what is found from a key on begins there or later, and is one of them
pub record IsNext (low k : ℕ) (q : Range) (rs : List Range) : Type 0 where
  pub low_in : low ≤ range_key q
  pub from : k ≤ range_key q
  pub range : IsRange q
  pub there : list_any (has_key (range_key q)) rs ≡ true

pub first-next : (low k : ℕ) (rs : List Range) (q : Range) → IsHeld low rs → first_from k rs ≡ Some q → IsNext low k q rs
first-next low k [] q h e = absurd (cc)
first-next low k (r ∷ rs) q (above, is, stops, rest) e =
    elim (nat_lt (range_key r) k) as (λ b. nat_lt (range_key r) k ≡ b → cond b (first_from k rs) (Some r) ≡ Some q → IsNext low k q (r ∷ rs)) [
      | true ↦ λ t f.
          let n : IsNext (end_key r) k q rs = first-next (end_key r) k rs q rest f in
          record { low_in = (let a = n.low_in in omega arith); from = n.from; range = n.range; there = or-second (has_key (range_key q) r) (list_any (has_key (range_key q)) rs) n.there }
      | false ↦ λ t f.
          let same : r ≡ q = cc in
          let own : has_key (range_key r) r ≡ true = grind (arith, nat_tests) in
          subst (λ (z : Range). IsNext low k z (r ∷ rs)) same (record { low_in = above; from = grind (arith, nat_tests); range = is; there = rw own refl })
    ] refl e
  where
    or-second : (a b : Bool) → b ≡ true → (a || b) ≡ true
    or-second true b h = refl
    or-second false b h = h

pub record IsPrev (low k : ℕ) (p : Range) (rs : List Range) : Type 0 where
  pub low_in : low ≤ range_key p
  pub below : range_key p < k
  pub range : IsRange p
  pub there : list_any (has_key (range_key p)) rs ≡ true

pub last-prev : (low k : ℕ) (rs : List Range) (p : Range) → IsHeld low rs → last_below k rs ≡ Some p → IsPrev low k p rs
last-prev low k [] p h e = absurd (cc)
last-prev low k (r ∷ rs) p (above, is, stops, rest) e =
    elim (nat_lt (range_key r) k) as (λ b. nat_lt (range_key r) k ≡ b → cond b (Some (last_or r (last_below k rs))) None ≡ Some p → IsPrev low k p (r ∷ rs)) [
      | true ↦ λ t f. go (last_below k rs) refl (last_or_is f) (grind (arith, nat_tests)) (λ z h. last-prev (end_key r) k rs z rest h)
      | false ↦ λ t f. absurd (cc)
    ] refl e
  where
    last_or_is : Some (last_or r (last_below k rs)) ≡ Some p → last_or r (last_below k rs) ≡ p
    last_or_is f = cc

    or-second : (a b : Bool) → b ≡ true → (a || b) ≡ true
    or-second true b h = refl
    or-second false b h = h

    go : (o : Option Range) → last_below k rs ≡ o → last_or r (last_below k rs) ≡ p → range_key r < k → ((z : Range) → last_below k rs ≡ Some z → IsPrev (end_key r) k z rs) → IsPrev low k p (r ∷ rs)
    go None o f less more =
        let same : r ≡ p = rw o at f in
        let own : has_key (range_key r) r ≡ true = grind (arith, nat_tests) in
        subst (λ (z : Range). IsPrev low k z (r ∷ rs)) same (record { low_in = above; below = less; range = is; there = rw own refl })
    go (Some z) o f less more =
        let same : z ≡ p = rw o at f in
        let P : Range → Type 0 = λ w. IsPrev low k w (r ∷ rs) in
        let n : IsPrev (end_key r) k z rs = more z o in
        subst P same (record { low_in = (let a = n.low_in in omega arith); below = n.below; range = n.range; there = or-second (has_key (range_key z) r) (list_any (has_key (range_key z)) rs) n.there })

pub by-option : (G : Option Range → Type 0) (o : Option Range) → (o ≡ None → G None) → ((z : Range) → o ≡ Some z → G (Some z)) → G o
by-option G None a b = a refl
by-option G (Some z) a b = b z refl

pub next-there : (x : Range) (rs : List Range) → IsHeld 0 rs → IsThere (next_of x rs) rs
next-there x rs h = by-option (λ o. IsThere (next_where (of_space x.space o) x) rs) (first_from (range_key x) rs) (λ e. tt) (λ q e. go q (first-next 0 (range_key x) rs q h e).there)
  where
    go : (q : Range) → list_any (has_key (range_key q)) rs ≡ true → IsThere (next_where (of_space x.space (Some q)) x) rs
    go q t = elim (q.space == x.space) as (λ b. IsThere (next_where (cond b (Some q) None) x) rs) [
      | true ↦ elim (touches x q) as (λ b. IsThere (cond b (Some q) None) rs) [ true ↦ t | false ↦ tt ]
      | false ↦ tt
    ]

pub next-is : (x q : Range) (rs : List Range) → IsHeld 0 rs → next_of x rs ≡ Some q → IsNext 0 (range_key x) q rs
next-is x q rs h e = by-option (λ o. next_where (of_space x.space o) x ≡ Some q → IsNext 0 (range_key x) q rs) (first_from (range_key x) rs) (λ n f. absurd (cc)) (λ z n. here z (first-next 0 (range_key x) rs z h n)) e
  where
    here : (z : Range) → IsNext 0 (range_key x) z rs → next_where (of_space x.space (Some z)) x ≡ Some q → IsNext 0 (range_key x) q rs
    here z n f = elim (z.space == x.space) as (λ b. next_where (cond b (Some z) None) x ≡ Some q → IsNext 0 (range_key x) q rs) [
      | true ↦ elim (touches x z) as (λ b. cond b (Some z) None ≡ Some q → IsNext 0 (range_key x) q rs) [
        | true ↦ λ k. let same : z ≡ q = cc in let P : Range → Type 0 = λ w. IsNext 0 (range_key x) w rs in subst P same n
        | false ↦ λ k. absurd (cc)
      ]
      | false ↦ λ k. absurd (cc)
    ] f

pub prev-is : (x q : Range) (rs : List Range) → IsHeld 0 rs → prev_of x rs ≡ Some q → IsPrev 0 (range_key x) q rs
prev-is x q rs h e = by-option (λ o. prev_where (of_space x.space o) x ≡ Some q → IsPrev 0 (range_key x) q rs) (last_below (range_key x) rs) (λ n f. absurd (cc)) (λ z n. here z (last-prev 0 (range_key x) rs z h n)) e
  where
    here : (z : Range) → IsPrev 0 (range_key x) z rs → prev_where (of_space x.space (Some z)) x ≡ Some q → IsPrev 0 (range_key x) q rs
    here z n f = elim (z.space == x.space) as (λ b. prev_where (cond b (Some z) None) x ≡ Some q → IsPrev 0 (range_key x) q rs) [
      | true ↦ elim (touches z x) as (λ b. cond b (Some z) None ≡ Some q → IsPrev 0 (range_key x) q rs) [
        | true ↦ λ k. let same : z ≡ q = cc in let P : Range → Type 0 = λ w. IsPrev 0 (range_key x) w rs in subst P same n
        | false ↦ λ k. absurd (cc)
      ]
      | false ↦ λ k. absurd (cc)
    ] f

-- a range of another key stays
there-without : (a b : ℕ) (rs : List Range) → a < b → list_any (has_key a) rs ≡ true → list_any (has_key a) (without_range b rs) ≡ true
there-without a b [] less h = h
there-without a b (r ∷ rs) less h =
    elim (range_key r == b) as (λ t. (range_key r == b) ≡ t → list_any (has_key a) (cond t rs (r ∷ without_range b rs)) ≡ true) [
      | true ↦ λ t. let other : (range_key r == a) ≡ false = grind (arith, nat_tests) in rest (range_key r == a) (list_any (has_key a) rs) other h
      | false ↦ λ t. or-on (range_key r == a) (list_any (has_key a) rs) (list_any (has_key a) (without_range b rs)) h (λ k. there-without a b rs less k)
    ] refl
  where
    rest : (x y : Bool) → x ≡ false → (x || y) ≡ true → y ≡ true
    rest true y e h = absurd (cc)
    rest false y e h = h

    or-on : (x y z : Bool) → (x || y) ≡ true → (y ≡ true → z ≡ true) → (x || z) ≡ true
    or-on true y z h f = refl
    or-on false y z h f = f h

pub record CanPut (next prev : Option Range) (x : Range) (rs : List Range) : Type 0 where
  pub next_there : IsThere next rs
  pub prev_there : IsThere prev (kept_taken next rs)
  pub next_small : pages_with next x < 2 ^ 64
  pub prev_small : pages_with prev (range_taken next x) < 2 ^ 64

can-by : (x : Range) (rs : List Range) (next prev : Option Range) → IsRange x → ((q : Range) → next ≡ Some q → IsNext 0 (range_key x) q rs) → ((p : Range) → prev ≡ Some p → IsPrev 0 (range_key x) p rs)
    → CanPut next prev x rs
can-by x rs None None is n p = record { next_there = tt; prev_there = tt; next_small = (let a = is.pages_in in omega arith); prev_small = (let a = is.pages_in in omega arith) }
can-by x rs None (Some q) is n p =
    let i : IsPrev 0 (range_key x) q rs = p q refl in
    let a = is.pages_in in
    let b = i.range.pages_in in
    record { next_there = tt; prev_there = i.there; next_small = omega arith; prev_small = omega arith }
can-by x rs (Some q) None is n p =
    let i : IsNext 0 (range_key x) q rs = n q refl in
    let a = is.pages_in in
    let b = i.range.pages_in in
    record { next_there = i.there; prev_there = tt; next_small = omega arith; prev_small = omega arith }
can-by x rs (Some q) (Some r) is n p =
    let i : IsNext 0 (range_key x) q rs = n q refl in
    let j : IsPrev 0 (range_key x) r rs = p r refl in
    let a = is.pages_in in
    let b = i.range.pages_in in
    let d = j.range.pages_in in
    let e = i.from in
    let f = j.below in
    record { next_there = i.there; prev_there = there-without (range_key r) (range_key q) rs (omega arith) j.there; next_small = omega arith; prev_small = omega arith }

pub can-put : (x : Range) (rs : List Range) (next prev : Option Range) → IsHeld 0 rs → IsRange x → next ≡ next_of x rs → prev ≡ prev_of x rs → CanPut next prev x rs
can-put x rs next prev h is en ep = can-by x rs next prev is (λ q e. next-is x q rs h (sym en ∙ e)) (λ q e. prev-is x q rs h (sym ep ∙ e))
