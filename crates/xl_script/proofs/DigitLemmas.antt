-- Numbers read from the front, one digit after another, up to a limit.
use Rattle.xl_script.proofs.Common.{if◌then◌else◌, ◌*◌, ◌+◌, ◌<◌, ◌^◌, ◌∙◌, ◌∷◌, ◌≡◌, ◌≤◌, [], add-one, address_of, ap, arith, below, Bool, cases_lt, digit_read, drop, drop_all, false, get_or, IfSome, inl, inr, le-leb, le-ltb, length, List, lt-ltb, ltb-true, nat_le, nat_lt, no_digit, None, number_after, number_in, Option, refl, Some, sym, true, ℕ}
use Rattle.std.proofs.Math.Nat.{le-mul_of_pos_right, one-le-pow, pow-le-pow_right, pow-suc, pow-zero}
use Rattle.std.proofs.Math.Seq.{drop-cons}
use Rattle.std.proofs.lemmas.Nat.{mul-add-lt}
use Rattle.std.specs.Char.{digit_value, is_digit}
use Rattle.std.specs.Option.{option_map}

large_stays : (limit n p : ℕ) (o : Option ℕ) → 0 < p → limit ≤ n → below limit (option_map (λ v. n * p + v) o) ≡ None
large_stays limit n p None some large = refl
large_stays limit n p (Some v) some large =
    let product : n ≤ n * p = le-mul_of_pos_right n some in
    let is : nat_lt (n * p + v) limit ≡ false = le-ltb _ _ (omega arith) in
    rw is refl

-- a number that has passed the limit stays above it
pub passed : (limit base n : ℕ) (cs : List ℕ) → 0 < base → limit ≤ n → below limit (number_after base n cs) ≡ None
passed limit base n cs some large = large_stays limit n (base ^ length cs) (number_in base cs) (one-le-pow (length cs) base some) large

bound_step : (d base p : ℕ) (o : Option ℕ) (digit : Bool) → digit ≡ nat_lt d base → IfSome o (λ v. v < p)
    → IfSome (if digit then option_map (λ v. d * p + v) o else None) (λ v. v < p * base)
bound_step d base p None true is h = h
bound_step d base p (Some v) true is h = mul-add-lt d p v base (ltb-true _ _ (sym is)) h
bound_step d base p o false is h = tt

pub bounded : (base : ℕ) (cs : List ℕ) → IfSome (number_in base cs) (λ v. v < base ^ length cs)
bounded base [] = rw pow-zero (omega arith)
bounded base (c ∷ cs) = rw pow-suc (bound_step (digit_value c) base (base ^ length cs) (number_in base cs) (is_digit c base) refl (bounded base cs))

-- digits that can't pass the limit
pub fits : (limit : ℕ) (o : Option ℕ) → IfSome o (λ v. v < limit) → below limit o ≡ o
fits limit None h = refl
fits limit (Some v) h = let is : nat_lt v limit ≡ true = lt-ltb _ _ h in rw is refl

module _ (base n i : ℕ) (ds : List ℕ) (inside : i < length ds) where
  here : number_after base n (drop i ds) ≡ number_after base n (get_or ds i 0 ∷ drop (i + 1) ds)
  here =
      let e : drop i ds ≡ get_or ds i 0 ∷ drop (i + 1) ds = rw add-one (drop-cons ds i 0 inside) in
      ap (number_after base n) e

  -- the digit at this place is read
  pub next_digit : digit_value (get_or ds i 0) < base
      → number_after base n (drop i ds) ≡ number_after base (n * base + digit_value (get_or ds i 0)) (drop (i + 1) ds)
  next_digit small = here ∙ digit_read base n (get_or ds i 0) (drop (i + 1) ds) small

  -- it is none of the base, or the number passes the limit
  pub refused : (limit : ℕ) → 0 < base
      → ((digit_value (get_or ds i 0) < base) × (n * base + digit_value (get_or ds i 0) < limit) → ⊥)
      → below limit (number_after base n (drop i ds)) ≡ None
  refused limit some never =
      elim (cases_lt (digit_value (get_or ds i 0)) base) [
        | inl small ↦ ap (below limit) (next_digit small) ∙ passed limit base _ (drop (i + 1) ds) some (large small)
        | inr other ↦ ap (below limit) (here ∙ no_digit base n (get_or ds i 0) (drop (i + 1) ds) other)
      ]
    where
      large : digit_value (get_or ds i 0) < base → limit ≤ n * base + digit_value (get_or ds i 0)
      large small = elim (cases_lt (n * base + digit_value (get_or ds i 0)) limit) [
        | inl less ↦ absurd (never (small, less))
        | inr more ↦ more
      ]

pub all_read : (limit base n i : ℕ) (ds : List ℕ) → length ds ≤ i → n < limit → Some n ≡ below limit (number_after base n (drop i ds))
all_read limit base n i ds past small =
    let is : n * 1 + 0 ≡ n = omega arith in
    rw (drop_all i ds past, pow-zero, is) (sym (fits limit (Some n) small))

some_weaker : (m n : ℕ) (o : Option ℕ) → m ≤ n → IfSome o (λ v. v < m) → IfSome o (λ v. v < n)
some_weaker m n None le h = h
some_weaker m n (Some v) le h = omega arith

-- up to 16 hexadecimal digits are below 2 ^ 64
pub address_read : (ds : List ℕ) → 0 < length ds → length ds ≤ 16 → below (2 ^ 64) (number_in 16 ds) ≡ address_of ds
address_read ds some few =
    let at_least : nat_le 1 (length ds) ≡ true = le-leb _ _ (omega arith) in
    let at_most : nat_le (length ds) 16 ≡ true = le-leb _ _ few in
    let power : 16 ^ length ds ≤ 16 ^ 16 = pow-le-pow_right {n = 16} (omega arith) {i = length ds} {j = 16} few in
    fits (2 ^ 64) (number_in 16 ds) (some_weaker (16 ^ length ds) (16 ^ 16) (number_in 16 ds) power (bounded 16 ds))
    ∙ rw (at_least, at_most) refl
