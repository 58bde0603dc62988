-- How many members pass a test: of one list after another, of a list that is mapped or filtered,
-- and where one member alone passes.
use Rattle.std.proofs.Common.{◌&&◌, ◌++◌, ◌+◌, ◌==◌, ◌||◌, ◌∙◌, ◌∷◌, ◌≡◌, ◌≤◌, [], ap, arith, Bool, cond, false, inl, inr, length, List, map, not, refl, subst, sym, true, ℕ}
use Rattle.std.proofs.lemmas.Bool.Decides.{nat_tests}
use Rattle.std.specs.List.{list_any}
use Rattle.std.specs.Prelude.{filter}
use Rattle.xl_model.specs.Base.{one_if}
use Rattle.xl_list_lemmas.specs.Members.{In, Once}
use Rattle.xl_list_lemmas.specs.Tallies.{tally}

pub tally-short : {A : Type 0} (p : A → Bool) (xs : List A) → tally p xs ≤ length xs
tally-short p [] = omega arith
tally-short p (x ∷ xs) =
    let on = tally-short p xs in
    elim (p x) as (λ b. one_if b + tally p xs ≤ length (x ∷ xs)) [ true ↦ omega arith | false ↦ omega arith ]

-- some member passes where the number is not 0
pub tally-any : {A : Type 0} (p : A → Bool) (xs : List A) → list_any p xs ≡ not (tally p xs == 0)
tally-any p [] = refl
tally-any p (x ∷ xs) =
    elim (p x) as (λ b. (b || list_any p xs) ≡ not (one_if b + tally p xs == 0)) [
      | true ↦ some (tally p xs)
      | false ↦ tally-any p xs ∙ ap (λ n. not (n == 0)) (none (tally p xs))
    ]
  where
    some : (n : ℕ) → true ≡ not (1 + n == 0)
    some n = grind (arith, nat_tests)

    none : (n : ℕ) → n ≡ 0 + n
    none n = omega arith

pub tally-append : {A : Type 0} (p : A → Bool) (xs ys : List A) → tally p (xs ++ ys) ≡ tally p xs + tally p ys
tally-append p [] ys = omega arith
tally-append p (x ∷ xs) ys = let on = tally-append p xs ys in omega arith

pub tally-each : {A : Type 0} (p q : A → Bool) (xs : List A) → ((x : A) → In x xs → p x ≡ q x) → tally p xs ≡ tally q xs
tally-each p q [] h = refl
tally-each p q (x ∷ xs) h = ap (λ b. one_if b + tally p xs) (h x (inl refl)) ∙ ap (λ n. one_if (q x) + n) (tally-each p q xs (λ z i. h z (inr i)))

pub tally-map : {A B : Type 0} (f : A → B) (p : B → Bool) (xs : List A) → tally p (map f xs) ≡ tally (λ x. p (f x)) xs
tally-map f p [] = refl
tally-map f p (x ∷ xs) = ap (λ n. one_if (p (f x)) + n) (tally-map f p xs)

-- a member that occurs once and alone passes
pub tally-zero : {A : Type 0} (q : A → Bool) (xs : List A) → ((z : A) → In z xs → q z ≡ true → ⊥) → tally q xs ≡ 0
tally-zero q [] no_one = refl
tally-zero q (x ∷ xs) no_one =
    let on : tally q xs ≡ 0 = tally-zero q xs (λ z i. no_one z (inr i)) in
    elim (q x) as (λ b. q x ≡ b → one_if b + tally q xs ≡ 0) [
      | true ↦ λ t. absurd (no_one x (inl refl) t)
      | false ↦ λ t. omega arith
    ] refl

pub tally-only : {A : Type 0} (q : A → Bool) (x : A) (xs : List A) → Once xs → In x xs → ((z : A) → In z xs → q z ≡ true → z ≡ x) → tally q xs ≡ one_if (q x)
tally-only q x [] once i only = absurd i
tally-only {A} q x (y ∷ ys) (first, rest) (inl e) only =
    let none : tally q ys ≡ 0 = tally-zero q ys (λ z j t. first (subst (λ w. In w ys) (only z (inr j) t ∙ e) j)) in
    ap (λ w. one_if (q w) + tally q ys) (sym e) ∙ (let k : one_if (q x) + tally q ys ≡ one_if (q x) = omega arith in k)
tally-only {A} q x (y ∷ ys) (first, rest) (inr i) only =
    let on : tally q ys ≡ one_if (q x) = tally-only q x ys rest i (λ z j. only z (inr j)) in
    elim (q y) as (λ b. q y ≡ b → one_if b + tally q ys ≡ one_if (q x)) [
      | true ↦ λ t. absurd (first (subst (λ w. In w ys) (sym (only y (inl refl) t)) i))
      | false ↦ λ t. omega arith
    ] refl

-- where any two that pass are one, at most one passes
pub tally-most : {A : Type 0} (q : A → Bool) (xs : List A) → Once xs → ((y z : A) → In y xs → In z xs → q y ≡ true → q z ≡ true → y ≡ z) → tally q xs ≤ 1
tally-most q [] once one = omega arith
tally-most {A} q (x ∷ xs) (first, rest) one =
    elim (q x) as (λ b. q x ≡ b → one_if b + tally q xs ≤ 1) [
      | true ↦ λ t.
          let none : tally q xs ≡ 0 = tally-zero q xs (λ z i u. first (subst (λ w. In w xs) (one z x (inr i) (inl refl) u t) i)) in
          omega arith
      | false ↦ λ t. let on : tally q xs ≤ 1 = tally-most q xs rest (λ y z i j. one y z (inr i) (inr j)) in omega arith
    ] refl

-- what is filtered out, and what stays
pub tally-filter : {A : Type 0} (f q : A → Bool) (xs : List A) → tally q xs ≡ tally q (filter f xs) + tally (λ z. not (f z) && q z) xs
tally-filter f q [] = refl
tally-filter f q (x ∷ xs) =
    let on : tally q xs ≡ tally q (filter f xs) + tally (λ z. not (f z) && q z) xs = tally-filter f q xs in
    elim (f x) as (λ b. one_if (q x) + tally q xs ≡ tally q (cond b (x ∷ filter f xs) (filter f xs)) + (one_if (not b && q x) + tally (λ z. not (f z) && q z) xs)) [
      | true ↦ omega arith
      | false ↦ omega arith
    ]
