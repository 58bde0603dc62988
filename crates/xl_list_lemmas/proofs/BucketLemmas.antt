-- An item put in front of its bucket: the members, their number and the tags. For chains in words
-- too.
use Rattle.std.proofs.Common.{◌==◌, ◌∷◌, ◌≡◌, ◌⊎◌, [], ap, arith, cond, false, inl, inr, length, List, map, nat_lt, refl, suc, true, ℕ}
use Rattle.std.proofs.lemmas.Bool.Decides.{nat_tests}
use Rattle.xl_model.specs.Chains.{bucket_of, in_front_of_bucket}
use Rattle.xl_list_lemmas.specs.Buckets.{in_front_by}
use Rattle.xl_list_lemmas.specs.Members.{In}

module _ {A : Type 0} (tag : A → ℕ) (n : ℕ) where
  -- members
  pub by-In : (z x : A) (xs : List A) → In z (in_front_by tag n x xs) → (z ≡ x) ⊎ In z xs
  by-In z x [] (inl e) = inl e
  by-In z x [] (inr i) = absurd i
  by-In z x (y ∷ ys) i =
      elim (nat_lt (bucket_of n (tag y)) (bucket_of n (tag x))) as (λ t. In z (cond t (y ∷ in_front_by tag n x ys) (x ∷ y ∷ ys)) → (z ≡ x) ⊎ In z (y ∷ ys)) [
        | true ↦ λ j. elim j [
          | inl e ↦ inr (inl e)
          | inr k ↦ elim (by-In z x ys k) [ inl e ↦ inl e | inr l ↦ inr (inr l) ]
        ]
        | false ↦ λ j. elim j [ inl e ↦ inl e | inr k ↦ inr k ]
      ] i

  pub In-by : (x : A) (xs : List A) → In x (in_front_by tag n x xs)
  In-by x [] = inl refl
  In-by x (y ∷ ys) =
      elim (nat_lt (bucket_of n (tag y)) (bucket_of n (tag x))) as (λ t. In x (cond t (y ∷ in_front_by tag n x ys) (x ∷ y ∷ ys))) [
        | true ↦ inr (In-by x ys)
        | false ↦ inl refl
      ]

  pub stays-by : (z x : A) (xs : List A) → In z xs → In z (in_front_by tag n x xs)
  stays-by z x [] i = absurd i
  stays-by z x (y ∷ ys) i =
      elim (nat_lt (bucket_of n (tag y)) (bucket_of n (tag x))) as (λ t. In z (cond t (y ∷ in_front_by tag n x ys) (x ∷ y ∷ ys))) [
        | true ↦ elim i [ inl e ↦ inl e | inr j ↦ inr (stays-by z x ys j) ]
        | false ↦ inr i
      ]

  pub length-by : (x : A) (xs : List A) → length (in_front_by tag n x xs) ≡ suc (length xs)
  length-by x [] = refl
  length-by x (y ∷ ys) =
      elim (nat_lt (bucket_of n (tag y)) (bucket_of n (tag x))) as (λ b. length (cond b (y ∷ in_front_by tag n x ys) (x ∷ y ∷ ys)) ≡ suc (suc (length ys))) [
        | true ↦ ap suc (length-by x ys)
        | false ↦ refl
      ]

  -- the tags of the list are the tags with one put in front of its bucket
  pub tags-by : (x : A) (xs : List A) → in_front_of_bucket n (tag x) (map tag xs) ≡ map tag (in_front_by tag n x xs)
  tags-by x [] = refl
  tags-by x (y ∷ ys) =
      elim (nat_lt (bucket_of n (tag y)) (bucket_of n (tag x))) as (λ t.
      cond t (tag y ∷ in_front_of_bucket n (tag x) (map tag ys)) (tag x ∷ tag y ∷ map tag ys) ≡ map tag (cond t (y ∷ in_front_by tag n x ys) (x ∷ y ∷ ys))) [
        | true ↦ ap (λ ts. tag y ∷ ts) (tags-by x ys)
        | false ↦ refl
      ]

pub unequal : (x y : ℕ) → (x ≡ y → ⊥) → (x == y) ≡ false
unequal x y o = elim (x == y) as (λ t. (x == y) ≡ t → t ≡ false) [ true ↦ λ t. absurd (o (grind (arith, nat_tests))) | false ↦ λ t. refl ] refl
