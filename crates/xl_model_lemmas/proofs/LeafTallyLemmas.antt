-- How many leaves of a mapping pass a test: with a leaf more, and with one less.
use Rattle.xl_model_lemmas.proofs.Common.{◌&&◌, ◌+◌, ◌<◌, ◌==◌, ◌∙◌, ◌∷◌, ◌≡◌, [], ap, arith, Bool, cond, eq-eqb, false, In, inl, inr, IsSorted, Leaf, leaf_key, List, nat_lt, nat_tests, not, Once, one_if, refl, tally, tally-filter, tally-only, true, with_leaf, without_leaf}
use Rattle.xl_model_lemmas.proofs.InsertionLemmas.{above-In, same-place}

-- in a sorted list no leaf occurs twice
pub sorted-once : (xs : List Leaf) → IsSorted xs → Once xs
sorted-once [] s = tt
sorted-once (x ∷ xs) (above, rest) = (λ i. let l : leaf_key x < leaf_key x = above-In (leaf_key x) x xs above i in omega arith, sorted-once xs rest)

-- a leaf more, at a place of its own
pub tally-with : (q : Leaf → Bool) (x : Leaf) (xs : List Leaf) → ((z : Leaf) → In z xs → leaf_key z ≡ leaf_key x → ⊥) → tally q (with_leaf x xs) ≡ one_if (q x) + tally q xs
tally-with q x [] apart = refl
tally-with q x (y ∷ ys) apart =
    let on : tally q (with_leaf x ys) ≡ one_if (q x) + tally q ys = tally-with q x ys (λ z i. apart z (inr i)) in
    elim (leaf_key x == leaf_key y) as (λ b. (leaf_key x == leaf_key y) ≡ b
    → tally q (cond b (x ∷ ys) (cond (nat_lt (leaf_key x) (leaf_key y)) (x ∷ y ∷ ys) (y ∷ with_leaf x ys))) ≡ one_if (q x) + (one_if (q y) + tally q ys)) [
      | true ↦ λ t. absurd (apart y (inl refl) (grind (arith, nat_tests)))
      | false ↦ λ t. elim (nat_lt (leaf_key x) (leaf_key y)) as (λ b. tally q (cond b (x ∷ y ∷ ys) (y ∷ with_leaf x ys)) ≡ one_if (q x) + (one_if (q y) + tally q ys)) [
        | true ↦ refl
        | false ↦ omega arith
      ]
    ] refl

-- a leaf less
pub tally-less : (q : Leaf → Bool) (old : Leaf) (xs : List Leaf) → IsSorted xs → In old xs → tally q xs ≡ tally q (without_leaf old.space old.first xs) + one_if (q old)
unfolding without_leaf
tally-less q old xs s i =
    let f : Leaf → Bool = λ leaf. cond (leaf_key leaf == leaf_key old) false true in
    tally-filter f q xs ∙ ap (λ n. tally q (without_leaf old.space old.first xs) + n)
    (tally-only (λ z. not (f z) && q z) old xs (sorted-once xs s) i (λ z j t. same-place z old xs s j i (key z t))
    ∙ ap (λ b. one_if (not (cond b false true) && q old)) (eq-eqb (leaf_key old) (leaf_key old) refl))
  where
    key : (z : Leaf) → (not (cond (leaf_key z == leaf_key old) false true) && q z) ≡ true → leaf_key z ≡ leaf_key old
    key z t =
        elim (leaf_key z == leaf_key old) as (λ b. (leaf_key z == leaf_key old) ≡ b → (not (cond b false true) && q z) ≡ true → leaf_key z ≡ leaf_key old) [
          | true ↦ λ e u. grind (arith, nat_tests)
          | false ↦ λ e u. absurd (cc)
        ] refl t
