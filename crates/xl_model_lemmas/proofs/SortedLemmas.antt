-- A sorted list of leaves is known by its members; one leaf put in and another taken out, in either order.
use Rattle.xl_model_lemmas.proofs.Common.{◌*◌, ◌+◌, ◌<◌, ◌==◌, ◌^◌, ◌∷◌, ◌≡◌, [], AllAbove, ap, arith, false, In, inl, inr, IsSorted, Leaf, leaf_key, List, nat_tests, refl, subst, sym, true, with_leaf, without_leaf, ℕ}
use Rattle.xl_model_lemmas.proofs.InsertionLemmas.{above-In, In-with, In-without, same-place, sorted-with, sorted-without, stays-with, with-In, without-In, without-other}

heads : (x y : Leaf) (xs ys : List Leaf) → AllAbove (leaf_key x) xs → AllAbove (leaf_key y) ys → In x (y ∷ ys) → In y (x ∷ xs) → x ≡ y
heads x y xs ys above_x above_y (inl e) j = e
heads x y xs ys above_x above_y (inr i) (inl e) = sym e
heads x y xs ys above_x above_y (inr i) (inr j) =
    let a : leaf_key y < leaf_key x = above-In (leaf_key y) x ys above_y i in
    let b : leaf_key x < leaf_key y = above-In (leaf_key x) y xs above_x j in
    absurd (omega arith)

following : (z x y : Leaf) (xs ys : List Leaf) → AllAbove (leaf_key x) xs → x ≡ y → In z xs → In z (y ∷ ys) → In z ys
following z x y xs ys above e i (inl f) =
    let a : leaf_key x < leaf_key z = above-In (leaf_key x) z xs above i in
    let b : leaf_key z ≡ leaf_key y = ap leaf_key f in
    let d : leaf_key x ≡ leaf_key y = ap leaf_key e in
    absurd (omega arith)
following z x y xs ys above e i (inr j) = j

-- two sorted lists with the same members are one
pub same-sorted : (xs ys : List Leaf) → IsSorted xs → IsSorted ys → ((z : Leaf) → In z xs → In z ys) → ((z : Leaf) → In z ys → In z xs) → xs ≡ ys
same-sorted [] [] s t there back = refl
same-sorted [] (y ∷ ys) s t there back = absurd (back y (inl refl))
same-sorted (x ∷ xs) [] s t there back = absurd (there x (inl refl))
same-sorted (x ∷ xs) (y ∷ ys) (above_x, rest_x) (above_y, rest_y) there back =
    let head : x ≡ y = heads x y xs ys above_x above_y (there x (inl refl)) (back y (inl refl)) in
    let tail : xs ≡ ys = same-sorted xs ys rest_x rest_y
    (λ z i. following z x y xs ys above_x head i (there z (inr i)))
    (λ z i. following z y x ys xs above_y (sym head) i (back z (inr i))) in
    cc

-- putting one leaf in and taking another out, in either order
pub with-without : (s f : ℕ) (x : Leaf) (xs : List Leaf) → IsSorted xs → (leaf_key x ≡ s * 2 ^ 52 + f → ⊥)
    → ((z : Leaf) → In z xs → leaf_key z ≡ leaf_key x → ⊥)
    → with_leaf x (without_leaf s f xs) ≡ without_leaf s f (with_leaf x xs)
with-without s f x xs sorted other new =
    same-sorted (with_leaf x (without_leaf s f xs)) (without_leaf s f (with_leaf x xs))
    (sorted-with x (without_leaf s f xs) (sorted-without s f xs sorted)) (sorted-without s f (with_leaf x xs) (sorted-with x xs sorted))
    (λ z i. elim (with-In z x (without_leaf s f xs) i) [
      | inl e ↦ let P : Leaf → Type 0 = λ w. In w (without_leaf s f (with_leaf x xs)) in
          subst P (sym e) (In-without x s f (with_leaf x xs) (In-with x xs) other)
      | inr j ↦ In-without z s f (with_leaf x xs) (stays-with z x xs (without-In z s f xs j) (new z (without-In z s f xs j))) (without-other z s f xs j)
    ])
    (λ z i. elim (with-In z x xs (without-In z s f (with_leaf x xs) i)) [
      | inl e ↦ let P : Leaf → Type 0 = λ w. In w (with_leaf x (without_leaf s f xs)) in subst P (sym e) (In-with x (without_leaf s f xs))
      | inr j ↦ stays-with z x (without_leaf s f xs) (In-without z s f xs j (without-other z s f (with_leaf x xs) i)) (new z j)
    ])

-- A leaf taken out and put back.
pub put-back : (x : Leaf) (xs : List Leaf) → IsSorted xs → In x xs → with_leaf x (without_leaf x.space x.first xs) ≡ xs
put-back x xs sorted i =
    same-sorted (with_leaf x (without_leaf x.space x.first xs)) xs (sorted-with x (without_leaf x.space x.first xs) (sorted-without x.space x.first xs sorted)) sorted
    (λ z j. elim (with-In z x (without_leaf x.space x.first xs) j) [
      | inl e ↦ let P : Leaf → Type 0 = λ w. In w xs in subst P (sym e) i
      | inr k ↦ without-In z x.space x.first xs k
    ])
    (λ z j. elim (leaf_key z == leaf_key x) as (λ b. (leaf_key z == leaf_key x) ≡ b → In z (with_leaf x (without_leaf x.space x.first xs))) [
      | true ↦ λ t.
          let e : leaf_key z ≡ leaf_key x = grind (arith, nat_tests) in
          let same : z ≡ x = same-place z x xs sorted j i e in
          subst (λ (w : Leaf). In w (with_leaf x (without_leaf x.space x.first xs))) (sym same) (In-with x (without_leaf x.space x.first xs))
      | false ↦ λ t.
          let other : leaf_key z ≡ leaf_key x → ⊥ = λ e. grind (arith, nat_tests) in
          stays-with z x (without_leaf x.space x.first xs) (In-without z x.space x.first xs j other) other
    ] refl)

-- A leaf put in and taken out again.
pub took-back : (x : Leaf) (xs : List Leaf) → IsSorted xs → ((z : Leaf) → In z xs → leaf_key z ≡ leaf_key x → ⊥) → without_leaf x.space x.first (with_leaf x xs) ≡ xs
took-back x xs sorted new =
    same-sorted (without_leaf x.space x.first (with_leaf x xs)) xs (sorted-without x.space x.first (with_leaf x xs) (sorted-with x xs sorted)) sorted
    (λ z j. elim (with-In z x xs (without-In z x.space x.first (with_leaf x xs) j)) [
      | inl e ↦ absurd (without-other z x.space x.first (with_leaf x xs) j (ap leaf_key e))
      | inr k ↦ k
    ])
    (λ z j. In-without z x.space x.first (with_leaf x xs) (stays-with z x xs j (new z j)) (new z j))
