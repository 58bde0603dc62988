-- A leaf put into a sorted list of leaves, and one taken out.
use Rattle.xl_model_lemmas.proofs.Common.{◌*◌, ◌+◌, ◌<◌, ◌==◌, ◌^◌, ◌∙◌, ◌∷◌, ◌≡◌, ◌⊎◌, [], AllAbove, ap, arith, Bool, cond, false, filter, filter-In, filter-passes, In, In-filter, inl, inr, IsSorted, Leaf, leaf_key, List, nat_lt, nat_tests, refl, subst, sym, true, with_leaf, without_leaf, ℕ}

-- the tests of a list with one leaf more, taken one by one
abbrev with_by : Bool → Bool → Leaf → Leaf → List Leaf → List Leaf
with_by same less x y ys = cond same (x ∷ ys) (cond less (x ∷ y ∷ ys) (y ∷ with_leaf x ys))

-- a member of the new list is the new leaf or one of the old
pub with-In : (z x : Leaf) (xs : List Leaf) → In z (with_leaf x xs) → (z ≡ x) ⊎ In z xs
with-In z x [] (inl e) = inl e
with-In z x [] (inr i) = absurd i
with-In z x (y ∷ ys) i =
    elim (leaf_key x == leaf_key y) as (λ b. In z (with_by b (nat_lt (leaf_key x) (leaf_key y)) x y ys) → (z ≡ x) ⊎ In z (y ∷ ys)) [
      | true ↦ λ j. elim j [ inl e ↦ inl e | inr k ↦ inr (inr k) ]
      | false ↦ λ j. elim (nat_lt (leaf_key x) (leaf_key y)) as (λ b. In z (cond b (x ∷ y ∷ ys) (y ∷ with_leaf x ys)) → (z ≡ x) ⊎ In z (y ∷ ys)) [
        | true ↦ λ k. elim k [ inl e ↦ inl e | inr m ↦ inr m ]
        | false ↦ λ k. elim k [
          | inl e ↦ inr (inl e)
          | inr m ↦ elim (with-In z x ys m) [ inl e ↦ inl e | inr n ↦ inr (inr n) ]
        ]
      ] j
    ] i

-- the new leaf is a member
pub In-with : (x : Leaf) (xs : List Leaf) → In x (with_leaf x xs)
In-with x [] = inl refl
In-with x (y ∷ ys) =
    elim (leaf_key x == leaf_key y) as (λ b. In x (with_by b (nat_lt (leaf_key x) (leaf_key y)) x y ys)) [
      | true ↦ inl refl
      | false ↦ elim (nat_lt (leaf_key x) (leaf_key y)) as (λ b. In x (cond b (x ∷ y ∷ ys) (y ∷ with_leaf x ys))) [
        | true ↦ inl refl
        | false ↦ inr (In-with x ys)
      ]
    ]

-- a leaf of another place stays a member
pub stays-with : (z x : Leaf) (xs : List Leaf) → In z xs → (leaf_key z ≡ leaf_key x → ⊥) → In z (with_leaf x xs)
stays-with z x [] i other = absurd i
stays-with z x (y ∷ ys) i other =
    elim (leaf_key x == leaf_key y) as (λ b. (leaf_key x == leaf_key y) ≡ b → In z (with_by b (nat_lt (leaf_key x) (leaf_key y)) x y ys)) [
      | true ↦ λ t. elim i [
        | inl e ↦ let k : leaf_key z ≡ leaf_key y = ap leaf_key e in absurd (other (grind (arith, nat_tests)))
        | inr j ↦ inr j
      ]
      | false ↦ λ t. elim (nat_lt (leaf_key x) (leaf_key y)) as (λ b. In z (cond b (x ∷ y ∷ ys) (y ∷ with_leaf x ys))) [
        | true ↦ inr i
        | false ↦ elim i [ inl e ↦ inl e | inr j ↦ inr (stays-with z x ys j other) ]
      ]
    ] refl

above-with : (k : ℕ) (x : Leaf) (xs : List Leaf) → AllAbove k xs → k < leaf_key x → AllAbove k (with_leaf x xs)
above-with k x [] h less = (less, tt)
above-with k x (y ∷ ys) (first, rest) less =
    elim (leaf_key x == leaf_key y) as (λ b. AllAbove k (with_by b (nat_lt (leaf_key x) (leaf_key y)) x y ys)) [
      | true ↦ (less, rest)
      | false ↦ elim (nat_lt (leaf_key x) (leaf_key y)) as (λ b. AllAbove k (cond b (x ∷ y ∷ ys) (y ∷ with_leaf x ys))) [
        | true ↦ (less, (first, rest))
        | false ↦ (first, above-with k x ys rest less)
      ]
    ]

above-less : (j k : ℕ) (xs : List Leaf) → j < k → AllAbove k xs → AllAbove j xs
above-less j k [] less h = tt
above-less j k (x ∷ xs) less (first, rest) = (omega arith, above-less j k xs less rest)

-- the new list is sorted
pub sorted-with : (x : Leaf) (xs : List Leaf) → IsSorted xs → IsSorted (with_leaf x xs)
sorted-with x [] h = (tt, tt)
sorted-with x (y ∷ ys) (first, rest) =
    elim (leaf_key x == leaf_key y) as (λ b. (leaf_key x == leaf_key y) ≡ b → IsSorted (with_by b (nat_lt (leaf_key x) (leaf_key y)) x y ys)) [
      | true ↦ λ t. let e : leaf_key y ≡ leaf_key x = grind (arith, nat_tests) in
          let P : ℕ → Type 0 = λ k. AllAbove k ys in (subst P e first, rest)
      | false ↦ λ t. elim (nat_lt (leaf_key x) (leaf_key y)) as (λ b. nat_lt (leaf_key x) (leaf_key y) ≡ b → IsSorted (cond b (x ∷ y ∷ ys) (y ∷ with_leaf x ys))) [
        | true ↦ λ l. let less : leaf_key x < leaf_key y = grind (arith, nat_tests) in
            ((less, above-less (leaf_key x) (leaf_key y) ys less first), (first, rest))
        | false ↦ λ l. let more : leaf_key y < leaf_key x = grind (arith, nat_tests) in
            (above-with (leaf_key y) x ys first more, sorted-with x ys rest)
      ] refl
    ] refl

above-filter : (p : Leaf → Bool) (k : ℕ) (xs : List Leaf) → AllAbove k xs → AllAbove k (filter p xs)
above-filter p k [] h = tt
above-filter p k (x ∷ xs) (first, rest) =
    elim (p x) as (λ b. AllAbove k (cond b (x ∷ filter p xs) (filter p xs))) [
      | true ↦ (first, above-filter p k xs rest)
      | false ↦ above-filter p k xs rest
    ]

pub sorted-filter : (p : Leaf → Bool) (xs : List Leaf) → IsSorted xs → IsSorted (filter p xs)
sorted-filter p [] h = tt
sorted-filter p (x ∷ xs) (first, rest) =
    elim (p x) as (λ b. IsSorted (cond b (x ∷ filter p xs) (filter p xs))) [
      | true ↦ (above-filter p (leaf_key x) xs first, sorted-filter p xs rest)
      | false ↦ sorted-filter p xs rest
    ]

pub sorted-without : (space first : ℕ) (xs : List Leaf) → IsSorted xs → IsSorted (without_leaf space first xs)
unfolding without_leaf
sorted-without space first xs h = sorted-filter _ xs h

pub without-In : (x : Leaf) (space first : ℕ) (xs : List Leaf) → In x (without_leaf space first xs) → In x xs
unfolding without_leaf
without-In x space first xs i = filter-In _ x xs i

-- a leaf that stays is of another place
pub without-other : (x : Leaf) (space first : ℕ) (xs : List Leaf) → In x (without_leaf space first xs)
    → leaf_key x ≡ space * 2 ^ 52 + first → ⊥
unfolding without_leaf
without-other x space first xs i e =
    let t : cond (leaf_key x == space * 2 ^ 52 + first) false true ≡ true = filter-passes (λ (leaf : Leaf). cond (leaf_key leaf == space * 2 ^ 52 + first) false true) x xs i in
    grind (arith, nat_tests)

-- a leaf of another place stays
pub In-without : (x : Leaf) (space first : ℕ) (xs : List Leaf) → In x xs → (leaf_key x ≡ space * 2 ^ 52 + first → ⊥)
    → In x (without_leaf space first xs)
unfolding without_leaf
In-without x space first xs i other =
    In-filter (λ (leaf : Leaf). cond (leaf_key leaf == space * 2 ^ 52 + first) false true) x xs i
    (elim (leaf_key x == space * 2 ^ 52 + first) as (λ b. (leaf_key x == space * 2 ^ 52 + first) ≡ b → cond b false true ≡ true) [
      | true ↦ λ t. absurd (other (grind (arith, nat_tests)))
      | false ↦ λ t. refl
    ] refl)

pub above-In : (k : ℕ) (y : Leaf) (xs : List Leaf) → AllAbove k xs → In y xs → k < leaf_key y
above-In k y [] h i = absurd i
above-In k y (x ∷ xs) (first, rest) (inl e) = let P : Leaf → Type 0 = λ z. k < leaf_key z in subst P (sym e) first
above-In k y (x ∷ xs) (first, rest) (inr i) = above-In k y xs rest i

-- two members of one place are one
pub same-place : (x y : Leaf) (xs : List Leaf) → IsSorted xs → In x xs → In y xs → leaf_key x ≡ leaf_key y → x ≡ y
same-place x y [] h i j e = absurd i
same-place x y (z ∷ zs) h (inl a) (inl b) e = a ∙ sym b
same-place x y (z ∷ zs) (first, rest) (inl a) (inr j) e =
    let k : leaf_key z < leaf_key y = above-In (leaf_key z) y zs first j in
    let f : leaf_key x ≡ leaf_key z = ap leaf_key a in
    absurd (omega arith)
same-place x y (z ∷ zs) (first, rest) (inr i) (inl b) e =
    let k : leaf_key z < leaf_key x = above-In (leaf_key z) x zs first i in
    let f : leaf_key y ≡ leaf_key z = ap leaf_key b in
    absurd (omega arith)
same-place x y (z ∷ zs) (first, rest) (inr i) (inr j) e = same-place x y zs rest i j e
