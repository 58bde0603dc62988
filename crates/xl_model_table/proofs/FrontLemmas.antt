-- A new leaf among kept leaves: before the first of a bucket that is not lower.
use Rattle.xl_model_table.proofs.Common.{◌∷◌, ◌≡◌, ◌⊎◌, [], all-In, any-false, bucket_of, by-In, cond, false, In, In-all, In-by, In-with, in_front, inl, inr, IsApart, IsKept, IsPlaced, Leaf, leaf_key, leaf_tag, length, length-by, List, mapping-In, mapping-sorted, mapping_of, meets-sym, meets_block, nat_lt, none-any, refl, same-sorted, sorted-with, stays-by, stays-with, subst, suc, sym, true, with-In, with_leaf, ℕ}
use Rattle.xl_model_table.proofs.KeptLemmas.{In-mapping, key-apart}

-- members of the list with a new leaf
pub front-In : (b : ℕ) (z x : Leaf) (xs : List Leaf) → In z (in_front b x xs) → (z ≡ x) ⊎ In z xs
unfolding in_front
front-In b z x xs i = by-In (leaf_tag 1) b z x xs i

pub In-front : (b : ℕ) (x : Leaf) (xs : List Leaf) → In x (in_front b x xs)
unfolding in_front
In-front b x xs = In-by (leaf_tag 1) b x xs

pub stays-front : (b : ℕ) (z x : Leaf) (xs : List Leaf) → In z xs → In z (in_front b x xs)
unfolding in_front
stays-front b z x xs i = stays-by (leaf_tag 1) b z x xs i

pub length-front : (b : ℕ) (x : Leaf) (xs : List Leaf) → length (in_front b x xs) ≡ suc (length xs)
unfolding in_front
length-front b x xs = length-by (leaf_tag 1) b x xs

-- the list is kept where no leaf overlaps the new one
abbrev pub IsNew : Leaf → List Leaf → Type 0
IsNew x xs = (y : Leaf) → In y xs → meets_block x.space x.first x.order y ≡ false

apart-front : (b : ℕ) (x : Leaf) (xs : List Leaf) → IsApart xs → IsNew x xs → IsApart (in_front b x xs)
unfolding in_front
apart-front b x [] a new = (refl, tt)
apart-front b x (y ∷ ys) (none, rest) new =
    elim (nat_lt (bucket_of b (leaf_tag 1 y)) (bucket_of b (leaf_tag 1 x))) as (λ t. IsApart (cond t (y ∷ in_front b x ys) (x ∷ y ∷ ys))) [
      | true ↦ (
        none-any (meets_block y.space y.first y.order) (in_front b x ys) (λ z i. elim (front-In b z x ys i) [
          | inl e ↦ let P : Leaf → Type 0 = λ w. meets_block y.space y.first y.order w ≡ false in subst P (sym e) (meets-sym x y (new y (inl refl)))
          | inr j ↦ any-false (meets_block y.space y.first y.order) z ys none j
        ]),
        apart-front b x ys rest (λ z i. new z (inr i)),
      )
      | false ↦ (none-any (meets_block x.space x.first x.order) (y ∷ ys) new, (none, rest))
    ]

pub kept-front : (b : ℕ) (x : Leaf) (xs : List Leaf) → IsKept xs → IsPlaced x → IsNew x xs → IsKept (in_front b x xs)
kept-front b x xs k at new = record {
  placed = In-all IsPlaced (in_front b x xs) (λ z i. elim (front-In b z x xs i) [
    | inl e ↦ subst IsPlaced (sym e) at
    | inr j ↦ all-In IsPlaced z xs k.placed j
  ]);
  apart = apart-front b x xs k.apart new;
}

pub new-key : (x z : Leaf) (xs : List Leaf) → IsKept xs → IsPlaced x → IsNew x xs → In z xs → leaf_key z ≡ leaf_key x → ⊥
new-key x z xs k at new i = key-apart x z at (all-In IsPlaced z xs k.placed i) (new z i)

pub mapping-front : (b : ℕ) (x : Leaf) (xs : List Leaf) → IsKept xs → IsPlaced x → IsNew x xs → with_leaf x (mapping_of xs) ≡ mapping_of (in_front b x xs)
mapping-front b x xs k at new =
    same-sorted (with_leaf x (mapping_of xs)) (mapping_of (in_front b x xs)) (sorted-with x (mapping_of xs) (mapping-sorted xs)) (mapping-sorted (in_front b x xs))
    (λ z i. In-mapping z (in_front b x xs) (kept-front b x xs k at new) (elim (with-In z x (mapping_of xs) i) [
      | inl e ↦ let P : Leaf → Type 0 = λ w. In w (in_front b x xs) in subst P (sym e) (In-front b x xs)
      | inr j ↦ stays-front b z x xs (mapping-In z xs j)
    ]))
    (λ z i. elim (front-In b z x xs (mapping-In z (in_front b x xs) i)) [
      | inl e ↦ let P : Leaf → Type 0 = λ w. In w (with_leaf x (mapping_of xs)) in subst P (sym e) (In-with x (mapping_of xs))
      | inr j ↦ stays-with z x (mapping_of xs) (In-mapping z xs k j) (new-key x z xs k at new j)
    ])
