-- Kept leaves are those of their mapping; fewer of them are kept too.
use Rattle.xl_model_table.proofs.Common.{◌∙◌, ◌∷◌, ◌≡◌, [], all-In, all-tail, any-false, Bool, both, cond, false, filter, filter-In, In, In-all, In-with, inl, inr, IsApart, IsKept, IsPlaced, Leaf, leaf_key, List, mapping_of, meets-sym, meets_block, none-any, place-meets, refl, stays-with, subst, sym, true, with_leaf}

pub key-apart : (x y : Leaf) → IsPlaced x → IsPlaced y → meets_block x.space x.first x.order y ≡ false → leaf_key y ≡ leaf_key x → ⊥
key-apart x y a b h e = both _ (place-meets x y a b e) h

pub kept-tail : (x : Leaf) (xs : List Leaf) → IsKept (x ∷ xs) → IsKept xs
kept-tail x xs k = record { placed = all-tail IsPlaced x xs k.placed; apart = k.apart.1 }

-- members that overlap are one
apart-same : (x y : Leaf) (xs : List Leaf) → IsApart xs → In x xs → In y xs → meets_block x.space x.first x.order y ≡ true → x ≡ y
apart-same x y [] a i j h = absurd i
apart-same x y (z ∷ zs) (none, rest) (inl e) (inl f) h = e ∙ sym f
apart-same x y (z ∷ zs) (none, rest) (inl e) (inr j) h =
    absurd (both _ (subst (λ (w : Leaf). meets_block w.space w.first w.order y ≡ true) e h) (any-false (meets_block z.space z.first z.order) y zs none j))
apart-same x y (z ∷ zs) (none, rest) (inr i) (inl f) h =
    absurd (both _ h (meets-sym y x (subst (λ (w : Leaf). meets_block w.space w.first w.order x ≡ false) (sym f) (any-false (meets_block z.space z.first z.order) x zs none i))))
apart-same x y (z ∷ zs) (none, rest) (inr i) (inr j) h = apart-same x y zs rest i j h

pub kept-same : (x y : Leaf) (xs : List Leaf) → IsKept xs → In x xs → In y xs → meets_block x.space x.first x.order y ≡ true → x ≡ y
kept-same x y xs k i j h = apart-same x y xs k.apart i j h

pub In-mapping : (z : Leaf) (xs : List Leaf) → IsKept xs → In z xs → In z (mapping_of xs)
unfolding mapping_of
In-mapping z [] k i = absurd i
In-mapping z (x ∷ xs) k (inl e) = let P : Leaf → Type 0 = λ w. In w (with_leaf x (mapping_of xs)) in subst P (sym e) (In-with x (mapping_of xs))
In-mapping z (x ∷ xs) k (inr i) =
    let a : IsPlaced x = all-In IsPlaced x (x ∷ xs) k.placed (inl refl) in
    let b : IsPlaced z = all-In IsPlaced z (x ∷ xs) k.placed (inr i) in
    stays-with z x (mapping_of xs) (In-mapping z xs (kept-tail x xs k) i)
    (key-apart x z a b (any-false (meets_block x.space x.first x.order) z xs k.apart.0 i))

-- fewer leaves are kept too
apart-filter : (p : Leaf → Bool) (xs : List Leaf) → IsApart xs → IsApart (filter p xs)
apart-filter p [] a = tt
apart-filter p (x ∷ xs) (none, rest) =
    elim (p x) as (λ b. IsApart (cond b (x ∷ filter p xs) (filter p xs))) [
      | true ↦ (none-any (meets_block x.space x.first x.order) (filter p xs) (λ z i. any-false (meets_block x.space x.first x.order) z xs none (filter-In p z xs i)), apart-filter p xs rest)
      | false ↦ apart-filter p xs rest
    ]

pub kept-filter : (p : Leaf → Bool) (xs : List Leaf) → IsKept xs → IsKept (filter p xs)
kept-filter p xs k = record {
  placed = In-all IsPlaced (filter p xs) (λ z i. all-In IsPlaced z xs k.placed (filter-In p z xs i));
  apart = apart-filter p xs k.apart;
}
