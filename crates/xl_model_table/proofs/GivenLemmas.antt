-- Kept leaves with another permission for the one of a name.
use Rattle.xl_model_table.proofs.Common.{◌∙◌, ◌∷◌, ◌≡◌, [], all-In, any-false, ap, Bool, false, false_from_ne_true, In, In-all, In-map, In-with, In-without, inl, inr, is_leaf, IsApart, IsKept, IsPlaced, Leaf, leaf_key, length, List, map, map-In, mapping-In, mapping-sorted, mapping_of, meets_block, named-key, none-any, Order, Perm, protected_where, refl, same-sorted, sorted-with, sorted-without, stays-with, subst, suc, sym, true, with-In, with_leaf, with_perm_named, without-In, without-other, without_leaf, ℕ}
use Rattle.xl_model_table.proofs.KeptLemmas.{In-mapping}
use Rattle.xl_model_table.proofs.WithoutLemmas.{named-same, other-key}

-- another permission
same-meets : (a b : Bool) (perm : Perm) (x y : Leaf)
    → meets_block (protected_where a perm x).space (protected_where a perm x).first (protected_where a perm x).order (protected_where b perm y) ≡ meets_block x.space x.first x.order y
same-meets true true perm x y = refl
same-meets true false perm x y = refl
same-meets false true perm x y = refl
same-meets false false perm x y = refl

same-placed : (a : Bool) (perm : Perm) (x : Leaf) → IsPlaced x → IsPlaced (protected_where a perm x)
same-placed true perm x at = record { space_in = at.space_in; page_in = at.page_in }
same-placed false perm x at = at

unfoldable pub given : ℕ → ℕ → Order → Perm → Leaf → Leaf
given s f o perm leaf = protected_where (is_leaf s f o leaf) perm leaf

apart-given : (s f : ℕ) (o : Order) (perm : Perm) (xs : List Leaf) → IsApart xs → IsApart (map (given s f o perm) xs)
unfolding given
apart-given s f o perm [] a = tt
apart-given s f o perm (x ∷ xs) (none, rest) = (
  none-any _ (map (given s f o perm) xs) (λ z i.
      let found = map-In (given s f o perm) z xs i in
      let P : Leaf → Type 0 = λ w. meets_block (given s f o perm x).space (given s f o perm x).first (given s f o perm x).order w ≡ false in
      subst P (sym found.2) (same-meets (is_leaf s f o x) (is_leaf s f o found.0) perm x found.0 ∙ any-false (meets_block x.space x.first x.order) found.0 xs none found.1)),
  apart-given s f o perm xs rest,
)

kept-given : (s f : ℕ) (o : Order) (perm : Perm) (xs : List Leaf) → IsKept xs → IsKept (map (given s f o perm) xs)
unfolding given
kept-given s f o perm xs k = record {
  placed = In-all IsPlaced (map (given s f o perm) xs) (λ z i.
      let found = map-In (given s f o perm) z xs i in
      subst IsPlaced (sym found.2) (same-placed (is_leaf s f o found.0) perm found.0 (all-In IsPlaced found.0 xs k.placed found.1)));
  apart = apart-given s f o perm xs k.apart;
}

pub given-yes : (s f : ℕ) (o : Order) (perm : Perm) (x : Leaf) → is_leaf s f o x ≡ true → given s f o perm x ≡ record x { perm = perm }
unfolding given
given-yes s f o perm x h = rw h refl

pub given-no : (s f : ℕ) (o : Order) (perm : Perm) (x : Leaf) → is_leaf s f o x ≡ false → given s f o perm x ≡ x
unfolding given
given-no s f o perm x h = rw h refl

mapping-given : (s f : ℕ) (o : Order) (perm : Perm) (old : Leaf) (xs : List Leaf) → IsKept xs → In old xs → is_leaf s f o old ≡ true
    → with_leaf (record old { perm = perm }) (without_leaf old.space old.first (mapping_of xs)) ≡ mapping_of (map (given s f o perm) xs)
mapping-given s f o perm old xs k i named =
    let new : Leaf = record old { perm = perm } in
    let rest : List Leaf = without_leaf old.space old.first (mapping_of xs) in
    let ys : List Leaf = map (given s f o perm) xs in
    same-sorted (with_leaf new rest) (mapping_of ys)
    (sorted-with new rest (sorted-without old.space old.first (mapping_of xs) (mapping-sorted xs))) (mapping-sorted ys)
    (λ z j. In-mapping z ys (kept-given s f o perm xs k) (elim (with-In z new rest j) [
      | inl e ↦ let P : Leaf → Type 0 = λ w. In w ys in
          subst P (given-yes s f o perm old named ∙ sym e) (In-map (given s f o perm) old xs i)
      | inr m ↦
          let n : In z xs = mapping-In z xs (without-In z old.space old.first (mapping_of xs) m) in
          let unnamed : is_leaf s f o z ≡ false = false_from_ne_true (is_leaf s f o z) (λ h. without-other z old.space old.first (mapping_of xs) m (named-key s f o z h ∙ sym (named-key s f o old named))) in
          subst (λ (w : Leaf). In w ys) (given-no s f o perm z unnamed) (In-map (given s f o perm) z xs n)
    ]))
    (λ z j.
    let found = map-In (given s f o perm) z xs (mapping-In z ys j) in
    let P : Leaf → Type 0 = λ w. In w (with_leaf new rest) in
    subst P (sym found.2) (elim (is_leaf s f o found.0) as (λ b. is_leaf s f o found.0 ≡ b → In (given s f o perm found.0) (with_leaf new rest)) [
      | true ↦ λ t.
          let same : found.0 ≡ old = named-same s f o old found.0 xs k i named found.1 t in
          subst P (sym (given-yes s f o perm found.0 t)) (subst (λ (w : Leaf). In (record w { perm = perm }) (with_leaf new rest)) (sym same) (In-with new rest))
      | false ↦ λ t.
          let other : leaf_key found.0 ≡ leaf_key old → ⊥ = other-key s f o old found.0 xs k i named found.1 t in
          subst P (sym (given-no s f o perm found.0 t))
          (stays-with found.0 new rest (In-without found.0 old.space old.first (mapping_of xs) (In-mapping found.0 xs k found.1) other) other)
    ] refl))

pub perm-named-is : (s f : ℕ) (o : Order) (perm : Perm) (xs : List Leaf) → with_perm_named s f o perm xs ≡ map (given s f o perm) xs
unfolding with_perm_named given
perm-named-is s f o perm xs = refl

pub kept-protected : (s f : ℕ) (o : Order) (perm : Perm) (xs : List Leaf) → IsKept xs → IsKept (with_perm_named s f o perm xs)
kept-protected s f o perm xs k = rw (perm-named-is s f o perm xs) (kept-given s f o perm xs k)

length-given : (s f : ℕ) (o : Order) (perm : Perm) (xs : List Leaf) → length (map (given s f o perm) xs) ≡ length xs
length-given s f o perm [] = refl
length-given s f o perm (x ∷ xs) = ap suc (length-given s f o perm xs)

pub length-protected : (s f : ℕ) (o : Order) (perm : Perm) (xs : List Leaf) → length (with_perm_named s f o perm xs) ≡ length xs
length-protected s f o perm xs = ap length (perm-named-is s f o perm xs) ∙ length-given s f o perm xs

pub mapping-protected : (s f : ℕ) (o : Order) (perm : Perm) (old : Leaf) (xs : List Leaf) → IsKept xs → In old xs → is_leaf s f o old ≡ true
    → with_leaf (record old { perm = perm }) (without_leaf old.space old.first (mapping_of xs)) ≡ mapping_of (with_perm_named s f o perm xs)
mapping-protected s f o perm old xs k i named = rw (perm-named-is s f o perm xs) (mapping-given s f o perm old xs k i named)
