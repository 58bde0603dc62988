-- The kept leaf of a name, and the leaves without it.
use Rattle.xl_model_table.proofs.Common.{◌∙◌, ◌≡◌, [], Bool, both, false, filter, filter-In, filter-passes, In, In-filter, In-without, is_leaf, IsKept, Leaf, leaf_key, List, mapping-In, mapping-sorted, mapping_of, named-key, not, not-true, Order, same-place, same-sorted, sorted-without, subst, sym, true, without-In, without-other, without_leaf, without_named, ℕ}
use Rattle.xl_model.proofs.BoolLemmas.{not-so}
use Rattle.xl_model_table.proofs.KeptLemmas.{In-mapping, kept-filter}

-- a leaf that has the named leaf's place is that leaf
pub named-one : (s f : ℕ) (o : Order) (old z : Leaf) (xs : List Leaf) → IsKept xs → In old xs → is_leaf s f o old ≡ true → In z xs → leaf_key z ≡ leaf_key old → z ≡ old
named-one s f o old z xs k i named j e = same-place z old (mapping_of xs) (mapping-sorted xs) (In-mapping z xs k j) (In-mapping old xs k i) e

pub named-same : (s f : ℕ) (o : Order) (old z : Leaf) (xs : List Leaf) → IsKept xs → In old xs → is_leaf s f o old ≡ true → In z xs → is_leaf s f o z ≡ true → z ≡ old
named-same s f o old z xs k i named j h = named-one s f o old z xs k i named j (named-key s f o z h ∙ sym (named-key s f o old named))

-- a leaf of another name is of another place
pub other-key : (s f : ℕ) (o : Order) (old z : Leaf) (xs : List Leaf) → IsKept xs → In old xs → is_leaf s f o old ≡ true → In z xs → is_leaf s f o z ≡ false → leaf_key z ≡ leaf_key old → ⊥
other-key s f o old z xs k i named j other e =
    both _ named (subst (λ (w : Leaf). is_leaf s f o w ≡ false) (named-one s f o old z xs k i named j e) other)

-- the leaf of a name taken out
pub mapping-without : (s f : ℕ) (o : Order) (old : Leaf) (xs : List Leaf) → IsKept xs → In old xs → is_leaf s f o old ≡ true
    → without_leaf old.space old.first (mapping_of xs) ≡ mapping_of (without_named s f o xs)
unfolding without_named
mapping-without s f o old xs k i named =
    let p : Leaf → Bool = λ leaf. not (is_leaf s f o leaf) in
    same-sorted (without_leaf old.space old.first (mapping_of xs)) (mapping_of (filter p xs))
    (sorted-without old.space old.first (mapping_of xs) (mapping-sorted xs)) (mapping-sorted (filter p xs))
    (λ z j. In-mapping z (filter p xs) (kept-filter p xs k)
    (In-filter p z xs (mapping-In z xs (without-In z old.space old.first (mapping_of xs) j))
    (not-so (is_leaf s f o z) (λ h. without-other z old.space old.first (mapping_of xs) j (named-key s f o z h ∙ sym (named-key s f o old named))))))
    (λ z j.
    let m : In z (filter p xs) = mapping-In z (filter p xs) j in
    let n : In z xs = filter-In p z xs m in
    In-without z old.space old.first (mapping_of xs) (In-mapping z xs k n)
    (other-key s f o old z xs k i named n (not-true (is_leaf s f o z) (filter-passes p z xs m))))

pub kept-without : (s f : ℕ) (o : Order) (xs : List Leaf) → IsKept xs → IsKept (without_named s f o xs)
unfolding without_named
kept-without s f o xs k = kept-filter _ xs k
