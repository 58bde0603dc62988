-- Kept leaves: those of one place overlap; their mapping is sorted, and has no others.
use Rattle.xl_model_lemmas.proofs.Common.{◌<◌, ◌^◌, ◌∷◌, ◌≡◌, [], arith, false, In, inl, inr, IsPlaced, IsSorted, Leaf, leaf_key, List, mapping_of, meets_block, nat_tests, pages_of, true}
use Rattle.xl_model_lemmas.proofs.InsertionLemmas.{sorted-with, with-In}
use Rattle.xl_model_lemmas.proofs.PlaceLemmas.{pages-some}

pub meets-sym : (x y : Leaf) → meets_block x.space x.first x.order y ≡ false → meets_block y.space y.first y.order x ≡ false
meets-sym x y h = grind (arith, nat_tests)

-- leaves of one place overlap
pub place-meets : (x y : Leaf) → IsPlaced x → IsPlaced y → leaf_key y ≡ leaf_key x → meets_block x.space x.first x.order y ≡ true
place-meets x y a b e =
    let p : 0 < pages_of x.order = pages-some x.order in
    let q : 0 < pages_of y.order = pages-some y.order in
    let k : x.first < 2 ^ 45 = a.page_in in
    let l : y.first < 2 ^ 45 = b.page_in in
    let s : y.space ≡ x.space = omega arith in
    let f : y.first ≡ x.first = omega arith in
    grind (arith, nat_tests)

-- the mapping is sorted, and its leaves are the kept ones
pub mapping-sorted : (xs : List Leaf) → IsSorted (mapping_of xs)
unfolding mapping_of
mapping-sorted [] = tt
mapping-sorted (x ∷ xs) = sorted-with x (mapping_of xs) (mapping-sorted xs)

pub mapping-In : (z : Leaf) (xs : List Leaf) → In z (mapping_of xs) → In z xs
unfolding mapping_of
mapping-In z [] i = absurd i
mapping-In z (x ∷ xs) i = elim (with-In z x (mapping_of xs) i) [ inl e ↦ inl e | inr j ↦ inr (mapping-In z xs j) ]
