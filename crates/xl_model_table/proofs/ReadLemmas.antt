-- What is read of kept leaves is what their mapping says: blocks that overlap, the leaf of a page,
-- the leaf of a name.
use Rattle.xl_model_table.proofs.Common.{◌≡◌, any-false, any-same, ap, both, covers, covers-meets, false, find, find-same, In, is_leaf, is_some, IsKept, IsNamed, Leaf, leaf_at_page, leaf_named, List, list_any, mapping-In, mapping_of, meets_any, meets_block, named-In, named-is, None, Option, Order, refl, Some, true, ℕ}
use Rattle.xl_model_table.proofs.FrontLemmas.{IsNew}
use Rattle.xl_model_table.proofs.KeptLemmas.{In-mapping, kept-same}
use Rattle.xl_model_table.proofs.WithoutLemmas.{named-same}

pub meets-mapping : (s f : ℕ) (o : Order) (xs : List Leaf) → IsKept xs → list_any (meets_block s f o) xs ≡ meets_any s f o (mapping_of xs)
unfolding meets_any
meets-mapping s f o xs k = any-same (meets_block s f o) xs (mapping_of xs) (λ z i. In-mapping z xs k i) (λ z i. mapping-In z xs i)

pub leaf-at-mapping : (s page : ℕ) (xs : List Leaf) → IsKept xs → find (covers s page) xs ≡ leaf_at_page s page (mapping_of xs)
unfolding leaf_at_page
leaf-at-mapping s page xs k =
    find-same (covers s page) xs (mapping_of xs) (λ z i. In-mapping z xs k i) (λ z i. mapping-In z xs i)
    (λ x y i j a b. kept-same y x xs k (mapping-In y xs j) (mapping-In x xs i) (covers-meets s page y x b a))

pub named-mapping : (s f : ℕ) (o : Order) (xs : List Leaf) → IsKept xs → find (is_leaf s f o) xs ≡ leaf_named s f o (mapping_of xs)
unfolding leaf_named
named-mapping s f o xs k =
    find-same (is_leaf s f o) xs (mapping_of xs) (λ z i. In-mapping z xs k i) (λ z i. mapping-In z xs i)
    (λ x y i j a b. named-same s f o x y xs k (mapping-In x xs i) a (mapping-In y xs j) b)

pub is-new : (x : Leaf) (xs : List Leaf) → IsKept xs → meets_any x.space x.first x.order (mapping_of xs) ≡ false → IsNew x xs
unfolding meets_any
is-new x xs k free = λ y i. any-false (meets_block x.space x.first x.order) y (mapping_of xs) free (In-mapping y xs k i)

-- the leaf of a name
pub record Named (s f : ℕ) (o : Order) (xs : List Leaf) : Type 0 where
  pub old : Leaf
  pub named : leaf_named s f o (mapping_of xs) ≡ Some old
  pub there : In old xs
  pub is : is_leaf s f o old ≡ true

pub some-named : (s f : ℕ) (o : Order) (old : Leaf) (xs : List Leaf) → leaf_named s f o (mapping_of xs) ≡ Some old → Named s f o xs
some-named s f o old xs h = record {
  old = old;
  named = h;
  there = mapping-In old xs (named-In s f o old (mapping_of xs) h);
  is = named-is s f o old (mapping_of xs) h;
}

pub named-of : (s f : ℕ) (o : Order) (xs : List Leaf) → IsNamed s f o (mapping_of xs) → Named s f o xs
named-of s f o xs h = go (leaf_named s f o (mapping_of xs)) refl
  where
    go : (found : Option Leaf) → leaf_named s f o (mapping_of xs) ≡ found → Named s f o xs
    go None e = let k : is_some (leaf_named s f o (mapping_of xs)) ≡ false = ap is_some e in absurd (both _ h k)
    go (Some old) e = some-named s f o old xs e
