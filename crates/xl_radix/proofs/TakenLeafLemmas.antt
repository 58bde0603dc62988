-- A leaf leaves its slot.
use Rattle.xl_radix.proofs.Common.{if◌then◌else◌, ◌%◌, ◌*◌, ◌+◌, ◌<◌, ◌==◌, ◌^◌, ◌∙◌, ◌∷◌, ◌≡◌, ◌≢◌, ◌≤◌, ◌⊎◌, [], ap, arith, Bool, cases_lt, cond, false, filter, find, In, In-without, in_nodes, inl, inr, is_slot, IsAtNode, IsExact, IsImage, IsNearly, IsRadixMapping, Leaf, leaf_in, leaf_key, length, length-set, level_of, List, nat_tests, Node, None, number_of, Option, refl, same-place, slice_index, slice_index_or, slice_set, Some, sorted-without, subst, sym, true, up, without-In, without-other, without_leaf, word_of, ℕ}
use Rattle.xl_radix.proofs.EndLemmas.{none-word}
use Rattle.xl_radix.proofs.ListLemmas.{find-nothing}
use Rattle.xl_radix.proofs.MadeNodeLemmas.{stored-same}
use Rattle.xl_radix.proofs.PlacedLeafLemmas.{not-slot, own-at, same-word}
use Rattle.xl_radix.proofs.SlotLemmas.{At, in-nodes, in-nodes-leaf, slot-at, Under}

-- the test that a removal keeps a leaf by
abbrev pub stays : ℕ → ℕ → Leaf → Bool
stays space first leaf = if leaf.space * 2 ^ 52 + leaf.first == space * 2 ^ 52 + first then false else true

-- A test that no removed leaf passes finds what it found.
filter-find : (p q : Leaf → Bool) (xs : List Leaf) → ((y : Leaf) → In y xs → q y ≡ false → p y ≡ false) → find p (filter q xs) ≡ find p xs
filter-find p q [] h = refl
filter-find p q (x ∷ xs) h =
    elim (q x) as (λ b. q x ≡ b → find p (cond b (x ∷ filter q xs) (filter q xs)) ≡ cond (p x) (Some x) (find p xs)) [
      | true ↦ λ e. ap (cond (p x) (Some x)) (filter-find p q xs (λ y i. h y (inr i)))
      | false ↦ λ e. rw (h x (inl refl) e) (filter-find p q xs (λ y i. h y (inr i)))
    ] refl

-- a leaf that leaves has the key
leaves-key : (s f : ℕ) (y : Leaf) → stays s f y ≡ false → y.space * 2 ^ 52 + y.first ≡ s * 2 ^ 52 + f
leaves-key s f y e =
    elim (y.space * 2 ^ 52 + y.first == s * 2 ^ 52 + f) as (λ b. (y.space * 2 ^ 52 + y.first == s * 2 ^ 52 + f) ≡ b → (if b then false else true) ≡ false → y.space * 2 ^ 52 + y.first ≡ s * 2 ^ 52 + f) [
      | true ↦ λ t g. grind (arith, nat_tests)
      | false ↦ λ t g. cc
    ] refl e

pub without-in : (x : Leaf) (leaves : List Leaf) (y : Leaf) → In y (without_leaf x.space x.first leaves) → In y leaves × (y ≡ x → ⊥)
without-in x leaves y i =
    (without-In y x.space x.first leaves i, λ e. without-other y x.space x.first leaves i (ap leaf_key e))

pub in-without : (top spaces : ℕ) (x : Leaf) (leaves : List Leaf) (y : Leaf) → IsRadixMapping top spaces leaves → In x leaves → In y leaves → (y ≡ x → ⊥) → In y (without_leaf x.space x.first leaves)
in-without top spaces x leaves y m i j not = In-without y x.space x.first leaves j (λ e. not (same-place y x leaves m.sorted j i e))

pub unplaced-mapping : (top spaces : ℕ) (x : Leaf) (leaves : List Leaf) → IsRadixMapping top spaces leaves → IsRadixMapping top spaces (without_leaf x.space x.first leaves)
unplaced-mapping top spaces x leaves m = record {
  proper = λ y i. m.proper y (without-in x leaves y i).0;
  sorted = sorted-without x.space x.first leaves m.sorted;
  apart = λ y z i j s h e. m.apart y z (without-in x leaves y i).0 (without-in x leaves z j).0 s h e;
}

-- The leaf's own slot is empty, and the other slots have what they had.
pub unplaced-leaf-same : (top spaces s l q : ℕ) (x : Leaf) (leaves : List Leaf) → IsRadixMapping top spaces leaves → In x leaves → At s l q x → leaf_in s l q (without_leaf x.space x.first leaves) ≡ None
unfolding leaf_in
unplaced-leaf-same top spaces s l q x leaves m i at =
    find-nothing (is_slot s l q) (without_leaf x.space x.first leaves) (λ y j t. other y (without-in x leaves y j) (slot-at s l q y t))
  where
    other : (y : Leaf) → In y leaves × (y ≡ x → ⊥) → At s l q y → ⊥
    other y r a =
        let h : level_of y.order ≤ level_of x.order = omega (arith, a.level_is, at.level_is) in
        let block : up (level_of x.order) y.first ≡ up (level_of x.order) x.first = let P : ℕ → Type 0 = λ k. up k y.first ≡ up k x.first in subst P (sym at.level_is) (a.block_is ∙ sym at.block_is) in
        r.1 (m.apart y x r.0 i (a.space_is ∙ sym at.space_is) h block)

pub unplaced-leaf-other : (top spaces s l q : ℕ) (x : Leaf) (leaves : List Leaf) → IsRadixMapping top spaces leaves → In x leaves → is_slot s l q x ≡ false → leaf_in s l q (without_leaf x.space x.first leaves) ≡ leaf_in s l q leaves
unfolding leaf_in without_leaf
unplaced-leaf-other top spaces s l q x leaves m i f =
    filter-find (is_slot s l q) (stays x.space x.first) leaves (λ y j e. let g = same-place y x leaves m.sorted j i (leaves-key x.space x.first y e) in ap (is_slot s l q) g ∙ f)

-- the leaf is in the table, at the node that is there, and no node is below its slot
pub record IsHeld (x : Leaf) (n : ℕ) (leaves : List Leaf) (nodes : List (Option Node)) : Type 0 where
  pub there : In x leaves
  pub at : IsAtNode x.space x.first (level_of x.order) n nodes
  pub absent : number_of x.space (level_of x.order) (up (level_of x.order) x.first) nodes ≡ None

abbrev pub unplaced_words : Leaf → ℕ → List ℕ → List ℕ
unplaced_words x n words = slice_set words (n * 512 + up (level_of x.order) x.first % 512) 0

pub unplaced-same : (top spaces : ℕ) (x : Leaf) (n m i : ℕ) (leaves : List Leaf) (nodes : List (Option Node)) (words : List ℕ) → IsRadixMapping top spaces leaves → IsImage top leaves nodes words → IsHeld x n leaves nodes → m < length nodes → i < 512 →
    slice_index (unplaced_words x n words) (m * 512 + i) ≡ word_of (without_leaf x.space x.first leaves) nodes (slice_index_or nodes m None) i
unplaced-same top spaces x n m i leaves nodes words mapping image held h g =
    stored-same top x.space x.first (level_of x.order) n 0 m i leaves (without_leaf x.space x.first leaves) nodes nodes words image held.at h g
    (none-word x.space (level_of x.order) (up (level_of x.order) x.first) (without_leaf x.space x.first leaves) nodes (unplaced-leaf-same top spaces x.space (level_of x.order) (up (level_of x.order) x.first) x leaves mapping held.there (own-at x)) held.absent)
    (λ a b c other. same-word a b c (without_leaf x.space x.first leaves) leaves nodes (unplaced-leaf-other top spaces a b c x leaves mapping held.there (not-slot x a b c other)))

pub unplaced : (top spaces : ℕ) (x : Leaf) (n : ℕ) (leaves : List Leaf) (nodes : List (Option Node)) (words : List ℕ) → IsRadixMapping top spaces leaves → IsImage top leaves nodes words → IsHeld x n leaves nodes → IsImage top (without_leaf x.space x.first leaves) nodes (unplaced_words x n words)
unplaced top spaces x n leaves nodes words mapping image held = record {
  size = length-set {A = ℕ} words (n * 512 + up (level_of x.order) x.first % 512) 0 ∙ image.size;
  same = λ m i h g. unplaced-same top spaces x n m i leaves nodes words mapping image held h g;
  apart = image.apart;
  closed = image.closed;
  full = λ a b c h g. full a b c (in-nodes-leaf a b c (without_leaf x.space x.first leaves) h) g;
}
  where
    full : (a b c : ℕ) → (z : Leaf) × In z (without_leaf x.space x.first leaves) × Under a b c z → b ≤ top → number_of a b c nodes ≡ None → ⊥
    full a b c r g = image.full a b c (in-nodes a b c leaves r.0 (without-in x leaves r.0 r.1).0 r.2) g

-- After the leaf left, the nodes of its path alone may be needed no more.
pub unplaced-nearly : (top spaces : ℕ) (x : Leaf) (leaves : List Leaf) (nodes : List (Option Node)) → IsRadixMapping top spaces leaves → In x leaves → IsExact top leaves nodes → IsNearly top x.space x.first (level_of x.order) (without_leaf x.space x.first leaves) nodes
unplaced-nearly top spaces x leaves nodes m i exact = record {
  nearly = λ a b c n h. needed a b c (exact.needed a b c n h);
}
  where
    same-or : (z : Leaf) → In z leaves → (z ≡ x) ⊎ In z (without_leaf x.space x.first leaves)
    same-or z j = elim (cases_lt (leaf_key z) (leaf_key x)) [
      | inl lt ↦ inr (in-without top spaces x leaves z m i j (λ e. let f = ap leaf_key e in omega (arith, f, lt)))
      | inr ge ↦ elim (cases_lt (leaf_key x) (leaf_key z)) [
        | inl lt ↦ inr (in-without top spaces x leaves z m i j (λ e. let f = ap leaf_key e in omega (arith, f, lt)))
        | inr le ↦ inl (same-place z x leaves m.sorted j i (omega arith))
      ]
    ]

    kept : (a b c : ℕ) → (z : Leaf) × In z leaves × Under a b c z → (b ≡ top) ⊎ ((in_nodes a b c (without_leaf x.space x.first leaves) ≡ true) ⊎ ((a ≡ x.space) × (level_of x.order < b) × (c ≡ up b x.first)))
    kept a b c r = elim (same-or r.0 r.1) [
      | inl e ↦ let u = subst (λ (v : Leaf). Under a b c v) e r.2 in inr (inr (sym u.space_is, u.level_in, sym u.block_is))
      | inr j ↦ inr (inl (in-nodes a b c (without_leaf x.space x.first leaves) r.0 j r.2))
    ]

    needed : (a b c : ℕ) → (b ≡ top) ⊎ (in_nodes a b c leaves ≡ true) → (b ≡ top) ⊎ ((in_nodes a b c (without_leaf x.space x.first leaves) ≡ true) ⊎ ((a ≡ x.space) × (level_of x.order < b) × (c ≡ up b x.first)))
    needed a b c (inl e) = inl e
    needed a b c (inr e) = kept a b c (in-nodes-leaf a b c leaves e)
