-- Tags of kept leaves: each has its own, and how each call changes their list. For the tables of chains.
use Rattle.xl_model_table.proofs.Common.{◌==◌, ◌∙◌, ◌∷◌, ◌≡◌, [], all-In, ap, Bool, both, cond, eq-eqb, eqb-true, false, false_from_ne_true, filter, filter-In, filter-passes, has_tag, In, In-any, In-filter, in_front, in_front_of_bucket, inl, inr, is_leaf, IsKept, IsPlaced, Leaf, leaf_tag, length, List, list_any, map, map-In, mapping-In, mapping_of, none-any, not, only_used_tags, Order, Perm, protected_where, refl, subst, suc, sym, tags-by, true, with_perm_named, with_tag, without_named, ℕ}
use Rattle.xl_model_lemmas.proofs.TagLemmas.{tag-meets}
use Rattle.xl_model_table.proofs.FrontLemmas.{IsNew}
use Rattle.xl_model_table.proofs.GivenLemmas.{given, kept-protected, perm-named-is}
use Rattle.xl_model_table.proofs.KeptLemmas.{In-mapping, kept-filter, kept-same}

-- a new leaf's tag is new
pub tag-absent : (x : Leaf) (xs : List Leaf) → IsKept xs → IsPlaced x → IsNew x xs → has_tag (map (leaf_tag 1) xs) (leaf_tag 1 x) ≡ false
tag-absent x xs k at new =
    none-any (λ t. t == leaf_tag 1 x) (map (leaf_tag 1) xs) (λ t i. false_from_ne_true (t == leaf_tag 1 x) (λ h.
    let found = map-In (leaf_tag 1) t xs i in
    let e : leaf_tag 1 x ≡ leaf_tag 1 found.0 = sym (eqb-true t (leaf_tag 1 x) h) ∙ found.2 in
    both _ (tag-meets x found.0 at (all-In IsPlaced found.0 xs k.placed found.1) e) (new found.0 found.1)))

tags-front : (b : ℕ) (x : Leaf) (xs : List Leaf) → in_front_of_bucket b (leaf_tag 1 x) (map (leaf_tag 1) xs) ≡ map (leaf_tag 1) (in_front b x xs)
unfolding in_front
tags-front b x xs = tags-by (leaf_tag 1) b x xs

pub with-tag : (b : ℕ) (x : Leaf) (xs : List Leaf) → IsKept xs → IsPlaced x → IsNew x xs → with_tag b (leaf_tag 1 x) (map (leaf_tag 1) xs) ≡ map (leaf_tag 1) (in_front b x xs)
unfolding with_tag
with-tag b x xs k at new = rw (tag-absent x xs k at new) (tags-front b x xs)

pub length-tags : (xs : List Leaf) → length (map (leaf_tag 1) xs) ≡ length xs
length-tags [] = refl
length-tags (x ∷ xs) = ap suc (length-tags xs)

-- tags that pass a test are those of the leaves that pass another
tags-filter : (q : ℕ → Bool) (p : Leaf → Bool) (xs : List Leaf) → ((x : Leaf) → In x xs → q (leaf_tag 1 x) ≡ p x)
    → filter q (map (leaf_tag 1) xs) ≡ map (leaf_tag 1) (filter p xs)
tags-filter q p [] same = refl
tags-filter q p (x ∷ xs) same =
    rw (same x (inl refl)) (elim (p x) as (λ b.
    cond b (leaf_tag 1 x ∷ filter q (map (leaf_tag 1) xs)) (filter q (map (leaf_tag 1) xs)) ≡ map (leaf_tag 1) (cond b (x ∷ filter p xs) (filter p xs))) [
      | true ↦ ap (λ ts. leaf_tag 1 x ∷ ts) (tags-filter q p xs (λ z i. same z (inr i)))
      | false ↦ tags-filter q p xs (λ z i. same z (inr i))
    ])

filter-all : {A : Type 0} (q : A → Bool) (ts : List A) → ((t : A) → In t ts → q t ≡ true) → filter q ts ≡ ts
filter-all q [] all = refl
filter-all q (t ∷ ts) all = rw (all t (inl refl)) (ap (λ us. t ∷ us) (filter-all q ts (λ u i. all u (inr i))))

is-used : (x : Leaf) (leaves : List Leaf) → In x leaves → list_any (λ (leaf : Leaf). leaf_tag 1 leaf == leaf_tag 1 x) leaves ≡ true
is-used x leaves i = In-any (λ (leaf : Leaf). leaf_tag 1 leaf == leaf_tag 1 x) x leaves i (eq-eqb _ _ refl)

-- every kept leaf's tag is used
pub all-used : (xs : List Leaf) → IsKept xs → only_used_tags 1 (mapping_of xs) (map (leaf_tag 1) xs) ≡ map (leaf_tag 1) xs
unfolding only_used_tags
all-used xs k =
    filter-all (λ t. list_any (λ leaf. leaf_tag 1 leaf == t) (mapping_of xs)) (map (leaf_tag 1) xs) (λ t i.
    let found = map-In (leaf_tag 1) t xs i in
    subst (λ (u : ℕ). list_any (λ leaf. leaf_tag 1 leaf == u) (mapping_of xs) ≡ true) (sym found.2) (is-used found.0 (mapping_of xs) (In-mapping found.0 xs k found.1)))

not-true : (b : Bool) → b ≡ false → not b ≡ true
not-true b e = rw e refl

not-passes : (b : Bool) → b ≡ true → not b ≡ true → ⊥
not-passes true t h = absurd (cc)
not-passes false t h = absurd (cc)

-- the tag of the leaf taken out is used by no other
pub used-without : (s f : ℕ) (o : Order) (xs : List Leaf) → IsKept xs
    → only_used_tags 1 (mapping_of (without_named s f o xs)) (map (leaf_tag 1) xs) ≡ map (leaf_tag 1) (without_named s f o xs)
unfolding only_used_tags without_named
used-without s f o xs k =
    let p : Leaf → Bool = λ leaf. not (is_leaf s f o leaf) in
    tags-filter (λ t. list_any (λ leaf. leaf_tag 1 leaf == t) (mapping_of (filter p xs))) p xs (λ x i.
    elim (is_leaf s f o x) as (λ b. is_leaf s f o x ≡ b → list_any (λ (leaf : Leaf). leaf_tag 1 leaf == leaf_tag 1 x) (mapping_of (filter p xs)) ≡ not b) [
      | true ↦ λ h. none-any (λ (leaf : Leaf). leaf_tag 1 leaf == leaf_tag 1 x) (mapping_of (filter p xs)) (λ z j. false_from_ne_true (leaf_tag 1 z == leaf_tag 1 x) (λ t.
          let m : In z (filter p xs) = mapping-In z (filter p xs) j in
          let n : In z xs = filter-In p z xs m in
          let same : z ≡ x = kept-same z x xs k n i (tag-meets z x (all-In IsPlaced z xs k.placed n) (all-In IsPlaced x xs k.placed i) (eqb-true _ _ t)) in
          not-passes (is_leaf s f o x) h (subst (λ (w : Leaf). p w ≡ true) same (filter-passes p z xs m))))
      | false ↦ λ h. is-used x (mapping_of (filter p xs)) (In-mapping x (filter p xs) (kept-filter p xs k) (In-filter p x xs i (not-true (is_leaf s f o x) h)))
    ] refl)

same-tag-given : (b : Bool) (perm : Perm) (x : Leaf) → leaf_tag 1 (protected_where b perm x) ≡ leaf_tag 1 x
same-tag-given true perm x = refl
same-tag-given false perm x = refl

tags-given : (s f : ℕ) (o : Order) (perm : Perm) (xs : List Leaf) → map (leaf_tag 1) (map (given s f o perm) xs) ≡ map (leaf_tag 1) xs
unfolding given
tags-given s f o perm [] = refl
tags-given s f o perm (x ∷ xs) = rw (same-tag-given (is_leaf s f o x) perm x) (ap (λ ts. leaf_tag 1 x ∷ ts) (tags-given s f o perm xs))

pub tags-protected : (s f : ℕ) (o : Order) (perm : Perm) (xs : List Leaf) → map (leaf_tag 1) (with_perm_named s f o perm xs) ≡ map (leaf_tag 1) xs
tags-protected s f o perm xs = ap (map (leaf_tag 1)) (perm-named-is s f o perm xs) ∙ tags-given s f o perm xs

pub used-protected : (s f : ℕ) (o : Order) (perm : Perm) (xs : List Leaf) → IsKept xs
    → only_used_tags 1 (mapping_of (with_perm_named s f o perm xs)) (map (leaf_tag 1) xs) ≡ map (leaf_tag 1) (with_perm_named s f o perm xs)
used-protected s f o perm xs k =
    ap (only_used_tags 1 (mapping_of (with_perm_named s f o perm xs))) (sym (tags-protected s f o perm xs))
    ∙ all-used (with_perm_named s f o perm xs) (kept-protected s f o perm xs k)
