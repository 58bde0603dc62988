-- What every mapping keeps, at each of the four changes of a leaf.
use Rattle.xl_model_lemmas.proofs.Common.{◌*◌, ◌+◌, ◌^◌, ◌∙◌, ◌≡◌, ◌≤◌, any-false, ap, at_page, Bool, changed, covers, false, find-In, find-passes, holds_frames, In, inl, inr, Insert, is_leaf, IsFreeOf as IsFree, IsLeafOf, IsMapping, Leaf, leaf_at_page, leaf_key, leaf_named, levels_of, List, meets_any, meets_block, None, Option, Order, pages_of, Perm, Protect, refl, Relocate, Remove, Row, Some, subst, sym, true, with_leaf, with_new, with_perm, without_leaf, without_old, ℕ}
use Rattle.xl_model_lemmas.proofs.InsertionLemmas.{sorted-with, sorted-without, with-In, without-In, without-other}
use Rattle.xl_model_lemmas.proofs.PlaceLemmas.{covers-meets, frame-shared, holds-meets, meets-covers, named-order, named-space}

-- a leaf that overlaps no other and holds no other's frame
pub kept-with : (row : Row) (x : Leaf) (xs : List Leaf) → IsMapping row xs → IsLeafOf row x
    → ((y : Leaf) → In y xs → meets_block x.space x.first x.order y ≡ true → ⊥)
    → ((y : Leaf) → In y xs → holds_frames x.frame (pages_of x.order) y ≡ true → ⊥)
    → IsMapping row (with_leaf x xs)
kept-with row x xs m is_leaf_of apart frames = record {
  sorted = sorted-with x xs m.sorted;
  valid = λ z i. elim (with-In z x xs i) [
    | inl e ↦ let P : Leaf → Type 0 = λ w. IsLeafOf row w in subst P (sym e) is_leaf_of
    | inr j ↦ m.valid z j
  ];
  pages = λ a b page i j s t. elim (with-In a x xs i) [
    | inl e ↦ elim (with-In b x xs j) [
      | inl f ↦ e ∙ sym f
      | inr k ↦
          absurd (apart b k (subst (λ (w : Leaf). meets_block w.space w.first w.order b ≡ true) e (covers-meets a.space page a b s t)))
    ]
    | inr k ↦ elim (with-In b x xs j) [
      | inl f ↦
          absurd (apart a k (subst (λ (w : Leaf). meets_block w.space w.first w.order a ≡ true) f (covers-meets a.space page b a t s)))
      | inr l ↦ m.pages a b page k l s t
    ]
  ];
  frames = λ a b frame i j s t. elim (with-In a x xs i) [
    | inl e ↦ elim (with-In b x xs j) [
      | inl f ↦ e ∙ sym f
      | inr k ↦
          absurd (frames b k (subst (λ (w : Leaf). holds_frames w.frame (pages_of w.order) b ≡ true) e (holds-meets frame a b s t)))
    ]
    | inr k ↦ elim (with-In b x xs j) [
      | inl f ↦
          absurd (frames a k (subst (λ (w : Leaf). holds_frames w.frame (pages_of w.order) a ≡ true) f (holds-meets frame b a t s)))
      | inr l ↦ m.frames a b frame k l s t
    ]
  ];
}

-- fewer leaves
pub kept-without : (row : Row) (space first : ℕ) (xs : List Leaf) → IsMapping row xs → IsMapping row (without_leaf space first xs)
kept-without row space first xs m = record {
  sorted = sorted-without space first xs m.sorted;
  valid = λ z i. m.valid z (without-In z space first xs i);
  pages = λ a b page i j s t. m.pages a b page (without-In a space first xs i) (without-In b space first xs j) s t;
  frames = λ a b frame i j s t. m.frames a b frame (without-In a space first xs i) (without-In b space first xs j) s t;
}

pub none-true : (a : Bool) → a ≡ false → a ≡ true → ⊥
none-true a f t = let e : false ≡ true = sym f ∙ t in absurd (cc)

-- a leaf in place of another, with its order and frame
pub kept-replaced : (row : Row) (old new : Leaf) (xs : List Leaf) → IsMapping row xs → In old xs → IsLeafOf row new
    → new.order ≡ old.order → new.frame ≡ old.frame
    → ((y : Leaf) → In y (without_leaf old.space old.first xs) → meets_block new.space new.first new.order y ≡ true → ⊥)
    → IsMapping row (with_leaf new (without_leaf old.space old.first xs))
kept-replaced row old new xs m i is_leaf_of same_order same_frame apart =
    kept-with row new (without_leaf old.space old.first xs) (kept-without row old.space old.first xs m) is_leaf_of apart
    (λ y j h.
    let Q : Order → Type 0 = λ o. holds_frames old.frame (pages_of o) y ≡ true in
    let meets : holds_frames old.frame (pages_of old.order) y ≡ true = subst Q same_order (subst (λ (f : ℕ). holds_frames f (pages_of new.order) y ≡ true) same_frame h) in
    let shared = frame-shared old y meets in
    let same : old ≡ y = m.frames old y shared.0 i (without-In y old.space old.first xs j) shared.1 shared.2 in
    without-other y old.space old.first xs j (ap leaf_key (sym same)))

pub kept-inserted : (row : Row) (x : Leaf) (xs : List Leaf) → IsMapping row xs → IsLeafOf row x
    → meets_any x.space x.first x.order xs ≡ false → IsFree (pages_of x.order) x.frame xs → IsMapping row (changed (Insert x) xs)
unfolding changed meets_any
kept-inserted row x xs m valid apart free =
    kept-with row x xs m valid
    (λ y i h. none-true _ (any-false (meets_block x.space x.first x.order) y xs apart i) h)
    (λ y i h. none-true _ (free y i) h)

-- what a named leaf is
pub named-In : (space first : ℕ) (o : Order) (x : Leaf) (xs : List Leaf) → leaf_named space first o xs ≡ Some x → In x xs
unfolding leaf_named
named-In space first o x xs h = find-In (is_leaf space first o) x xs h

pub named-is : (space first : ℕ) (o : Order) (x : Leaf) (xs : List Leaf) → leaf_named space first o xs ≡ Some x → is_leaf space first o x ≡ true
unfolding leaf_named
named-is space first o x xs h = find-passes (is_leaf space first o) x xs h

removed-by : (row : Row) (old : Option Leaf) (xs : List Leaf) → IsMapping row xs → IsMapping row (with_new None (without_old old xs))
removed-by row None xs m = m
removed-by row (Some old) xs m = kept-without row old.space old.first xs m

pub kept-removed : (row : Row) (space first : ℕ) (o : Order) (xs : List Leaf) → IsMapping row xs → IsMapping row (changed (Remove space first o) xs)
unfolding changed
kept-removed row space first o xs m = removed-by row (leaf_named space first o xs) xs m

protected-by : (row : Row) (perm : Perm) (old : Option Leaf) (xs : List Leaf) → IsMapping row xs → ((x : Leaf) → old ≡ Some x → In x xs)
    → IsMapping row (with_new (with_perm perm old) (without_old old xs))
protected-by row perm None xs m there = m
protected-by row perm (Some old) xs m there =
    let v : IsLeafOf row old = m.valid old (there old refl) in
    kept-replaced row old (record old { perm = perm }) xs m (there old refl)
    (record { space_in = v.space_in; pages_in = v.pages_in; pages_aligned = v.pages_aligned; frames_in = v.frames_in; frames_aligned = v.frames_aligned })
    refl refl
    (λ y j h.
    let shared = meets-covers old y h in
    let same : old ≡ y = m.pages old y shared.0 (there old refl) (without-In y old.space old.first xs j) shared.1 shared.2 in
    without-other y old.space old.first xs j (ap leaf_key (sym same)))

pub kept-protected : (row : Row) (space first : ℕ) (o : Order) (perm : Perm) (xs : List Leaf) → IsMapping row xs → IsMapping row (changed (Protect space first o perm) xs)
unfolding changed
kept-protected row space first o perm xs m =
    protected-by row perm (leaf_named space first o xs) xs m (λ x h. named-In space first o x xs h)

relocated-by : (row : Row) (space to : ℕ) (o : Order) (old : Option Leaf) (xs : List Leaf) → IsMapping row xs
    → ((x : Leaf) → old ≡ Some x → In x xs) → ((x : Leaf) → old ≡ Some x → (x.space ≡ space) × (x.order ≡ o))
    → to + pages_of o ≤ 2 ^ (9 * levels_of row.mode) → ((e : ℕ) × (to ≡ e * pages_of o))
    → meets_any space to o xs ≡ false
    → IsMapping row (with_new (at_page to old) (without_old old xs))
unfolding meets_any
relocated-by row space to o None xs m there named fits aligned apart = m
relocated-by row space to o (Some old) xs m there named fits aligned apart =
    let v : IsLeafOf row old = m.valid old (there old refl) in
    let is = named old refl in
    let P : Order → Type 0 = λ q. to + pages_of q ≤ 2 ^ (9 * levels_of row.mode) in
    let Q : Order → Type 0 = λ q. (e : ℕ) × (to ≡ e * pages_of q) in
    kept-replaced row old (record old { first = to }) xs m (there old refl)
    (record { space_in = v.space_in; pages_in = subst P (sym is.1) fits; pages_aligned = subst Q (sym is.1) aligned; frames_in = v.frames_in; frames_aligned = v.frames_aligned })
    refl refl
    (λ y j h.
    let R : Order → Type 0 = λ q. meets_block old.space to q y ≡ true in
    none-true _ (any-false (meets_block space to o) y xs apart (without-In y old.space old.first xs j)) (subst (λ (s : ℕ). meets_block s to o y ≡ true) is.0 (subst R is.1 h)))

pub kept-relocated : (row : Row) (space first to : ℕ) (o : Order) (xs : List Leaf) → IsMapping row xs
    → to + pages_of o ≤ 2 ^ (9 * levels_of row.mode) → ((e : ℕ) × (to ≡ e * pages_of o)) → meets_any space to o xs ≡ false
    → IsMapping row (changed (Relocate space first to o) xs)
unfolding changed
kept-relocated row space first to o xs m fits aligned apart =
    relocated-by row space to o (leaf_named space first o xs) xs m (λ x h. named-In space first o x xs h)
    (λ x h. (named-space space first o x (named-is space first o x xs h), named-order space first o x (named-is space first o x xs h)))
    fits aligned apart

-- the leaf at a page is one of the leaves
pub found-In : (space page : ℕ) (leaves : List Leaf) (x : Leaf) → leaf_at_page space page leaves ≡ Some x → In x leaves
unfolding leaf_at_page
found-In space page leaves x e = find-In (covers space page) x leaves e
