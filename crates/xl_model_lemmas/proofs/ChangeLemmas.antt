-- Which leaves a change leaves as they were: all but the old one.
use Rattle.xl_model_lemmas.proofs.Common.{◌*◌, ◌+◌, ◌<◌, ◌^◌, ◌∙◌, ◌≡◌, ◌≤◌, ◌⊎◌, any-false, arith, at_page, Change, changed, false, In, inl, inr, Insert, IsLeafOf, IsMapping, IsNewPlace, IsSound, Leaf, leaf_key, leaf_named, levels_of, List, meets_any, meets_block, Mode, nat_tests, new_leaf, None, old_leaf, Option, Order, pages_of, Perm, Protect, refl, Relocate, Remove, Row, Some, subst, sym, true, with_new, with_perm, without_leaf, without_old, ℕ}
use Rattle.xl_model_lemmas.proofs.InsertionLemmas.{In-without, same-place, stays-with, with-In, without-In}
use Rattle.xl_model_lemmas.proofs.MappingLemmas.{named-In, named-is}
use Rattle.xl_model_lemmas.proofs.PlaceLemmas.{named-space, pages-some}
use Rattle.xl_model.specs.declared.address.Mode.TheVariants as mode
use Rattle.xl_model.specs.declared.address.Order.TheVariants as order

-- a page of a mode is below 2^45
pub page-low : (m : Mode) (o : Order) (page : ℕ) → page + pages_of o ≤ 2 ^ (9 * levels_of m) → page < 2 ^ 45
page-low mode.Sv39 order.K4 page h = omega arith
page-low mode.Sv39 order.M2 page h = omega arith
page-low mode.Sv39 order.G1 page h = omega arith
page-low mode.Sv48 order.K4 page h = omega arith
page-low mode.Sv48 order.M2 page h = omega arith
page-low mode.Sv48 order.G1 page h = omega arith
page-low mode.Sv57 order.K4 page h = omega arith
page-low mode.Sv57 order.M2 page h = omega arith
page-low mode.Sv57 order.G1 page h = omega arith

pub first-low : (row : Row) (x : Leaf) → IsLeafOf row x → x.first < 2 ^ 45
first-low row x v = page-low row.mode x.order x.first v.pages_in

pub first-small : (row : Row) (x : Leaf) → IsLeafOf row x → x.first < 2 ^ 52
first-small row x v = let a : x.first < 2 ^ 45 = first-low row x v in omega arith

pub place-small : (row : Row) (leaves : List Leaf) (space to : ℕ) (o : Order) → IsNewPlace row leaves space to o → to < 2 ^ 52
place-small row leaves space to o v = let a : to < 2 ^ 45 = page-low row.mode o to v.pages_in in omega arith

-- a leaf at the first page of a block overlaps it
meets-at : (space first : ℕ) (o : Order) (x : Leaf) → x.first < 2 ^ 52 → first < 2 ^ 52 → leaf_key x ≡ space * 2 ^ 52 + first → meets_block space first o x ≡ true
meets-at space first o x a b e =
    let p : 0 < pages_of o = pages-some o in
    let q : 0 < pages_of x.order = pages-some x.order in
    let s : x.space ≡ space = omega arith in
    let f : x.first ≡ first = omega arith in
    grind (arith, nat_tests)

-- a member that overlaps no block at a place has another key
pub other-key : (row : Row) (leaves : List Leaf) (space first : ℕ) (o : Order) (x : Leaf) → IsMapping row leaves → In x leaves → first < 2 ^ 52
    → meets_any space first o leaves ≡ false → leaf_key x ≡ space * 2 ^ 52 + first → ⊥
unfolding meets_any
other-key row leaves space first o x m i small apart e =
    let no : meets_block space first o x ≡ false = any-false (meets_block space first o) x leaves apart i in
    let yes : meets_block space first o x ≡ true = meets-at space first o x (first-small row x (m.valid x i)) small e in
    let k : false ≡ true = sym no ∙ yes in
    absurd (cc)

stays-protected : (row : Row) (leaves : List Leaf) (perm : Perm) (old : Option Leaf) (x : Leaf) → IsMapping row leaves → In x leaves
    → ((y : Leaf) → old ≡ Some y → In y leaves) → ((y : Leaf) → old ≡ Some y → x ≡ y → ⊥)
    → In x (with_new (with_perm perm old) (without_old old leaves))
stays-protected row leaves perm None x m i there other = i
stays-protected row leaves perm (Some old) x m i there other =
    let apart : leaf_key x ≡ leaf_key old → ⊥ = λ e. other old refl (same-place x old leaves m.sorted i (there old refl) e) in
    stays-with x (record old { perm = perm }) (without_leaf old.space old.first leaves) (In-without x old.space old.first leaves i apart) apart

stays-removed : (row : Row) (leaves : List Leaf) (old : Option Leaf) (x : Leaf) → IsMapping row leaves → In x leaves
    → ((y : Leaf) → old ≡ Some y → In y leaves) → ((y : Leaf) → old ≡ Some y → x ≡ y → ⊥)
    → In x (with_new None (without_old old leaves))
stays-removed row leaves None x m i there other = i
stays-removed row leaves (Some old) x m i there other =
    In-without x old.space old.first leaves i (λ e. other old refl (same-place x old leaves m.sorted i (there old refl) e))

stays-moved : (row : Row) (leaves : List Leaf) (space to : ℕ) (o : Order) (old : Option Leaf) (x : Leaf) → IsMapping row leaves → In x leaves
    → IsNewPlace row leaves space to o → ((y : Leaf) → old ≡ Some y → In y leaves × (y.space ≡ space)) → ((y : Leaf) → old ≡ Some y → x ≡ y → ⊥)
    → In x (with_new (at_page to old) (without_old old leaves))
stays-moved row leaves space to o None x m i place there other = i
stays-moved row leaves space to o (Some old) x m i place there other =
    let named = there old refl in
    let apart : leaf_key x ≡ leaf_key old → ⊥ = λ e. other old refl (same-place x old leaves m.sorted i named.0 e) in
    stays-with x (record old { first = to }) (without_leaf old.space old.first leaves) (In-without x old.space old.first leaves i apart)
    (λ e. other-key row leaves space to o x m i (place-small row leaves space to o place) place.apart
    (let P : ℕ → Type 0 = λ s. leaf_key x ≡ s * 2 ^ 52 + to in subst P named.1 e))

-- each leaf but the old one is there after a sound change
pub stays-changed : (row : Row) (leaves : List Leaf) (c : Change) (x : Leaf) → IsMapping row leaves → IsSound row leaves c → In x leaves
    → ((y : Leaf) → old_leaf c leaves ≡ Some y → x ≡ y → ⊥) → In x (changed c leaves)
unfolding changed
stays-changed row leaves (Insert leaf) x m s i other =
    stays-with x leaf leaves i (λ e. other-key row leaves leaf.space leaf.first leaf.order x m i (first-small row leaf s.valid) s.apart e)
stays-changed row leaves (Remove space first o) x m s i other =
    stays-removed row leaves (leaf_named space first o leaves) x m i (λ y h. named-In space first o y leaves h) other
stays-changed row leaves (Protect space first o perm) x m s i other =
    stays-protected row leaves perm (leaf_named space first o leaves) x m i (λ y h. named-In space first o y leaves h) other
stays-changed row leaves (Relocate space first to o) x m s i other =
    stays-moved row leaves space to o (leaf_named space first o leaves) x m i s
    (λ y h. (named-In space first o y leaves h, named-space space first o y (named-is space first o y leaves h))) other

-- a leaf after a change is the new one or one that was there
pub changed-In : (leaves : List Leaf) (c : Change) (x : Leaf) → In x (changed c leaves)
    → ((y : Leaf) × (new_leaf c leaves ≡ Some y) × (x ≡ y)) ⊎ In x leaves
unfolding changed
changed-In leaves c x i = go (new_leaf c leaves) (old_leaf c leaves) i
  where
    out : (old : Option Leaf) → In x (without_old old leaves) → In x leaves
    out None j = j
    out (Some old) j = without-In x old.space old.first leaves j

    go : (new old : Option Leaf) → In x (with_new new (without_old old leaves)) → ((y : Leaf) × (new ≡ Some y) × (x ≡ y)) ⊎ In x leaves
    go None old j = inr (out old j)
    go (Some new) old j = elim (with-In x new (without_old old leaves) j) [
      | inl e ↦ inl (new, refl, e)
      | inr k ↦ inr (out old k)
    ]
