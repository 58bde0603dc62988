-- A list of leaves of one order is looked through for one tag.
use Rattle.xl_nested.proofs.Common.{◌%◌, ◌∙◌, ◌∷◌, ◌≡◌, [], ap, arith, Bool, Cached, empty_cache, find, has_tag, In, in_front, inl, inr, is_among, IsHeld, Item, level_of, List, nat_tests, newest-In, None, Option, Order, purged, purged-In, refl, same-tests, subst, sym, tag_of, touched, touched-In, with_newest, without_first, ℕ, Some, true, find-passes}
use Rattle.xl_recency.specs.Lists.{Touches}
use Rattle.xl_nested.specs.declared.g_cache.Held.{Held}
use Rattle.xl_model.specs.declared.address.Order.TheVariants as order
use Rattle.xl_nested.specs.declared.g_cache.Held.TheVariants as held

-- of the three tags of a guest page an item of an order can have that of its order alone
only-among : (g : ℕ) (o : Order) (i : Item) → i.tag % 3 ≡ level_of o → has_tag (tag_of g o) i ≡ is_among (tag_of g order.K4) (tag_of g order.M2) (tag_of g order.G1) i
unfolding tag_of
only-among g order.K4 i e = same-tests _ _ (λ h. grind (arith, nat_tests)) (λ h. grind (arith, nat_tests))
only-among g order.M2 i e = same-tests _ _ (λ h. grind (arith, nat_tests)) (λ h. grind (arith, nat_tests))
only-among g order.G1 i e = same-tests _ _ (λ h. grind (arith, nat_tests)) (λ h. grind (arith, nat_tests))

-- tests that agree on a list find and touch the same
module _ (p q : Item → Bool) where
  find-same : (xs : List Item) → ((i : Item) → In i xs → p i ≡ q i) → find p xs ≡ find q xs
  find-same [] same = refl
  find-same (x ∷ xs) same = rw (same x (inl refl), find-same xs (λ i m. same i (inr m))) refl

  without-same : (xs : List Item) → ((i : Item) → In i xs → p i ≡ q i) → without_first p xs ≡ without_first q xs
  without-same [] same = refl
  without-same (x ∷ xs) same = rw (same x (inl refl), without-same xs (λ i m. same i (inr m))) refl

  touches-same : (old new : List Item) (result : Option Item) → ((i : Item) → In i old → p i ≡ q i) → Touches p old new result → Touches q old new result
  touches-same old new result same t = record {
    found = t.found ∙ find-same old same;
    moved = t.moved ∙ ap (λ (xs : List Item). in_front (find p old) xs) (without-same old same) ∙ ap (λ (o : Option Item). in_front o (without_first q old)) (find-same old same);
  }

pub touches_only : (g : ℕ) (o : Order) (old new : List Item) (result : Option Item) → ((i : Item) → In i old → i.tag % 3 ≡ level_of o) → Touches (has_tag (tag_of g o)) old new result
    → Touches (is_among (tag_of g order.K4) (tag_of g order.M2) (tag_of g order.G1)) old new result
touches_only g o old new result all t =
    touches-same (has_tag (tag_of g o)) (is_among (tag_of g order.K4) (tag_of g order.M2) (tag_of g order.G1)) old new result (λ i m. only-among g o i (all i m)) t

-- an item that is found by its tag
pub touches_word : (tag : ℕ) (old new : List Item) (i : Item) → Touches (has_tag tag) old new (Some i) → Touches (has_tag tag) old new (Some (record { tag = tag; word = i.word }))
touches_word tag old new i t =
    let h : has_tag tag i ≡ true = find-passes (has_tag tag) i old (sym t.found) in
    let e : i.tag ≡ tag = grind (arith, nat_tests) in
    subst (λ (n : ℕ). Touches (has_tag tag) old new (Some (record { tag = n; word = i.word }))) e t

pub touches_none : (q : Item → Bool) (items : List Item) → items ≡ [] → Touches q items items None
touches_none q items e = subst (λ (xs : List Item). Touches q xs xs None) (sym e) (record { found = refl; moved = refl })

-- the orders after a touch, a purge and a fill
pub held-touched : (h : Held) (old new : Cached Item) (p : Item → Bool) → IsHeld h old → new.width ≡ old.width → new.items ≡ touched p old.items → IsHeld h new
held-touched held.Off old new p is a b = (a ∙ is.0, b ∙ ap (λ (xs : List Item). touched p xs) is.1)
held-touched held.Nothing old new p is a b = b ∙ ap (λ (xs : List Item). touched p xs) is
held-touched (held.Only o) old new p is a b = λ i m. is i (touched-In p i old.items (subst (λ (xs : List Item). In i xs) b m))
held-touched held.Several old new p is a b = tt

pub held-purged : (h : Held) (old new : Cached Item) (p : Item → Bool) → IsHeld h old → new.width ≡ old.width → new.items ≡ purged p old.items → IsHeld h new
held-purged held.Off old new p is a b = (a ∙ is.0, b ∙ ap (λ (xs : List Item). purged p xs) is.1)
held-purged held.Nothing old new p is a b = b ∙ ap (λ (xs : List Item). purged p xs) is
held-purged (held.Only o) old new p is a b = λ i m. is i (purged-In p i old.items (subst (λ (xs : List Item). In i xs) b m)).0
held-purged held.Several old new p is a b = tt

pub off_filled : (old new : Cached Item) (i : Item) → IsHeld held.Off old → new.width ≡ old.width → new.items ≡ with_newest old.width i old.items → IsHeld held.Off new
off_filled old new i is a b = (a ∙ is.0, b ∙ ap (λ (n : ℕ). with_newest n i old.items) is.0)

pub off_same : (c : Cached Item) (i : Item) → IsHeld held.Off c → c.items ≡ with_newest c.width i c.items
off_same c i is = is.1 ∙ sym (ap (λ (n : ℕ). with_newest n i c.items) is.0)

pub first_filled : (old new : Cached Item) (i : Item) (o : Order) → IsHeld held.Nothing old → i.tag % 3 ≡ level_of o → new.items ≡ with_newest old.width i old.items → IsHeld (held.Only o) new
first_filled old new i o is e b x m = elim (newest-In old.width x i old.items (subst (λ (xs : List Item). In x xs) b m)) [
  | inl f ↦ subst (λ (z : Item). z.tag % 3 ≡ level_of o) (sym f) e
  | inr k ↦ absurd (subst (λ (xs : List Item). In x xs) is k)
]

pub more_filled : (old new : Cached Item) (i : Item) (o : Order) → IsHeld (held.Only o) old → i.tag % 3 ≡ level_of o → new.items ≡ with_newest old.width i old.items → IsHeld (held.Only o) new
more_filled old new i o is e b x m = elim (newest-In old.width x i old.items (subst (λ (xs : List Item). In x xs) b m)) [
  | inl f ↦ subst (λ (z : Item). z.tag % 3 ≡ level_of o) (sym f) e
  | inr k ↦ is x k
]

-- an empty list
pub opened_off : (c : Cached Item) (width : ℕ) → width ≡ 0 → c ≡ empty_cache width → IsHeld held.Off c
opened_off c width z e = (ap (λ (x : Cached Item). x.width) e ∙ z, ap (λ (x : Cached Item). x.items) e)

pub opened_nothing : (c : Cached Item) (width : ℕ) → c ≡ empty_cache width → IsHeld held.Nothing c
opened_nothing c width e = ap (λ (x : Cached Item). x.items) e

pub more_same : (old new : Cached Item) (i : Item) (only o : Order) → level_of only ≡ level_of o → IsHeld (held.Only only) old → i.tag % 3 ≡ level_of o → new.items ≡ with_newest old.width i old.items → IsHeld (held.Only only) new
more_same old new i only o same is e b = more_filled old new i only is (e ∙ sym same) b
