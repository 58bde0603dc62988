-- Ranges that come back from their items, and lists of items as lists of ranges.
use Rattle.xl_range.proofs.Common.{◌%◌, ◌*◌, ◌+◌, ◌/◌, ◌<◌, ◌^◌, ◌∙◌, ◌∷◌, ◌≡◌, [], AllWithin, ap, arith, Bool, Cached, find, find-none, find-some, frame-back, In, inl, inr, IsKeepable, IsWithin, item_at, item_holds, item_of_range, level_of, List, map, nat_tests, newest-In, newest-map, None, Option, Order, order_at, perm-back, purged, purged-In, purged-map, Range, range_kept, range_of, refl, same-tests, Some, subst, sym, touched, touched-In, touched-map, with_fill, with_newest, with_touch, without_first, without_items, ℕ}
use Rattle.xl_range.specs.RangeCoding.{ranges_of}
use Rattle.xl_range.specs.declared.range_coding.RangeItem.{RangeItem}
use Rattle.xl_model.specs.declared.address.Order.TheVariants as order

level_back : (frame : ℕ) (o : Order) → (order_at ((frame * 4 + level_of o) % 4) ≡ o) × ((frame * 4 + level_of o) / 4 ≡ frame)
level_back frame order.K4 = (ap order_at {x = (frame * 4 + 0) % 4} {y = 0} (omega arith), omega arith)
level_back frame order.M2 = (ap order_at {x = (frame * 4 + 1) % 4} {y = 1} (omega arith), omega arith)
level_back frame order.G1 = (ap order_at {x = (frame * 4 + 2) % 4} {y = 2} (omega arith), omega arith)

-- a range comes back from its item
range_back : (r : Range) → IsKeepable r → range_of (item_of_range r) ≡ r
unfolding range_of item_of_range
range_back r fit =
    let below : r.start < 2 ^ 52 = let a = fit.pages_in in let b = fit.some in omega arith in
    let s : (r.space * 2 ^ 52 + r.start) / 2 ^ 52 ≡ r.space = omega arith in
    let t : (r.space * 2 ^ 52 + r.start) % 2 ^ 52 ≡ r.start = omega arith in
    let l = level_back r.frame r.order in
    let f = frame-back (r.frame * 4 + level_of r.order) r.perm in
    rw (s, t, f, l.0, l.1, perm-back (r.frame * 4 + level_of r.order) r.perm) refl

-- an item that keeps a range ends within its space
item_within : (r : Range) → IsKeepable r → IsWithin (item_of_range r)
unfolding item_of_range
item_within r fit =
    let a = fit.pages_in in let b = fit.some in let c = fit.space_in in
    record { space_in = omega arith; pages_in = omega arith }

pub touched_within : (p : RangeItem → Bool) (items new : List RangeItem) → AllWithin items → new ≡ touched p items → AllWithin new
touched_within p items new all e = λ i m. all i (touched-In p i items (subst (λ (xs : List RangeItem). In i xs) e m))

pub filled_within : (width : ℕ) (r : Range) (items new : List RangeItem) → AllWithin items → IsKeepable r → new ≡ with_newest width (item_of_range r) items → AllWithin new
filled_within width r items new all fit e = λ i m. elim (newest-In width i (item_of_range r) items (subst (λ (xs : List RangeItem). In i xs) e m)) [
  | inl f ↦ subst IsWithin (sym f) (item_within r fit)
  | inr k ↦ all i k
]

pub purged_within : (p : RangeItem → Bool) (items new : List RangeItem) → AllWithin items → new ≡ purged p items → AllWithin new
purged_within p items new all e = λ i m. all i (purged-In p i items (subst (λ (xs : List RangeItem). In i xs) e m)).0

-- where an item ends within its space, one comparison says whether its range holds a page
one_test : (space page : ℕ) (i : RangeItem) → space < 64 → page < 2 ^ 52 → IsWithin i → item_at (space * 2 ^ 52 + page) i ≡ item_holds space page i
unfolding range_of
one_test space page i s p within =
    let a = within.space_in in let b = within.pages_in in
    same-tests _ _ (λ t. grind (arith, nat_tests)) (λ t. grind (arith, nat_tests))

-- tests that agree on the items of a list find the same, and move the same
same_find : (p q : RangeItem → Bool) (items : List RangeItem) → ((i : RangeItem) → In i items → p i ≡ q i) → find p items ≡ find q items
same_find p q [] same = refl
same_find p q (x ∷ xs) same =
    let rest : find p xs ≡ find q xs = same_find p q xs (λ i m. same i (inr m)) in
    rw (same x (inl refl), rest) refl

same_without : (p q : RangeItem → Bool) (items : List RangeItem) → ((i : RangeItem) → In i items → p i ≡ q i) → without_first p items ≡ without_first q items
same_without p q [] same = refl
same_without p q (x ∷ xs) same =
    let rest : without_first p xs ≡ without_first q xs = same_without p q xs (λ i m. same i (inr m)) in
    rw (same x (inl refl), rest) refl

same_touched : (p q : RangeItem → Bool) (items : List RangeItem) → ((i : RangeItem) → In i items → p i ≡ q i) → touched p items ≡ touched q items
same_touched p q items same = rw (same_find p q items same, same_without p q items same) refl

module _ (space page key : ℕ) (items : List RangeItem) (s : space < 64) (p : page < 2 ^ 52) (is : key ≡ space * 2 ^ 52 + page) (all : AllWithin items) where
  agree : (i : RangeItem) → In i items → item_at key i ≡ item_holds space page i
  agree i m = ap (λ (k : ℕ). item_at k i) is ∙ one_test space page i s p (all i m)

  pub key_found : find (item_at key) items ≡ find (item_holds space page) items
  key_found = same_find (item_at key) (item_holds space page) items agree

  pub key_touched : touched (item_at key) items ≡ touched (item_holds space page) items
  key_touched = same_touched (item_at key) (item_holds space page) items agree

-- a list of ranges of a width
abbrev of_width : ℕ → List Range → Cached Range
of_width width xs = record { width = width; items = xs }

pub range_filled : (old new : Cached RangeItem) (r : Range) → IsKeepable r → new.items ≡ with_newest old.width (item_of_range r) old.items → new.width ≡ old.width
    → ranges_of new ≡ with_fill r (ranges_of old)
range_filled old new r fit is width =
    let e : map range_of (with_newest old.width (item_of_range r) old.items) ≡ with_newest old.width r (map range_of old.items) =
    sym (newest-map range_of old.width (item_of_range r) old.items) ∙ ap (λ (x : Range). with_newest old.width x (map range_of old.items)) (range_back r fit) in
    rw (is, width) (ap (of_width old.width) e)

module _ (p : Range → Bool) (old : Cached RangeItem) where
  abbrev q : RangeItem → Bool
  q i = p (range_of i)

  pub ranges_dropped : (new : Cached RangeItem) → new.items ≡ purged (λ (i : RangeItem). p (range_of i)) old.items → new.width ≡ old.width → ranges_of new ≡ without_items p (ranges_of old)
  ranges_dropped new is width = rw (is, width) (ap (of_width old.width) (sym (purged-map range_of p q (λ i. refl) old.items)))

  pub range_touched : (new : Cached RangeItem) → new.items ≡ touched (λ (i : RangeItem). p (range_of i)) old.items → new.width ≡ old.width → ranges_of new ≡ with_touch p (ranges_of old)
  range_touched new is width = rw (is, width) (ap (of_width old.width) (sym (touched-map range_of p q (λ i. refl) old.items)))

  pub range_found : (o : Option RangeItem) → o ≡ find (λ (i : RangeItem). p (range_of i)) old.items → range_kept o ≡ find p (ranges_of old).items
  range_found None e = sym (find-none range_of p q (λ i. refl) old.items (sym e))
  range_found (Some i) e = sym (find-some range_of p q (λ i. refl) old.items i (sym e))
