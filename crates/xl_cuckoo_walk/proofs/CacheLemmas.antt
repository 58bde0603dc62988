-- A cache of sections, by what is known beside its list.
use Rattle.xl_cuckoo_walk.proofs.Common.{◌==◌, ◌∙◌, ◌∷◌, ◌≡◌, ap, arith, Bool, Cached, empty_cache, false, find, find-passes, has_tag, IsFrontIf, IsKnown, Item, List, nat_tests, newest_in, None, not, Option, purged, refl, Some, subst, sym, touched, touched_in, true, without_first, word_known, word_of_item, ℕ}

-- what a touch found is in front
front_touched : (tag : ℕ) (xs : List Item) (o : Option Item) → find (has_tag tag) xs ≡ o → IsFrontIf tag (word_known (word_of_item o)) (touched (has_tag tag) xs)
front_touched tag xs None e = λ pos. absurd (omega arith)
front_touched tag xs (Some i) e = λ pos.
    let t : has_tag tag i ≡ true = find-passes (has_tag tag) i xs e in
    let ys : List Item = without_first (has_tag tag) xs in
    let now : touched (has_tag tag) xs ≡ i ∷ ys = rw e refl in
    let again : find (has_tag tag) (i ∷ ys) ≡ Some i = rw t refl in
    let stays : touched (has_tag tag) (i ∷ ys) ≡ i ∷ ys = rw (again, t) refl in
    record {
      found = sym (ap (λ zs. word_of_item (find (has_tag tag) zs)) now ∙ ap word_of_item again);
      stays = now ∙ sym stays ∙ sym (ap (touched (has_tag tag)) now);
    }

-- a list that isn't kept stays as it is
pub off_filled : (tag word : ℕ) (c : Cached Item) → c ≡ empty_cache 0 → newest_in tag word c ≡ c
off_filled tag word c e = subst (λ d. newest_in tag word d ≡ d) (sym e) refl

pub off_touched : (tag : ℕ) (c : Cached Item) → c ≡ empty_cache 0 → touched_in tag c ≡ c
off_touched tag c e = subst (λ d. touched_in tag d ≡ d) (sym e) refl

pub off_purged : (p : Item → Bool) (c : Cached Item) → c ≡ empty_cache 0 → record c { items = purged p c.items } ≡ c
off_purged p c e = subst (λ d. record d { items = purged p d.items } ≡ d) (sym e) refl

-- what is known after each call
pub known_opened : (width : ℕ) (c : Cached Item) → c ≡ empty_cache width → IsKnown (not (width == 0)) 0 0 c
known_opened width c e = record {
  off = λ f. e ∙ ap empty_cache (none width f);
  front = λ pos. absurd (omega arith);
}
  where
    none : (n : ℕ) → not (n == 0) ≡ false → n ≡ 0
    none n f = grind (arith, nat_tests)

pub known_touched : (kept : Bool) (tag : ℕ) (word : Option ℕ) (old new : Cached Item) → (kept ≡ false → old ≡ empty_cache 0)
    → word ≡ word_of_item (find (has_tag tag) old.items) → new ≡ touched_in tag old → IsKnown kept tag (word_known word) new
known_touched kept tag word old new off found moved = record {
  off = λ f. moved ∙ off_touched tag old (off f) ∙ off f;
  front = subst (λ w. IsFrontIf tag (word_known w) new.items) (sym found)
      (subst (λ (z : Cached Item). IsFrontIf tag (word_known (word_of_item (find (has_tag tag) old.items))) z.items) (sym moved) (front_touched tag old.items (find (has_tag tag) old.items) refl));
}

pub known_filled : (kept : Bool) (tag : ℕ) (key word : ℕ) (old new : Cached Item) → (kept ≡ false → old ≡ empty_cache 0) → new ≡ newest_in key word old → IsKnown kept tag 0 new
known_filled kept tag key word old new off is = record { off = λ f. is ∙ off_filled key word old (off f) ∙ off f; front = λ pos. absurd (omega arith) }

pub known_purged : (kept : Bool) (tag : ℕ) (p : Item → Bool) (old new : Cached Item) → (kept ≡ false → old ≡ empty_cache 0) → new ≡ record old { items = purged p old.items } → IsKnown kept tag 0 new
known_purged kept tag p old new off is = record { off = λ f. is ∙ off_purged p old (off f) ∙ off f; front = λ pos. absurd (omega arith) }
