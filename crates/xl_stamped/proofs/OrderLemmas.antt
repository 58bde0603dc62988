-- Places by stamp: each keeps its order when others go, and a place with a new greatest stamp comes first.
use Rattle.xl_stamped.proofs.Common.{◌++◌, ◌<◌, ◌∙◌, ◌∷◌, ◌≡◌, ◌≤◌, ◌⊎◌, [], ap, Apart, arith, Bool, by_stamp, cases_Bool, cases_eq, cases_lt, Each, false, filter, get_or, inl, inr, Item, item_of, le-ltb, length, List, lt-ltb, map, Place, refl, set, suc, sym, true, with_place, zero, ℕ}

-- ---- what holds of each place

module _ (P : Place → Type 0) where
  pub each_mono : (Q : Place → Type 0) (xs : List Place) → ((x : Place) → P x → Q x) → Each P xs → Each Q xs
  unfolding Each
  each_mono Q [] f e = tt
  each_mono Q (x ∷ xs) f e = (f x e.0, each_mono Q xs f e.1)

  pub each_all : (xs : List Place) → ((k : ℕ) (d : Place) → k < length xs → P (get_or xs k d)) → Each P xs
  unfolding Each
  each_all [] f = tt
  each_all (x ∷ xs) f = (f 0 x (omega arith), each_all xs (λ k d l. f (suc k) d (omega arith)))

  pub each_at : (xs : List Place) (k : ℕ) (d : Place) → k < length xs → Each P xs → P (get_or xs k d)
  unfolding Each
  each_at [] k d l e = absurd (omega arith)
  each_at (x ∷ xs) zero d l e = e.0
  each_at (x ∷ xs) (suc k) d l e = each_at xs k d (omega arith) e.1

  pub each_with : (x : Place) (ys : List Place) → P x → Each P ys → Each P (with_place x ys)
  unfolding Each with_place
  each_with x [] p e = (p, tt)
  each_with x (y ∷ ys) p e =
      elim (cases_lt y.stamp x.stamp) [
        | inl l ↦ rw (lt-ltb _ _ l) (p, e)
        | inr g ↦ rw (le-ltb _ _ g) (e.0, each_with x ys p e.1)
      ]

  pub each_by_stamp : (xs : List Place) → Each P xs → Each P (by_stamp xs)
  unfolding Each by_stamp
  each_by_stamp [] e = tt
  each_by_stamp (x ∷ xs) e = each_with x (by_stamp xs) e.0 (each_by_stamp xs e.1)

  pub each_filter : (r : Place → Bool) (xs : List Place) → Each P xs → Each P (filter r xs)
  unfolding Each
  each_filter r [] e = tt
  each_filter r (x ∷ xs) e =
      elim (cases_Bool (r x)) [
        | inl t ↦ rw t (e.0, each_filter r xs e.1)
        | inr f ↦ rw f (each_filter r xs e.1)
      ]

  pub each_set : (xs : List Place) (i : ℕ) (x : Place) → P x → Each P xs → Each P (set xs i x)
  unfolding Each
  each_set [] i x p e = tt
  each_set (y ∷ ys) zero x p e = (p, e.1)
  each_set (y ∷ ys) (suc i) x p e = (e.0, each_set ys i x p e.1)

  pub each_push : (xs : List Place) (x : Place) → P x → Each P xs → Each P (xs ++ x ∷ [])
  unfolding Each
  each_push [] x p e = (p, tt)
  each_push (y ∷ ys) x p e = (e.0, each_push ys x p e.1)

-- ---- members

unfoldable pub In : Place → List Place → Type 0
In x [] = ⊥
In x (y ∷ ys) = (y ≡ x) ⊎ In x ys

pub in_at : (xs : List Place) (k : ℕ) (d : Place) → k < length xs → In (get_or xs k d) xs
unfolding In
in_at [] k d l = absurd (omega arith)
in_at (x ∷ xs) zero d l = inl refl
in_at (x ∷ xs) (suc k) d l = inr (in_at xs k d (omega arith))

pub in_with : (z x : Place) (ys : List Place) → (x ≡ z) ⊎ In z ys → In z (with_place x ys)
unfolding In with_place
in_with z x [] i = i
in_with z x (y ∷ ys) i =
    elim (cases_lt y.stamp x.stamp) [
      | inl l ↦ rw (lt-ltb _ _ l) i
      | inr g ↦ rw (le-ltb _ _ g)
          (elim i [
            | inl e ↦ inr (in_with z x ys (inl e))
            | inr j ↦ elim j [ inl e ↦ inl e | inr k ↦ inr (in_with z x ys (inr k)) ]
          ])
    ]

pub in_by_stamp : (z : Place) (xs : List Place) → In z xs → In z (by_stamp xs)
unfolding In by_stamp
in_by_stamp z [] i = i
in_by_stamp z (x ∷ xs) (inl e) = in_with z x (by_stamp xs) (inl e)
in_by_stamp z (x ∷ xs) (inr j) = in_with z x (by_stamp xs) (inr (in_by_stamp z xs j))

pub each_in : (P : Place → Type 0) (z : Place) (xs : List Place) → In z xs → Each P xs → P z
unfolding In Each
each_in P z [] i e = absurd i
each_in P z (x ∷ xs) (inl q) e = rw q at e.0
each_in P z (x ∷ xs) (inr j) e = each_in P z xs j e.1

-- ---- the order

unfoldable pub Sorted : List Place → Type 0
Sorted [] = Unit {0}
Sorted (y ∷ ys) = Each (λ z. z.stamp < y.stamp) ys × Sorted ys

sorted_with : (x : Place) (ys : List Place) → Sorted ys → Each (λ z. z.stamp ≡ x.stamp → ⊥) ys → Sorted (with_place x ys)
unfolding Sorted Each with_place
sorted_with x [] s n = (tt, tt)
sorted_with x (y ∷ ys) s n =
    elim (cases_lt y.stamp x.stamp) [
      | inl l ↦ rw (lt-ltb _ _ l)
          ((l, each_mono (λ z. z.stamp < y.stamp) (λ z. z.stamp < x.stamp) ys (λ z m. omega arith) s.0), s)
      | inr g ↦ rw (le-ltb _ _ g)
          (each_with (λ z. z.stamp < y.stamp) x ys (above (n.0) g) s.0, sorted_with x ys s.1 n.1)
    ]
  where
    above : {a b : ℕ} → (a ≡ b → ⊥) → b ≤ a → b < a
    above {a} {b} f l = elim (cases_eq a b) [ inl e ↦ absurd (f e) | inr ne ↦ omega arith ]

pub sorted : (xs : List Place) → Apart xs → Sorted (by_stamp xs)
unfolding Sorted Apart by_stamp
sorted [] a = tt
sorted (x ∷ xs) a = sorted_with x (by_stamp xs) (sorted xs a.1) (each_by_stamp (λ z. z.stamp ≡ x.stamp → ⊥) xs a.0)

pub with_greatest : (x : Place) (ys : List Place) → Each (λ z. z.stamp < x.stamp) ys → with_place x ys ≡ x ∷ ys
unfolding Each with_place
with_greatest x [] e = refl
with_greatest x (y ∷ ys) e = rw (lt-ltb _ _ e.0) refl

pub length-with : (x : Place) (ys : List Place) → length (with_place x ys) ≡ suc (length ys)
unfolding with_place
length-with x [] = refl
length-with x (y ∷ ys) =
    elim (cases_lt y.stamp x.stamp) [
      | inl l ↦ rw (lt-ltb _ _ l) refl
      | inr g ↦ rw (le-ltb _ _ g) (ap (λ (n : ℕ). suc n) (length-with x ys))
    ]

pub length-by_stamp : (xs : List Place) → length (by_stamp xs) ≡ length xs
unfolding by_stamp
length-by_stamp [] = refl
length-by_stamp (x ∷ xs) = length-with x (by_stamp xs) ∙ ap (λ (n : ℕ). suc n) (length-by_stamp xs)

-- ---- some of the places

pub filter_without : (r : Place → Bool) (x : Place) (ys : List Place) → r x ≡ false → filter r (with_place x ys) ≡ filter r ys
unfolding with_place
filter_without r x [] f = rw f refl
filter_without r x (y ∷ ys) f =
    elim (cases_lt y.stamp x.stamp) [
      | inl l ↦ rw (lt-ltb _ _ l) (rw f refl)
      | inr g ↦ rw (le-ltb _ _ g) (elim (cases_Bool (r y)) [
        | inl t ↦ rw t (ap (λ (zs : List Place). y ∷ zs) (filter_without r x ys f))
        | inr n ↦ rw n (filter_without r x ys f)
      ])
    ]

each_cons : (P : Place → Type 0) (y : Place) (ys : List Place) → P y → Each P ys → Each P (y ∷ ys)
unfolding Each
each_cons P y ys p e = (p, e)

pub filter_with : (r : Place → Bool) (x : Place) (ys : List Place) → Sorted ys → r x ≡ true → filter r (with_place x ys) ≡ with_place x (filter r ys)
unfolding Sorted with_place
filter_with r x [] s t = rw t refl
filter_with r x (y ∷ ys) s t =
    elim (cases_lt y.stamp x.stamp) [
      | inl l ↦
          let below : Each (λ z. z.stamp < x.stamp) (filter r (y ∷ ys)) =
          each_filter (λ z. z.stamp < x.stamp) r (y ∷ ys) (each_cons (λ z. z.stamp < x.stamp) y ys l (each_mono (λ z. z.stamp < y.stamp) (λ z. z.stamp < x.stamp) ys (λ z m. omega arith) s.0)) in
          rw (lt-ltb _ _ l) (rw (with_greatest x (filter r (y ∷ ys)) below) (rw t refl))
      | inr g ↦ rw (le-ltb _ _ g) (elim (cases_Bool (r y)) [
        | inl k ↦ rw k (rw (le-ltb _ _ g) (ap (λ (zs : List Place). y ∷ zs) (filter_with r x ys s.1 t)))
        | inr n ↦ rw n (filter_with r x ys s.1 t)
      ])
    ]

pub by_stamp-filter : (r : Place → Bool) (xs : List Place) → Apart xs → by_stamp (filter r xs) ≡ filter r (by_stamp xs)
unfolding Apart by_stamp
by_stamp-filter r [] a = refl
by_stamp-filter r (x ∷ xs) a =
    elim (cases_Bool (r x)) [
      | inl t ↦ rw t (ap (with_place x) (by_stamp-filter r xs a.1) ∙ sym (filter_with r x (by_stamp xs) (sorted xs a.1) t))
      | inr f ↦ rw f (by_stamp-filter r xs a.1 ∙ sym (filter_without r x (by_stamp xs) f))
    ]

pub map-filter : (q : Item → Bool) (xs : List Place) → map item_of (filter (λ p. q p.item) xs) ≡ filter q (map item_of xs)
map-filter q [] = refl
map-filter q (x ∷ xs) =
    elim (cases_Bool (q x.item)) [
      | inl t ↦ rw t (ap (λ (ys : List Item). x.item ∷ ys) (map-filter q xs))
      | inr f ↦ rw f (map-filter q xs)
    ]

pub filter_all : (r : Place → Bool) (xs : List Place) → Each (λ y. r y ≡ true) xs → filter r xs ≡ xs
unfolding Each
filter_all r [] e = refl
filter_all r (x ∷ xs) e = rw e.0 (ap (λ (ys : List Place). x ∷ ys) (filter_all r xs e.1))
