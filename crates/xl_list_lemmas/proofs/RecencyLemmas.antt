-- Recency lists: what is in them after a touch, a fill and a purge; and each of these under `map`, for lists
-- of words that are seen as lists of leaves, nodes, sections or ranges (the TLB and the walk caches).
use Rattle.std.proofs.Common.{◌∙◌, ◌∷◌, ◌≡◌, ◌⊎◌, [], ap, Bool, cond, false, inl, inr, List, map, None, not, Option, refl, Some, subst, sym, true, ℕ}
use Rattle.std.proofs.lemmas.List.{take-map}
use Rattle.std.specs.Prelude.{find}
use Rattle.xl_model.specs.Recency.{in_front, purged, touched, with_newest, without_first}
use Rattle.xl_list_lemmas.proofs.MemberLemmas.{filter-In, filter-passes, find-In, take-In}
use Rattle.xl_list_lemmas.specs.Members.{In}

without-first-In : {A : Type 0} (p : A → Bool) (x : A) (xs : List A) → In x (without_first p xs) → In x xs
without-first-In p x [] i = i
without-first-In {A} p x (y ∷ ys) i =
    elim (p y) as (λ b. In x (cond b ys (y ∷ without_first p ys)) → In x (y ∷ ys)) [
      | true ↦ λ j. inr j
      | false ↦ λ j. elim j [ inl e ↦ inl e | inr k ↦ inr (without-first-In p x ys k) ]
    ] i

in-front-In : {A : Type 0} (p : A → Bool) (x : A) (o : Option A) (xs : List A) → find p xs ≡ o → In x (in_front o (without_first p xs)) → In x xs
in-front-In p x None xs found i = without-first-In p x xs i
in-front-In {A} p x (Some y) xs found (inl e) = let P : A → Type 0 = λ z. In z xs in subst P (sym e) (find-In p y xs found)
in-front-In p x (Some y) xs found (inr i) = without-first-In p x xs i

pub touched-In : {A : Type 0} (p : A → Bool) (x : A) (xs : List A) → In x (touched p xs) → In x xs
touched-In p x xs i = in-front-In p x (find p xs) xs refl i

pub newest-In : {A : Type 0} (width : ℕ) (x y : A) (xs : List A) → In x (with_newest width y xs) → (x ≡ y) ⊎ In x xs
newest-In width x y xs i = take-In width x (y ∷ xs) i

pub purged-In : {A : Type 0} (p : A → Bool) (x : A) (xs : List A) → In x (purged p xs) → In x xs × (p x ≡ false)
purged-In {A} p x xs i =
    let t : not (p x) ≡ true = filter-passes (λ (y : A). not (p y)) x xs i in
    (filter-In (λ (y : A). not (p y)) x xs i, go (p x) refl t)
  where
    go : (b : Bool) → p x ≡ b → not (p x) ≡ true → p x ≡ false
    go true e t = let k : false ≡ true = rw e at t in absurd (cc)
    go false e t = e

-- a test of what `f` makes of an item is a test of the item
module _ {A B : Type 0} (f : A → B) (p : B → Bool) (q : A → Bool) (same : (x : A) → q x ≡ p (f x)) where
  pub find-some : (xs : List A) (x : A) → find q xs ≡ Some x → find p (map f xs) ≡ Some (f x)
  find-some [] x e = cc
  find-some (y ∷ xs) x e = go (q y) refl (λ h. find-some xs x h)
    where
      go : (b : Bool) → q y ≡ b → (find q xs ≡ Some x → find p (map f xs) ≡ Some (f x)) → find p (map f (y ∷ xs)) ≡ Some (f x)
      go true t more =
          let u : p (f y) ≡ true = sym (same y) ∙ t in
          let v : Some y ≡ Some x = rw t at e in
          let w : y ≡ x = cc in
          rw u (ap (λ (z : A). Some (f z)) w)
      go false t more =
          let u : p (f y) ≡ false = sym (same y) ∙ t in
          rw u (more (rw t at e))

  pub find-none : (xs : List A) → find q xs ≡ None → find p (map f xs) ≡ None
  find-none [] e = refl
  find-none (y ∷ xs) e = go (q y) refl (λ h. find-none xs h)
    where
      go : (b : Bool) → q y ≡ b → (find q xs ≡ None → find p (map f xs) ≡ None) → find p (map f (y ∷ xs)) ≡ None
      go true t more = let v : Some y ≡ None = rw t at e in cc
      go false t more =
          let u : p (f y) ≡ false = sym (same y) ∙ t in
          rw u (more (rw t at e))

  pub without-map : (xs : List A) → without_first p (map f xs) ≡ map f (without_first q xs)
  without-map [] = refl
  without-map (x ∷ xs) = go (q x) refl (without-map xs)
    where
      go : (b : Bool) → q x ≡ b → without_first p (map f xs) ≡ map f (without_first q xs) → without_first p (map f (x ∷ xs)) ≡ map f (without_first q (x ∷ xs))
      go true t more = let u : p (f x) ≡ true = sym (same x) ∙ t in rw (t, u) refl
      go false t more = let u : p (f x) ≡ false = sym (same x) ∙ t in rw (t, u) (ap (λ (ys : List B). f x ∷ ys) more)

  front-map : (o : Option A) (xs : List A) → find q xs ≡ o → in_front (find p (map f xs)) (without_first p (map f xs)) ≡ map f (in_front o (without_first q xs))
  front-map None xs e = rw (find-none xs e) (without-map xs)
  front-map (Some x) xs e = rw (find-some xs x e) (ap (λ (ys : List B). f x ∷ ys) (without-map xs))

  pub touched-map : (xs : List A) → touched p (map f xs) ≡ map f (touched q xs)
  touched-map xs = front-map (find q xs) xs refl

  pub purged-map : (xs : List A) → purged p (map f xs) ≡ map f (purged q xs)
  purged-map [] = refl
  purged-map (x ∷ xs) = go (q x) refl (purged-map xs)
    where
      go : (b : Bool) → q x ≡ b → purged p (map f xs) ≡ map f (purged q xs) → purged p (map f (x ∷ xs)) ≡ map f (purged q (x ∷ xs))
      go true t more = let u : p (f x) ≡ true = sym (same x) ∙ t in rw (t, u) more
      go false t more = let u : p (f x) ≡ false = sym (same x) ∙ t in rw (t, u) (ap (λ (ys : List B). f x ∷ ys) more)

pub newest-map : {A B : Type 0} (f : A → B) (width : ℕ) (x : A) (xs : List A) → with_newest width (f x) (map f xs) ≡ map f (with_newest width x xs)
newest-map f width x xs = take-map f width (x ∷ xs)

-- a touch that finds nothing changes nothing
without-none : {A : Type 0} (q : A → Bool) (xs : List A) → find q xs ≡ None → without_first q xs ≡ xs
without-none q [] e = refl
without-none {A} q (x ∷ xs) e = go (q x) refl (λ h. without-none q xs h)
  where
    go : (b : Bool) → q x ≡ b → (find q xs ≡ None → without_first q xs ≡ xs) → without_first q (x ∷ xs) ≡ x ∷ xs
    go true t more = let v : Some x ≡ None = rw t at e in cc
    go false t more = rw t (ap (λ (ys : List A). x ∷ ys) (more (rw t at e)))

pub touched-none : {A : Type 0} (q : A → Bool) (xs : List A) → find q xs ≡ None → touched q xs ≡ xs
touched-none q xs e = rw e (without-none q xs e)
