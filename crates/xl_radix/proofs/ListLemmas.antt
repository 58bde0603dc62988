-- What a test finds in a list, also with one leaf more.
use Rattle.xl_radix.proofs.Common.{◌∙◌, ◌∷◌, ◌≡◌, [], any-In, ap, Bool, cond, false, false≢true, find, find-In, find-None, find-only, find-passes, In, In-with, inl, inr, is_some, Leaf, leaf_key, List, list_any, None, refl, Some, sym, true, with-In, with_leaf}
use Rattle.xl_radix.proofs.CaseLemmas.{After, Before, lies, Same}

pub find-nothing : (p : Leaf → Bool) (xs : List Leaf) → ((y : Leaf) → In y xs → p y ≡ true → ⊥) → find p xs ≡ None
find-nothing p xs not =
    elim (find p xs) as (λ o. find p xs ≡ o → o ≡ None) [
      | Some y ↦ λ e. absurd (not y (find-In p y xs e) (find-passes p y xs e))
      | None ↦ λ e. refl
    ] refl

pub any-nothing : (p : Leaf → Bool) (xs : List Leaf) → ((y : Leaf) → In y xs → p y ≡ true → ⊥) → list_any p xs ≡ false
any-nothing p xs not =
    elim (list_any p xs) as (λ b. list_any p xs ≡ b → b ≡ false) [
      | true ↦ λ e. let r = any-In p xs e in absurd (not r.0 r.1 r.2)
      | false ↦ λ e. refl
    ] refl

-- A test that the new leaf fails finds what it found, where no leaf has the new one's key.
pub find-with-other : (p : Leaf → Bool) (x : Leaf) (xs : List Leaf) → p x ≡ false → ((y : Leaf) → In y xs → leaf_key x ≡ leaf_key y → ⊥) → find p (with_leaf x xs) ≡ find p xs
find-with-other p x [] f not = rw f refl
find-with-other p x (z ∷ zs) f not =
    elim (lies (leaf_key x) (leaf_key z)) as (λ _. find p (with_leaf x (z ∷ zs)) ≡ find p (z ∷ zs)) [
      | Same e t ↦ absurd (not z (inl refl) e)
      | Before e t u ↦ rw (t, u, f) refl
      | After e t u ↦ rw (t, u) (ap (cond (p z) (Some z)) (find-with-other p x zs f (λ y i. not y (inr i))))
    ]

pub find-with : (p : Leaf → Bool) (x : Leaf) (xs : List Leaf) → p x ≡ true → ((y : Leaf) → In y xs → p y ≡ true → ⊥) → find p (with_leaf x xs) ≡ Some x
find-with p x xs t not =
    find-only p x (with_leaf x xs) (In-with x xs) t (λ y i u. elim (with-In y x xs i) [ inl e ↦ e | inr r ↦ absurd (not y r u) ])

-- Where a member passes a test, some one is found.
pub found-some : {A : Type 0} (p : A → Bool) (x : A) (xs : List A) → In x xs → p x ≡ true → is_some (find p xs) ≡ true
found-some p x xs i t =
    elim (find p xs) as (λ o. find p xs ≡ o → is_some o ≡ true) [
      | Some y ↦ λ e. refl
      | None ↦ λ e. absurd (false≢true (sym (find-None p x xs e i) ∙ t))
    ] refl
