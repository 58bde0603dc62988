-- A scan that stops at the first item that passes a test, against `find`, `touched` and `purged`.
use Rattle.xl_recency.proofs.Common.{◌+◌, ◌<◌, ◌∙◌, ◌∷◌, ◌≡◌, ◌≤◌, [], AllFail, ap, arith, Bool, cases_lt, FailBefore, false, find, get_or, get_or-take, get_or_read, inl, inr, IsFirst, IsTest, length, length-take-le, List, None, refl, remove, Some, subst, suc, sym, take, touched, Touches, true, without_first, zero, ℕ}

module _ {A : Type 0} (q : A → Bool) where
  pub find_at : (xs : List A) (at : ℕ) (d : A) → at < length xs → ((k : ℕ) → k < at → q (get_or xs k d) ≡ false) → q (get_or xs at d) ≡ true
      → find q xs ≡ Some (get_or xs at d)
  find_at [] at d l b m = absurd (omega arith)
  find_at (x ∷ xs) zero d l b m = let e : q x ≡ true = m in rw e refl
  find_at (x ∷ xs) (suc at) d l b m =
      let e : q x ≡ false = b 0 (omega arith) in
      rw e (find_at xs at d (omega arith) (λ k s. b (suc k) (omega arith)) m)

  pub without_at : (xs : List A) (at : ℕ) (d : A) → at < length xs → ((k : ℕ) → k < at → q (get_or xs k d) ≡ false) → q (get_or xs at d) ≡ true
      → without_first q xs ≡ remove xs at
  without_at [] at d l b m = absurd (omega arith)
  without_at (x ∷ xs) zero d l b m = let e : q x ≡ true = m in rw e refl
  without_at (x ∷ xs) (suc at) d l b m =
      let e : q x ≡ false = b 0 (omega arith) in
      rw e (ap (λ (ys : List A). x ∷ ys) (without_at xs at d (omega arith) (λ k s. b (suc k) (omega arith)) m))

  pub find_none : (xs : List A) → ((k : ℕ) (d : A) → k < length xs → q (get_or xs k d) ≡ false) → find q xs ≡ None
  find_none [] b = refl
  find_none (x ∷ xs) b =
      let e : q x ≡ false = b 0 x (omega arith) in
      rw e (find_none xs (λ k d s. b (suc k) d (omega arith)))

  pub without_none : (xs : List A) → ((k : ℕ) (d : A) → k < length xs → q (get_or xs k d) ≡ false) → without_first q xs ≡ xs
  without_none [] b = refl
  without_none (x ∷ xs) b =
      let e : q x ≡ false = b 0 x (omega arith) in
      rw e (ap (λ (ys : List A). x ∷ ys) (without_none xs (λ k d s. b (suc k) d (omega arith))))

  -- the first of two items that passes, in front of the others; `place` has where it is, by whether it is the first one
  pub near : (place : Bool → ℕ) (b : Bool) (xs ys : List A) (len : ℕ) (d : A) → place true ≡ 0 → place false ≡ 1 → q (get_or xs 0 d) ≡ b → place b < len → len ≤ length xs
      → q (get_or xs (place b) d) ≡ true → ys ≡ get_or xs (place b) d ∷ remove xs (place b) → Touches q (take len xs) (take len ys) (Some (get_or xs (place b) d))
  near place b xs ys zero d z o e l fits m is = absurd (omega arith)
  near place b [] ys (suc n) d z o e l fits m is = absurd (omega arith)
  near place true (x ∷ xs) ys (suc n) d z o e l fits m is =
      let first : q x ≡ true = e in
      rw (is, z) (record { found = rw first refl; moved = rw first refl })
  near place false (x ∷ xs) ys (suc zero) d z o e l fits m is = absurd (omega (arith, l, o))
  near place false (x ∷ []) ys (suc (suc n)) d z o e l fits m is = absurd (omega (arith, fits))
  near place false (x ∷ y ∷ xs) ys (suc (suc n)) d z o e l fits m is =
      let first : q x ≡ false = e in
      let second : q y ≡ true = rw o at m in
      rw (is, o) (record { found = rw (first, second) refl; moved = rw (first, second) refl })

-- the first item in front of the others
first_back : {A : Type 0} (xs : List A) (x : A) → 0 < length xs → x ≡ get_or xs 0 x → xs ≡ x ∷ remove xs 0
first_back [] x l e = absurd (omega arith)
first_back (y ∷ xs) x l e = ap (λ (z : _). z ∷ xs) (sym e)

module _ {A : Type 0} (answers : A → Bool → Type 0) (q : A → Bool) (test : IsTest answers q) where
  pub found : (xs : List A) (at : ℕ) (x : A) → at < length xs → IsFirst answers xs at → x ≡ get_or xs at x → Some x ≡ find q xs
  found xs at x l f is =
      ap (λ (y : A). Some y) is
      ∙ sym (find_at q xs at x l (λ k s. sym (test.same _ _ (f.before k x s))) (sym (test.same _ _ (f.meets x))))

  pub moved : (xs : List A) (at : ℕ) (x : A) → at < length xs → IsFirst answers xs at → x ≡ get_or xs at x → x ∷ remove xs at ≡ touched q xs
  moved xs at x l f is =
      rw (sym (found xs at x l f is), without_at q xs at x l (λ k s. sym (test.same _ _ (f.before k x s))) (sym (test.same _ _ (f.meets x)))) refl

  pub stays : (xs : List A) (at : ℕ) (x : A) → at < length xs → IsFirst answers xs at → x ≡ get_or xs at x → at ≡ 0 → xs ≡ touched q xs
  stays xs at x l f is zero-at =
      let e : x ≡ get_or xs 0 x = rw zero-at at is in
      first_back xs x (omega (arith, l, zero-at)) e ∙ ap (λ (k : ℕ). x ∷ remove xs k) (sym zero-at) ∙ moved xs at x l f is

  pub none_found : (xs : List A) → AllFail answers xs → None ≡ find q xs
  none_found xs f = sym (find_none q xs (λ k d s. sym (test.same _ _ (f.fails k d s))))

  pub none_moved : (xs : List A) → AllFail answers xs → xs ≡ touched q xs
  none_moved xs f =
      rw (sym (none_found xs f)) (sym (without_none q xs (λ k d s. sym (test.same _ _ (f.fails k d s)))))

-- a scan of more items than a list has, against one of the list
module _ {A : Type 0} (answers : A → Bool → Type 0) (xs : List A) (len end : ℕ) (fits : len ≤ length xs) (more : len ≤ end) where
  pub same_item : (k : ℕ) (d : A) → k < len → get_or (take end xs) k d ≡ get_or (take len xs) k d
  same_item k d l = get_or-take end xs k d (omega arith) ∙ sym (get_or-take len xs k d l)

  pub first_within : (at : ℕ) → at < len → IsFirst answers (take end xs) at → IsFirst answers (take len xs) at
  first_within at l f = record {
    meets = λ d. subst (λ (x : A). answers x true) (same_item at d l) (f.meets d);
    before = λ k d b. subst (λ (x : A). answers x false) (same_item k d (omega arith)) (f.before k d b);
  }

  pub first_following : (at : ℕ) → len ≤ at → IsFirst answers (take end xs) at → AllFail answers (take len xs)
  first_following at l f = record {
    fails = λ k d b.
        let below : k < len = rw (length-take-le len xs fits) at b in
        subst (λ (x : A). answers x false) (same_item k d below) (f.before k d (omega arith));
  }

  pub none_within : end ≤ length xs → AllFail answers (take end xs) → AllFail answers (take len xs)
  none_within whole f = record {
    fails = λ k d b.
        let below : k < len = rw (length-take-le len xs fits) at b in
        subst (λ (x : A). answers x false) (same_item k d below) (f.fails k d (rw (length-take-le end xs whole) (omega arith)));
  }

-- a scan of the items of a list and of the slots after them
module _ {A : Type 0} (answers : A → Bool → Type 0) (xs : List A) (len : ℕ) (fits : len ≤ length xs) where
  pub scanned_first : (at : ℕ) (x : A) → at < len → x ≡ get_or xs at x → answers (get_or xs at x) true → ((k : ℕ) (d : A) → k < at → answers (get_or xs k d) false) → IsFirst answers (take len xs) at
  scanned_first at x l is meets before = record {
    meets = λ d. subst (λ (y : A). answers y true) (sym is ∙ get_or_read xs at x (omega arith) is d ∙ sym (get_or-take len xs at d l)) meets;
    before = λ k d b. subst (λ (y : A). answers y false) (sym (get_or-take len xs k d (omega arith))) (before k d b);
  }

  pub scanned_none : (at : ℕ) → len ≤ at → ((k : ℕ) (d : A) → k < at → answers (get_or xs k d) false) → AllFail answers (take len xs)
  scanned_none at l before = record {
    fails = λ k d b.
        let below : k < len = rw (length-take-le len xs fits) at b in
        subst (λ (y : A). answers y false) (sym (get_or-take len xs k d below)) (before k d (omega arith));
  }

-- a scan by places, one after another
module _ {A : Type 0} (answers : A → Bool → Type 0) (xs : List A) where
  pub fail_none : FailBefore answers xs 0
  fail_none = record { fails = λ k d b l. absurd (omega arith) }

  pub fail_more : (at : ℕ) (x : A) → at < length xs → x ≡ get_or xs at x → answers (get_or xs at x) false → FailBefore answers xs at → FailBefore answers xs (at + 1)
  fail_more at x within is fails before = record {
    fails = λ k d b l.
        elim (cases_lt k at) [
          | inl below ↦ before.fails k d below l
          | inr here ↦
              let e : k ≡ at = omega arith in
              rw e (subst (λ (y : A). answers y false) (sym is ∙ get_or_read xs at x within is d) fails)
        ];
  }

  pub fail_past : (at : ℕ) → length xs ≤ at → FailBefore answers xs at → FailBefore answers xs (at + 1)
  fail_past at past before = record { fails = λ k d b l. before.fails k d (omega arith) l }

  pub first_at : (at : ℕ) (x : A) → at < length xs → x ≡ get_or xs at x → answers (get_or xs at x) true → FailBefore answers xs at → IsFirst answers xs at
  first_at at x within is meets before = record {
    meets = λ d. subst (λ (y : A). answers y true) (sym is ∙ get_or_read xs at x within is d) meets;
    before = λ k d b. before.fails k d b (omega arith);
  }

  pub fail_all : (len end : ℕ) (fits : len ≤ length xs) → len ≤ end → FailBefore answers xs end → AllFail answers (take len xs)
  fail_all len end fits few before = scanned_none answers xs len fits len (omega arith) (λ k d b. before.fails k d (omega arith) (omega arith))
