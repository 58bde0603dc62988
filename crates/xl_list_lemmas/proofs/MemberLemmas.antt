-- Members of lists, found by tests; tests that agree, and lists with the same members.
use Rattle.std.proofs.Common.{◌++◌, ◌<◌, ◌||◌, ◌∙◌, ◌∷◌, ◌≡◌, ◌≤◌, ◌⊎◌, [], ap, arith, Bool, cond, false, slice_index_or as get_or, inl, inr, length, List, map, nat_lt, None, Option, refl, Some, subst, suc, sym, take, true, zero, ℕ}
use Rattle.std.proofs.lemmas.Bool.Decides.{nat_tests}
use Rattle.std.specs.List.{All, list_any}
use Rattle.std.specs.Prelude.{filter, find, is_some}
use Rattle.xl_list_lemmas.specs.Members.{In}

-- what is found is a member and passes
pub find-In : {A : Type 0} (p : A → Bool) (x : A) (xs : List A) → find p xs ≡ Some x → In x xs
find-In p x [] h = absurd (cc)
find-In {A} p x (y ∷ ys) h =
    elim (p y) as (λ b. cond b (Some y) (find p ys) ≡ Some x → In x (y ∷ ys)) [
      | true ↦ λ k. let e : x ≡ y = cc in inl e
      | false ↦ λ k. inr (find-In p x ys k)
    ] h

pub find-passes : {A : Type 0} (p : A → Bool) (x : A) (xs : List A) → find p xs ≡ Some x → p x ≡ true
find-passes p x [] h = absurd (cc)
find-passes {A} p x (y ∷ ys) h =
    elim (p y) as (λ b. p y ≡ b → cond b (Some y) (find p ys) ≡ Some x → p x ≡ true) [
      | true ↦ λ t k. let e : y ≡ x = cc in let P : A → Type 0 = λ z. p z ≡ true in subst P e t
      | false ↦ λ t k. find-passes p x ys k
    ] refl h

-- where nothing is found, no member passes
pub find-None : {A : Type 0} (p : A → Bool) (x : A) (xs : List A) → find p xs ≡ None → In x xs → p x ≡ false
find-None p x [] h i = absurd i
find-None {A} p x (y ∷ ys) h (inl e) =
    elim (p y) as (λ b. p y ≡ b → cond b (Some y) (find p ys) ≡ None → p x ≡ false) [
      | true ↦ λ t k. absurd (cc)
      | false ↦ λ t k. let P : A → Type 0 = λ z. p z ≡ false in subst P (sym e) t
    ] refl h
find-None {A} p x (y ∷ ys) h (inr i) =
    elim (p y) as (λ b. cond b (Some y) (find p ys) ≡ None → p x ≡ false) [
      | true ↦ λ k. absurd (cc)
      | false ↦ λ k. find-None p x ys k i
    ] h

-- a member that alone passes is found
pub find-only : {A : Type 0} (p : A → Bool) (x : A) (xs : List A) → In x xs → p x ≡ true
    → ((y : A) → In y xs → p y ≡ true → y ≡ x) → find p xs ≡ Some x
find-only p x [] i t only = absurd i
find-only {A} p x (y ∷ ys) i t only =
    elim (p y) as (λ b. p y ≡ b → cond b (Some y) (find p ys) ≡ Some x) [
      | true ↦ λ k. ap Some (only y (inl refl) k)
      | false ↦ λ k. find-only p x ys
          (elim i [
            | inl e ↦ let P : A → Type 0 = λ z. p z ≡ false in let f : p x ≡ false = subst P (sym e) k in absurd (cc)
            | inr j ↦ j
          ])
          t (λ z j. only z (inr j))
    ] refl

pub any-false : {A : Type 0} (p : A → Bool) (x : A) (xs : List A) → list_any p xs ≡ false → In x xs → p x ≡ false
any-false p x [] h i = absurd i
any-false {A} p x (y ∷ ys) h (inl e) =
    elim (p y) as (λ b. p y ≡ b → (b || list_any p ys) ≡ false → p x ≡ false) [
      | true ↦ λ t k. absurd (cc)
      | false ↦ λ t k. let P : A → Type 0 = λ z. p z ≡ false in subst P (sym e) t
    ] refl h
any-false {A} p x (y ∷ ys) h (inr i) =
    elim (p y) as (λ b. (b || list_any p ys) ≡ false → p x ≡ false) [
      | true ↦ λ k. absurd (cc)
      | false ↦ λ k. any-false p x ys k i
    ] h

pub In-any : {A : Type 0} (p : A → Bool) (x : A) (xs : List A) → In x xs → p x ≡ true → list_any p xs ≡ true
In-any p x [] i t = absurd i
In-any {A} p x (y ∷ ys) (inl e) t =
    let P : A → Type 0 = λ z. p z ≡ true in let k : p y ≡ true = subst P e t in rw k refl
In-any {A} p x (y ∷ ys) (inr i) t =
    elim (p y) as (λ b. (b || list_any p ys) ≡ true) [
      | true ↦ refl
      | false ↦ In-any p x ys i t
    ]

-- a member that passes, where some one does
pub any-In : {A : Type 0} (p : A → Bool) (xs : List A) → list_any p xs ≡ true → (x : A) × In x xs × (p x ≡ true)
any-In p [] h = absurd (cc)
any-In {A} p (y ∷ ys) h =
    elim (p y) as (λ b. p y ≡ b → (b || list_any p ys) ≡ true → (x : A) × In x (y ∷ ys) × (p x ≡ true)) [
      | true ↦ λ t k. (y, inl refl, t)
      | false ↦ λ t k. let found = any-In p ys k in (found.0, inr found.1, found.2)
    ] refl h

pub filter-In : {A : Type 0} (p : A → Bool) (x : A) (xs : List A) → In x (filter p xs) → In x xs
filter-In p x [] i = absurd i
filter-In {A} p x (y ∷ ys) i =
    elim (p y) as (λ b. In x (cond b (y ∷ filter p ys) (filter p ys)) → In x (y ∷ ys)) [
      | true ↦ λ j. elim j [ inl e ↦ inl e | inr k ↦ inr (filter-In p x ys k) ]
      | false ↦ λ j. inr (filter-In p x ys j)
    ] i

pub filter-passes : {A : Type 0} (p : A → Bool) (x : A) (xs : List A) → In x (filter p xs) → p x ≡ true
filter-passes p x [] i = absurd i
filter-passes {A} p x (y ∷ ys) i =
    elim (p y) as (λ b. p y ≡ b → In x (cond b (y ∷ filter p ys) (filter p ys)) → p x ≡ true) [
      | true ↦ λ t j. elim j [
        | inl e ↦ let P : A → Type 0 = λ z. p z ≡ true in subst P (sym e) t
        | inr k ↦ filter-passes p x ys k
      ]
      | false ↦ λ t j. filter-passes p x ys j
    ] refl i

pub In-filter : {A : Type 0} (p : A → Bool) (x : A) (xs : List A) → In x xs → p x ≡ true → In x (filter p xs)
In-filter p x [] i t = absurd i
In-filter {A} p x (y ∷ ys) (inl e) t =
    elim (p y) as (λ b. p y ≡ b → In x (cond b (y ∷ filter p ys) (filter p ys))) [
      | true ↦ λ k. inl e
      | false ↦ λ k. let P : A → Type 0 = λ z. p z ≡ true in let u : p y ≡ true = subst P e t in absurd (cc)
    ] refl
In-filter {A} p x (y ∷ ys) (inr i) t =
    elim (p y) as (λ b. In x (cond b (y ∷ filter p ys) (filter p ys))) [
      | true ↦ inr (In-filter p x ys i t)
      | false ↦ In-filter p x ys i t
    ]

pub map-In : {A B : Type 0} (f : A → B) (y : B) (xs : List A) → In y (map f xs) → (x : A) × In x xs × (y ≡ f x)
map-In f y [] i = absurd i
map-In f y (x ∷ xs) (inl e) = (x, inl refl, e)
map-In f y (x ∷ xs) (inr i) = let found = map-In f y xs i in (found.0, inr found.1, found.2)

pub In-map : {A B : Type 0} (f : A → B) (x : A) (xs : List A) → In x xs → In (f x) (map f xs)
In-map f x [] i = absurd i
In-map f x (y ∷ ys) (inl e) = inl (ap f e)
In-map f x (y ∷ ys) (inr i) = inr (In-map f x ys i)

pub take-In : {A : Type 0} (n : ℕ) (x : A) (xs : List A) → In x (take n xs) → In x xs
take-In zero x xs i = absurd i
take-In (suc n) x [] i = absurd i
take-In (suc n) x (y ∷ ys) (inl e) = inl e
take-In (suc n) x (y ∷ ys) (inr i) = inr (take-In n x ys i)

-- appended lists
pub In-left : {A : Type 0} (x : A) (xs ys : List A) → In x xs → In x (xs ++ ys)
In-left x [] ys i = absurd i
In-left x (y ∷ xs) ys (inl e) = inl e
In-left x (y ∷ xs) ys (inr i) = inr (In-left x xs ys i)

pub In-right : {A : Type 0} (x : A) (xs ys : List A) → In x ys → In x (xs ++ ys)
In-right x [] ys i = i
In-right x (y ∷ xs) ys i = inr (In-right x xs ys i)

pub In-append : {A : Type 0} (x : A) (xs ys : List A) → In x (xs ++ ys) → In x xs ⊎ In x ys
In-append x [] ys i = inr i
In-append x (y ∷ xs) ys (inl e) = inl (inl e)
In-append x (y ∷ xs) ys (inr i) = elim (In-append x xs ys i) [ inl j ↦ inl (inr j) | inr j ↦ inr j ]

-- std's word for every member
get-In : {A : Type 0} (xs : List A) (k : ℕ) (d : A) → k < length xs → In (get_or xs k d) xs
get-In [] k d h = absurd (omega arith)
get-In (x ∷ xs) zero d h = inl refl
get-In (x ∷ xs) (suc k) d h = inr (get-In xs k d (omega arith))

pub In-all : {A : Type 0} (P : A → Type 0) (xs : List A) → ((x : A) → In x xs → P x) → All P xs
In-all P xs f = λ k d h. f (get_or xs k d) (get-In xs k d h)

pub all-tail : {A : Type 0} (P : A → Type 0) (x : A) (xs : List A) → All P (x ∷ xs) → All P xs
all-tail P x xs h = λ k d l. h (suc k) d (omega arith)

pub all-In : {A : Type 0} (P : A → Type 0) (x : A) (xs : List A) → All P xs → In x xs → P x
all-In P x [] h i = absurd i
all-In P x (y ∷ ys) h (inl e) = subst P (sym e) (h zero y (omega arith))
all-In P x (y ∷ ys) h (inr i) = all-In P x ys (all-tail P y ys h) i

-- a test passes some member of both or of neither
pub any-same : {A : Type 0} (p : A → Bool) (xs ys : List A) → ((z : A) → In z xs → In z ys) → ((z : A) → In z ys → In z xs) → list_any p xs ≡ list_any p ys
any-same {A} p xs ys there back = go (list_any p xs) (list_any p ys) refl refl
  where
    go : (b d : Bool) → list_any p xs ≡ b → list_any p ys ≡ d → list_any p xs ≡ list_any p ys
    go true true h k = h ∙ sym k
    go false false h k = h ∙ sym k
    go true false h k =
        let found = any-In p xs h in
        let e : p found.0 ≡ false = any-false p found.0 ys k (there found.0 found.1) in
        let f : true ≡ false = sym found.2 ∙ e in
        absurd (cc)
    go false true h k =
        let found = any-In p ys k in
        let e : p found.0 ≡ false = any-false p found.0 xs h (back found.0 found.1) in
        let f : true ≡ false = sym found.2 ∙ e in
        absurd (cc)

-- a test that passes at most one member finds the same in both
pub find-same : {A : Type 0} (p : A → Bool) (xs ys : List A) → ((z : A) → In z xs → In z ys) → ((z : A) → In z ys → In z xs)
    → ((x y : A) → In x ys → In y ys → p x ≡ true → p y ≡ true → y ≡ x) → find p xs ≡ find p ys
find-same {A} p xs ys there back only = go (find p xs) (find p ys) refl refl
  where
    go : (o u : Option A) → find p xs ≡ o → find p ys ≡ u → find p xs ≡ find p ys
    go None None h k = h ∙ sym k
    go None (Some y) h k =
        let e : p y ≡ false = find-None p y xs h (back y (find-In p y ys k)) in
        let f : true ≡ false = sym (find-passes p y ys k) ∙ e in
        absurd (cc)
    go (Some x) u h k =
        h ∙ sym (find-only p x ys (there x (find-In p x xs h)) (find-passes p x xs h)
        (λ y j t. only x y (there x (find-In p x xs h)) j (find-passes p x xs h) t))

-- tests that agree on each member
pub any-each : {A : Type 0} (p q : A → Bool) (xs : List A) → ((x : A) → In x xs → p x ≡ q x) → list_any p xs ≡ list_any q xs
any-each p q [] h = refl
any-each p q (x ∷ xs) h = ap (λ b. b || list_any p xs) (h x (inl refl)) ∙ ap (λ b. q x || b) (any-each p q xs (λ z i. h z (inr i)))

pub any-or : {A : Type 0} (p q : A → Bool) (xs : List A) → list_any (λ x. p x || q x) xs ≡ (list_any p xs || list_any q xs)
any-or p q [] = refl
any-or p q (x ∷ xs) = ap (λ b. (p x || q x) || b) (any-or p q xs) ∙ swap (p x) (q x) (list_any p xs) (list_any q xs)
  where
    swap : (a b c d : Bool) → ((a || b) || (c || d)) ≡ ((a || c) || (b || d))
    swap true b c d = refl
    swap false true true d = refl
    swap false true false d = refl
    swap false false c d = refl

-- some member passes where one is found
pub any-find : {A : Type 0} (p : A → Bool) (xs : List A) → list_any p xs ≡ is_some (find p xs)
any-find p [] = refl
any-find p (x ∷ xs) = elim (p x) as (λ b. (b || list_any p xs) ≡ is_some (cond b (Some x) (find p xs))) [ true ↦ refl | false ↦ any-find p xs ]

-- no member passes where each fails
pub none-any : {A : Type 0} (p : A → Bool) (xs : List A) → ((x : A) → In x xs → p x ≡ false) → list_any p xs ≡ false
none-any p [] h = refl
none-any p (x ∷ xs) h = rw (h x (inl refl)) (none-any p xs (λ z i. h z (inr i)))

-- two tests are one where each passes what the other does
pub same-tests : (a b : Bool) → (a ≡ true → b ≡ true) → (b ≡ true → a ≡ true) → a ≡ b
same-tests true b h k = sym (h refl)
same-tests false true h k = k refl
same-tests false false h k = refl

pub both : (b : Bool) → b ≡ true → b ≡ false → ⊥
both b t f = let e : true ≡ false = sym t ∙ f in absurd (cc)

pub pick-yes : {A : Type 0} → (m n : ℕ) (a b : A) → m < n → cond (nat_lt m n) a b ≡ a
pick-yes m n a b h = let e : nat_lt m n ≡ true = grind (arith, nat_tests) in rw e refl

pub pick-no : {A : Type 0} → (m n : ℕ) (a b : A) → n ≤ m → cond (nat_lt m n) a b ≡ b
pick-no m n a b h = let e : nat_lt m n ≡ false = grind (arith, nat_tests) in rw e refl
