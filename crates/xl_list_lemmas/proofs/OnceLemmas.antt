-- Lists in which no member occurs twice: by their members alone it is known which is the shorter.
-- For lists of free places too.
use Rattle.std.proofs.Common.{◌++◌, ◌==◌, ◌∙◌, ◌∷◌, ◌≡◌, ◌≤◌, [], ap, arith, Bool, cond, false, inl, inr, length, List, refl, subst, suc, sym, true, ℕ}
use Rattle.std.proofs.lemmas.Bool.Decides.{nat_tests}
use Rattle.xl_list_lemmas.proofs.MemberLemmas.{In-append, In-left}
use Rattle.xl_list_lemmas.specs.Members.{In, Once}

module _ {A : Type 0} (eq : A → A → Bool) (is : (x y : A) → eq x y ≡ true → x ≡ y) (own : (x : A) → eq x x ≡ true) where
  unequal : (x y : A) → eq x y ≡ false → x ≡ y → ⊥
  unequal x y f e = let t : eq x y ≡ true = subst (λ z. eq x z ≡ true) e (own x) in let k : true ≡ false = sym t ∙ f in absurd (cc)

  -- one member less
  abbrev pub dropped : A → List A → List A
  dropped x [] = []
  dropped x (y ∷ ys) = cond (eq x y) ys (y ∷ dropped x ys)

  dropped-length : (x : A) (ys : List A) → In x ys → suc (length (dropped x ys)) ≡ length ys
  dropped-length x [] i = absurd i
  dropped-length x (y ∷ ys) i =
      elim (eq x y) as (λ b. eq x y ≡ b → suc (length (cond b ys (y ∷ dropped x ys))) ≡ suc (length ys)) [
        | true ↦ λ t. refl
        | false ↦ λ t. ap suc (dropped-length x ys (elim i [ inl e ↦ absurd (unequal x y t e) | inr j ↦ j ]))
      ] refl

  dropped-In : (x z : A) (ys : List A) → In z ys → (z ≡ x → ⊥) → In z (dropped x ys)
  dropped-In x z [] i o = absurd i
  dropped-In x z (y ∷ ys) i o =
      elim (eq x y) as (λ b. eq x y ≡ b → In z (cond b ys (y ∷ dropped x ys))) [
        | true ↦ λ t. elim i [ inl e ↦ absurd (o (e ∙ sym (is x y t))) | inr j ↦ j ]
        | false ↦ λ t. elim i [ inl e ↦ inl e | inr j ↦ inr (dropped-In x z ys j o) ]
      ] refl

  -- members that occur once are no more than those of the list in which they all are
  pub short-by : (xs ys : List A) → Once xs → ((x : A) → In x xs → In x ys) → length xs ≤ length ys
  short-by [] ys o h = omega arith
  short-by (x ∷ xs) ys (out, rest) h =
      let k = short-by xs (dropped x ys) rest (λ z i. dropped-In x z ys (h z (inr i)) (λ e. out (subst (λ w. In w xs) e i))) in
      let l = dropped-length x ys (h x (inl refl)) in
      omega arith

  -- two such lists with the same members are as long as one another
  pub same-by : (xs ys : List A) → Once xs → Once ys → ((x : A) → In x xs → In x ys) → ((x : A) → In x ys → In x xs) → length xs ≡ length ys
  same-by xs ys a b there back = omega (arith, short-by xs ys a there, short-by ys xs b back)

-- the same for numbers
numbers-one : (x y : ℕ) → (x == y) ≡ true → x ≡ y
numbers-one x y t = grind (arith, nat_tests)

pub own-number : (x : ℕ) → (x == x) ≡ true
own-number x = grind (arith, nat_tests)

pub once-short : (xs ys : List ℕ) → Once xs → ((x : ℕ) → In x xs → In x ys) → length xs ≤ length ys
once-short = short-by (λ x y. x == y) numbers-one own-number

pub once-same : (xs ys : List ℕ) → Once xs → Once ys → ((x : ℕ) → In x xs → In x ys) → ((x : ℕ) → In x ys → In x xs) → length xs ≡ length ys
once-same = same-by (λ x y. x == y) numbers-one own-number

-- two such lists with no member in common, one after the other
pub once-append : {A : Type 0} (xs ys : List A) → Once xs → Once ys → ((x : A) → In x xs → In x ys → ⊥) → Once (xs ++ ys)
once-append [] ys a b apart = b
once-append (x ∷ xs) ys (first, rest) b apart = (
  λ i. elim (In-append x xs ys i) [ inl j ↦ first j | inr j ↦ apart x (inl refl) j ],
  once-append xs ys rest b (λ z i. apart z (inr i)),
)

-- a last member less, and one more
pub once-last : {A : Type 0} (xs : List A) (x : A) → Once (xs ++ x ∷ []) → Once xs × (In x xs → ⊥)
once-last [] x h = (tt, λ i. i)
once-last {A} (y ∷ ys) x (first, rest) =
    let r = once-last ys x rest in
    let out : x ≡ y → ⊥ = (λ e. first (let P : A → Type 0 = λ z. In z (ys ++ x ∷ []) in subst P e (last ys))) in (
      (λ i. first (In-left y ys (x ∷ []) i), r.0),
      λ i. elim i [ inl e ↦ out e | inr j ↦ r.1 j ],
    )
  where
    last : (zs : List A) → In x (zs ++ x ∷ [])
    last [] = inl refl
    last (z ∷ zs) = inr (last zs)

pub once-more : {A : Type 0} (xs : List A) (x : A) → Once xs → (In x xs → ⊥) → Once (xs ++ x ∷ [])
once-more [] x h out = (λ i. i, tt)
once-more {A} (y ∷ ys) x (first, rest) out = (
  λ i. elim (In-append y ys (x ∷ []) i) [
    | inl j ↦ first j
    | inr j ↦ elim j [ inl e ↦ out (inl (sym e)) | inr k ↦ k ]
  ],
  once-more ys x rest (λ i. out (inr i)),
)
