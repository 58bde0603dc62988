-- Buckets one after another: an item more, items less, what is found, and the chain of a bucket. For chains in words.
use Rattle.xl_chain.proofs.Common.{◌++◌, ◌<◌, ◌==◌, ◌∙◌, ◌∷◌, ◌≡◌, ◌≤◌, [], ap, append-nil, arith, Bool, bucket_of, chain_of, cond, false, filter, filter-append, find, gather, In, In-append, In-left, In-right, in_front_by, inl, inr, length, length-append, List, map, map-append, nat_lt, nat_tests, None, refl, Some, subst, suc, sym, true, zero, ℕ}

module _ {A : Type 0} (tag : A → ℕ) (n : ℕ) where
  -- an item goes past the buckets below its own, and is before the others
  AllBelow : ℕ → List A → Type 0
  AllBelow b xs = (z : A) → In z xs → bucket_of n (tag z) < b

  AllFrom : ℕ → List A → Type 0
  AllFrom b xs = (z : A) → In z xs → b ≤ bucket_of n (tag z)

  front-past : (x : A) (xs ys : List A) → AllBelow (bucket_of n (tag x)) xs → in_front_by tag n x (xs ++ ys) ≡ xs ++ in_front_by tag n x ys
  unfolding AllBelow
  front-past x [] ys h = refl
  front-past x (y ∷ xs) ys h =
      let t : nat_lt (bucket_of n (tag y)) (bucket_of n (tag x)) ≡ true = (let l = h y (inl refl) in grind (arith, nat_tests)) in
      rw t (ap (λ zs. y ∷ zs) (front-past x xs ys (λ z i. h z (inr i))))

  front-here : (x : A) (ys : List A) → AllFrom (bucket_of n (tag x)) ys → in_front_by tag n x ys ≡ x ∷ ys
  unfolding AllFrom
  front-here x [] h = refl
  front-here x (y ∷ ys) h =
      let t : nat_lt (bucket_of n (tag y)) (bucket_of n (tag x)) ≡ false = (let l = h y (inl refl) in grind (arith, nat_tests)) in
      rw t refl

  front-left : (x : A) (xs ys : List A) → AllFrom (bucket_of n (tag x)) ys → in_front_by tag n x (xs ++ ys) ≡ in_front_by tag n x xs ++ ys
  unfolding AllFrom
  front-left x [] ys h = front-here x ys h
  front-left x (y ∷ xs) ys h =
      elim (nat_lt (bucket_of n (tag y)) (bucket_of n (tag x))) as (λ b. cond b (y ∷ in_front_by tag n x (xs ++ ys)) (x ∷ y ∷ (xs ++ ys)) ≡ cond b (y ∷ in_front_by tag n x xs) (x ∷ y ∷ xs) ++ ys) [
        | true ↦ ap (λ zs. y ∷ zs) (front-left x xs ys h)
        | false ↦ refl
      ]

-- buckets, one after another
pub gather-same : {A : Type 0} (f g : ℕ → List A) (n : ℕ) → ((b : ℕ) → b < n → g b ≡ f b) → gather g n ≡ gather f n
gather-same f g zero h = refl
gather-same f g (suc n) h =
    ap (λ xs. xs ++ g n) (gather-same f g n (λ b less. h b (omega arith))) ∙ ap (λ xs. gather f n ++ xs) (h n (omega arith))

pub gather-In : {A : Type 0} (f : ℕ → List A) (x : A) (n : ℕ) → In x (gather f n) → (b : ℕ) × (b < n) × In x (f b)
gather-In f x zero i = absurd i
gather-In f x (suc n) i =
    elim (In-append x (gather f n) (f n) i) [
      | inl j ↦ let r = gather-In f x n j in (r.0, omega (arith, r.1), r.2)
      | inr j ↦ (n, omega arith, j)
    ]

pub In-gather : {A : Type 0} (f : ℕ → List A) (x : A) (b n : ℕ) → b < n → In x (f b) → In x (gather f n)
In-gather f x b zero less i = absurd (omega arith)
In-gather {A} f x b (suc n) less i =
    elim (b == n) as (λ t. (b == n) ≡ t → In x (gather f n ++ f n)) [
      | true ↦ λ t. let e : b ≡ n = grind (arith, nat_tests) in
          let P : ℕ → Type 0 = λ k. In x (f k) in In-right x (gather f n) (f n) (subst P e i)
      | false ↦ λ t. In-left x (gather f n) (f n) (In-gather f x b n (grind (arith, nat_tests)) i)
    ] refl

pub length-gather : {A : Type 0} (f : ℕ → List A) (b n : ℕ) → b < n → length (f b) ≤ length (gather f n)
length-gather f b zero less = absurd (omega arith)
length-gather f b (suc n) less =
    elim (b == n) as (λ t. (b == n) ≡ t → length (f b) ≤ length (gather f n ++ f n)) [
      | true ↦ λ t. let e : b ≡ n = grind (arith, nat_tests) in
          let k : length (f b) ≡ length (f n) = ap (λ (m : ℕ). length (f m)) e in
          omega (arith, length-append (gather f n) (f n))
      | false ↦ λ t. let l : b < n = grind (arith, nat_tests) in
          omega (arith, length-append (gather f n) (f n), length-gather f b n l)
    ] refl

-- each item is in the bucket of its tag
pub record ArePlaced {A : Type 0} (tag : A → ℕ) (n : ℕ) (f : ℕ → List A) : Type 0 where
  pub at : (b : ℕ) (x : A) → b < n → In x (f b) → bucket_of n (tag x) ≡ b

-- one item more at the head of its own bucket
pub gather-front : {A : Type 0} (tag : A → ℕ) (n : ℕ) (f g : ℕ → List A) (x : A) (m : ℕ) → ArePlaced tag n f → m ≤ n → bucket_of n (tag x) < m
    → g (bucket_of n (tag x)) ≡ x ∷ f (bucket_of n (tag x))
    → ((b : ℕ) → b < n → (b ≡ bucket_of n (tag x) → ⊥) → g b ≡ f b)
    → gather g m ≡ in_front_by tag n x (gather f m)
unfolding AllBelow AllFrom
gather-front tag n f g x zero p le less here others = absurd (omega arith)
gather-front tag n f g x (suc m) p le less here others =
    elim (bucket_of n (tag x) == m) as (λ t. (bucket_of n (tag x) == m) ≡ t → gather g m ++ g m ≡ in_front_by tag n x (gather f m ++ f m)) [
      | true ↦ λ t.
          let e : bucket_of n (tag x) ≡ m = grind (arith, nat_tests) in
          let a : gather g m ≡ gather f m = gather-same f g m (λ b l. others b (omega arith) (λ q. omega arith)) in
          let c : in_front_by tag n x (gather f m ++ f m) ≡ gather f m ++ in_front_by tag n x (f m) =
          front-past tag n x (gather f m) (f m) (λ h i. let r = gather-In f h m i in let q = p.at r.0 h (omega (arith, r.1)) r.2 in omega (arith, r.1, q, e)) in
          let d : in_front_by tag n x (f m) ≡ x ∷ f m = front-here tag n x (f m) (λ h i. let q = p.at m h (omega arith) i in omega (arith, q, e)) in
          ap (λ xs. xs ++ g m) a ∙ ap (λ xs. gather f m ++ xs) (subst (λ (b : ℕ). g b ≡ x ∷ f b) e here ∙ sym d) ∙ sym c
      | false ↦ λ t.
          let l : bucket_of n (tag x) < m = grind (arith, nat_tests) in
          let c : in_front_by tag n x (gather f m ++ f m) ≡ in_front_by tag n x (gather f m) ++ f m =
          front-left tag n x (gather f m) (f m) (λ h i. let q = p.at m h (omega arith) i in omega (arith, q, l)) in
          ap (λ xs. xs ++ g m) (gather-front tag n f g x m p (omega arith) l here others)
          ∙ ap (λ xs. in_front_by tag n x (gather f m) ++ xs) (others m (omega arith) (λ q. omega arith)) ∙ sym c
    ] refl

-- a test that takes items from every bucket
pub gather-filter : {A : Type 0} (p : A → Bool) (f g : ℕ → List A) (n : ℕ) → ((b : ℕ) → b < n → g b ≡ filter p (f b)) → gather g n ≡ filter p (gather f n)
gather-filter p f g zero h = refl
gather-filter p f g (suc n) h =
    ap (λ xs. xs ++ g n) (gather-filter p f g n (λ b l. h b (omega arith)))
    ∙ ap (λ xs. filter p (gather f n) ++ xs) (h n (omega arith))
    ∙ sym (filter-append p (gather f n) (f n))

-- what only one bucket has is found there
find-past : {A : Type 0} (p : A → Bool) (xs ys : List A) → ((x : A) → In x xs → p x ≡ false) → find p (xs ++ ys) ≡ find p ys
find-past p [] ys h = refl
find-past p (x ∷ xs) ys h = rw (h x (inl refl)) (find-past p xs ys (λ z i. h z (inr i)))

find-left : {A : Type 0} (p : A → Bool) (xs ys : List A) → ((x : A) → In x ys → p x ≡ false) → find p (xs ++ ys) ≡ find p xs
find-left {A} p [] ys h = none ys h
  where
    none : (ys : List A) → ((x : A) → In x ys → p x ≡ false) → find p ys ≡ None
    none [] h = refl
    none (y ∷ ys) h = rw (h y (inl refl)) (none ys (λ z i. h z (inr i)))
find-left p (x ∷ xs) ys h =
    elim (p x) as (λ b. cond b (Some x) (find p (xs ++ ys)) ≡ cond b (Some x) (find p xs)) [
      | true ↦ refl
      | false ↦ find-left p xs ys h
    ]

pub gather-find : {A : Type 0} (p : A → Bool) (f : ℕ → List A) (b n : ℕ) → b < n → ((a : ℕ) (x : A) → a < n → (a ≡ b → ⊥) → In x (f a) → p x ≡ false)
    → find p (gather f n) ≡ find p (f b)
gather-find p f b zero less h = absurd (omega arith)
gather-find p f b (suc n) less h =
    elim (b == n) as (λ t. (b == n) ≡ t → find p (gather f n ++ f n) ≡ find p (f b)) [
      | true ↦ λ t. let e : b ≡ n = grind (arith, nat_tests) in
          find-past p (gather f n) (f n) (λ z i. let r = gather-In f z n i in h r.0 z (omega (arith, r.1)) (λ q. omega (arith, r.1, q, e)) r.2)
          ∙ ap (λ (k : ℕ). find p (f k)) (sym e)
      | false ↦ λ t. let l : b < n = grind (arith, nat_tests) in
          find-left p (gather f n) (f n) (λ z i. h n z (omega arith) (λ q. omega (arith, q, l)) i)
          ∙ gather-find p f b n l (λ a z k other i. h a z (omega arith) other i)
    ] refl

-- the chain of a bucket
filter-none : {A : Type 0} (tag : A → ℕ) (q : ℕ → Bool) (xs : List A) → ((x : A) → In x xs → q (tag x) ≡ false) → filter q (map tag xs) ≡ []
filter-none tag q [] h = refl
filter-none tag q (x ∷ xs) h = rw (h x (inl refl)) (filter-none tag q xs (λ z i. h z (inr i)))

filter-every : {A : Type 0} (tag : A → ℕ) (q : ℕ → Bool) (xs : List A) → ((x : A) → In x xs → q (tag x) ≡ true) → filter q (map tag xs) ≡ map tag xs
filter-every tag q [] h = refl
filter-every tag q (x ∷ xs) h = rw (h x (inl refl)) (ap (λ ys. tag x ∷ ys) (filter-every tag q xs (λ z i. h z (inr i))))

gather-tags : {A : Type 0} (tag : A → ℕ) (q : ℕ → Bool) (f : ℕ → List A) (b n : ℕ) → b < n
    → ((x : A) → In x (f b) → q (tag x) ≡ true)
    → ((a : ℕ) (x : A) → a < n → (a ≡ b → ⊥) → In x (f a) → q (tag x) ≡ false)
    → filter q (map tag (gather f n)) ≡ map tag (f b)
gather-tags tag q f b zero less here other = absurd (omega arith)
gather-tags {A} tag q f b (suc n) less here other =
    let m : map tag (gather f n ++ f n) ≡ map tag (gather f n) ++ map tag (f n) = map-append tag (gather f n) (f n) in
    ap (filter q) m ∙ filter-append q (map tag (gather f n)) (map tag (f n)) ∙
    elim (b == n) as (λ t. (b == n) ≡ t → filter q (map tag (gather f n)) ++ filter q (map tag (f n)) ≡ map tag (f b)) [
      | true ↦ λ t. let e : b ≡ n = grind (arith, nat_tests) in
          ap (λ xs. xs ++ filter q (map tag (f n))) (filter-none tag q (gather f n) (λ z i. let r = gather-In f z n i in other r.0 z (omega (arith, r.1)) (λ k. omega (arith, r.1, k, e)) r.2))
          ∙ filter-every tag q (f n) (subst (λ (k : ℕ). (x : A) → In x (f k) → q (tag x) ≡ true) e here) ∙ ap (λ (k : ℕ). map tag (f k)) (sym e)
      | false ↦ λ t. let l : b < n = grind (arith, nat_tests) in
          ap (λ xs. filter q (map tag (gather f n)) ++ xs) (filter-none tag q (f n) (λ z i. other n z (omega arith) (λ k. omega (arith, k, l)) i))
          ∙ append-nil (filter q (map tag (gather f n)))
          ∙ gather-tags tag q f b n l here (λ a z k o i. other a z (omega arith) o i)
    ] refl

pub gather-chain : {A : Type 0} (tag : A → ℕ) (n : ℕ) (f : ℕ → List A) (b : ℕ) → ArePlaced tag n f → b < n → chain_of n b (map tag (gather f n)) ≡ map tag (f b)
unfolding chain_of
gather-chain tag n f b p less =
    gather-tags tag (λ t. bucket_of n t == b) f b n less (λ h i. let q = p.at b h less i in grind (arith, nat_tests))
    (λ a h l other i. let q = p.at a h l i in grind (arith, nat_tests))
