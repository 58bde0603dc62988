-- Loops over the kept leaves, one leaf at a step.
use Rattle.xl_model_table.proofs.Common.{◌++◌, ◌+◌, ◌<◌, ◌∙◌, ◌∷◌, ◌≡◌, ◌≤◌, [], add-one, ap, append_assoc, arith, Bool, bucket_of, chain_of, drop, eq-eqb, examined, false, find, get_or, in_front, Leaf, leaf_tag, length, List, map, nat_lt, nat_tests, ne_eqb, refl, Some, suc, sym, take, take_more, true, ℕ}
use Rattle.std.proofs.Math.Seq.{drop-cons}

pub drop-at : {A : Type 0} (xs : List A) (i : ℕ) (x : A) → i < length xs → x ≡ get_or xs i x → drop i xs ≡ x ∷ drop (i + 1) xs
drop-at xs i x h e = rw add-one (drop-cons xs i x h ∙ ap (λ y. y ∷ drop (suc i) xs) (sym e))

-- the first that passes a test
pub find-here : {A : Type 0} (p : A → Bool) (xs : List A) (i : ℕ) (x : A) → i < length xs → x ≡ get_or xs i x → p x ≡ true → find p (drop i xs) ≡ Some x
find-here p xs i x h e t = rw (drop-at xs i x h e) (rw t refl)

pub find-past : {A : Type 0} (p : A → Bool) (xs : List A) (i : ℕ) (x : A) → i < length xs → x ≡ get_or xs i x → p x ≡ false → find p (drop (i + 1) xs) ≡ find p (drop i xs)
find-past p xs i x h e t = rw (drop-at xs i x h e) (rw t refl)

-- the place of a new leaf
front-first : (b : ℕ) (leaf x : Leaf) (xs : List Leaf) → bucket_of b (leaf_tag 1 leaf) ≤ bucket_of b (leaf_tag 1 x) → in_front b leaf (x ∷ xs) ≡ leaf ∷ x ∷ xs
unfolding in_front
front-first b leaf x xs h =
    let t : nat_lt (bucket_of b (leaf_tag 1 x)) (bucket_of b (leaf_tag 1 leaf)) ≡ false = grind (arith, nat_tests) in rw t refl

front-later : (b : ℕ) (leaf x : Leaf) (xs : List Leaf) → bucket_of b (leaf_tag 1 x) < bucket_of b (leaf_tag 1 leaf) → in_front b leaf (x ∷ xs) ≡ x ∷ in_front b leaf xs
unfolding in_front
front-later b leaf x xs h =
    let t : nat_lt (bucket_of b (leaf_tag 1 x)) (bucket_of b (leaf_tag 1 leaf)) ≡ true = grind (arith, nat_tests) in rw t refl

pub place-here : (b : ℕ) (leaf x : Leaf) (xs : List Leaf) (i m n : ℕ) → i < length xs → x ≡ get_or xs i x
    → m ≡ bucket_of b (leaf_tag 1 leaf) → n ≡ bucket_of b (leaf_tag 1 x) → m ≤ n
    → take i xs ++ in_front b leaf (drop i xs) ≡ in_front b leaf xs
    → take i xs ++ leaf ∷ drop i xs ≡ in_front b leaf xs
place-here b leaf x xs i m n h e a c le before =
    let le' : bucket_of b (leaf_tag 1 leaf) ≤ bucket_of b (leaf_tag 1 x) = omega arith in
    let d : drop i xs ≡ x ∷ drop (i + 1) xs = drop-at xs i x h e in
    let f : in_front b leaf (drop i xs) ≡ leaf ∷ drop i xs = ap (in_front b leaf) d ∙ front-first b leaf x (drop (i + 1) xs) le' ∙ ap (λ ys. leaf ∷ ys) (sym d) in
    ap (λ ys. take i xs ++ ys) (sym f) ∙ before

pub place-past : (b : ℕ) (leaf x : Leaf) (xs : List Leaf) (i m n : ℕ) → i < length xs → x ≡ get_or xs i x
    → m ≡ bucket_of b (leaf_tag 1 leaf) → n ≡ bucket_of b (leaf_tag 1 x) → n < m
    → take i xs ++ in_front b leaf (drop i xs) ≡ in_front b leaf xs
    → take (i + 1) xs ++ in_front b leaf (drop (i + 1) xs) ≡ in_front b leaf xs
place-past b leaf x xs i m n h e a c lt before =
    let lt' : bucket_of b (leaf_tag 1 x) < bucket_of b (leaf_tag 1 leaf) = omega arith in
    let d : drop i xs ≡ x ∷ drop (i + 1) xs = drop-at xs i x h e in
    let f : in_front b leaf (drop i xs) ≡ x ∷ in_front b leaf (drop (i + 1) xs) = ap (in_front b leaf) d ∙ front-later b leaf x (drop (i + 1) xs) lt' in
    let t : take (i + 1) xs ≡ take i xs ++ x ∷ [] = take_more xs i x h ∙ ap (λ y. take i xs ++ y ∷ []) (sym e) in
    ap (λ ys. ys ++ in_front b leaf (drop (i + 1) xs)) t ∙ append_assoc (take i xs) (x ∷ []) (in_front b leaf (drop (i + 1) xs)) ∙ ap (λ ys. take i xs ++ ys) (sym f) ∙ before

pub front-none : (b : ℕ) (leaf : Leaf) → in_front b leaf [] ≡ leaf ∷ []
unfolding in_front
front-none b leaf = refl

-- the loads of a search
abbrev pub searched : ℕ → ℕ → ℕ → List Leaf → ℕ
searched buckets bucket tag xs = examined tag (chain_of buckets bucket (map (leaf_tag 1) xs))

other-first : (b bucket tag : ℕ) (x : Leaf) (xs : List Leaf) → (bucket_of b (leaf_tag 1 x) ≡ bucket → ⊥)
    → searched b bucket tag (x ∷ xs) ≡ searched b bucket tag xs
unfolding chain_of
other-first b bucket tag x xs e = rw (ne_eqb (bucket_of b (leaf_tag 1 x)) bucket e) refl

found-first : (b bucket tag : ℕ) (x : Leaf) (xs : List Leaf) → bucket_of b (leaf_tag 1 x) ≡ bucket → leaf_tag 1 x ≡ tag
    → searched b bucket tag (x ∷ xs) ≡ 1
unfolding chain_of
found-first b bucket tag x xs e f = rw (eq-eqb (bucket_of b (leaf_tag 1 x)) bucket e) (rw (eq-eqb (leaf_tag 1 x) tag f) refl)

passed-first : (b bucket tag : ℕ) (x : Leaf) (xs : List Leaf) → bucket_of b (leaf_tag 1 x) ≡ bucket → (leaf_tag 1 x ≡ tag → ⊥)
    → searched b bucket tag (x ∷ xs) ≡ suc (searched b bucket tag xs)
unfolding chain_of
passed-first b bucket tag x xs e f = rw (eq-eqb (bucket_of b (leaf_tag 1 x)) bucket e) (rw (ne_eqb (leaf_tag 1 x) tag f) refl)

pub searched-other : (b bucket tag : ℕ) (xs : List Leaf) (i : ℕ) (x : Leaf) (n u : ℕ) → i < length xs → x ≡ get_or xs i x
    → u ≡ leaf_tag 1 x → n ≡ bucket_of b u → (n ≡ bucket → ⊥)
    → searched b bucket tag (drop i xs) ≡ searched b bucket tag (drop (i + 1) xs)
searched-other b bucket tag xs i x n u h e a c d =
    ap (searched b bucket tag) (drop-at xs i x h e) ∙ other-first b bucket tag x (drop (i + 1) xs) (λ f. d (c ∙ ap (bucket_of b) a ∙ f))

pub searched-here : (b bucket tag : ℕ) (xs : List Leaf) (i : ℕ) (x : Leaf) (n u : ℕ) → i < length xs → x ≡ get_or xs i x
    → u ≡ leaf_tag 1 x → n ≡ bucket_of b u → n ≡ bucket → u ≡ tag
    → searched b bucket tag (drop i xs) ≡ 1
searched-here b bucket tag xs i x n u h e a c d f =
    ap (searched b bucket tag) (drop-at xs i x h e) ∙ found-first b bucket tag x (drop (i + 1) xs) (ap (bucket_of b) (sym a) ∙ sym c ∙ d) (sym a ∙ f)

pub searched-more : (b bucket tag : ℕ) (xs : List Leaf) (i : ℕ) (x : Leaf) (n u : ℕ) → i < length xs → x ≡ get_or xs i x
    → u ≡ leaf_tag 1 x → n ≡ bucket_of b u → n ≡ bucket → (u ≡ tag → ⊥)
    → searched b bucket tag (drop i xs) ≡ suc (searched b bucket tag (drop (i + 1) xs))
searched-more b bucket tag xs i x n u h e a c d f =
    ap (searched b bucket tag) (drop-at xs i x h e) ∙ passed-first b bucket tag x (drop (i + 1) xs) (ap (bucket_of b) (sym a) ∙ sym c ∙ d) (λ k. f (a ∙ k))

pub searched-none : (b bucket tag : ℕ) → searched b bucket tag [] ≡ 0
unfolding chain_of
searched-none b bucket tag = refl
