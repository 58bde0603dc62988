-- The words of a node that aren't 0.
use Rattle.xl_radix.proofs.Common.{◌*◌, ◌+◌, ◌-◌, ◌<◌, ◌==◌, ◌∙◌, ◌∷◌, ◌≡◌, ◌≢◌, ◌≤◌, ◌⊎◌, [], ap, arith, cases_lt, eqb-false, eqb-true, false, filled, get_or-set_other, get_or-set_same, inl, inr, IsCounted, length, length-set, List, nat_tests, Node, one_if_filled, Option, refl, slice_index, slice_set, subst, suc, sym, true, zero, ℕ}
use Rattle.xl_radix.proofs.CaseLemmas.{split-less}

one-le : (w : ℕ) → one_if_filled w ≤ 1
one-le zero = omega arith
one-le (suc w) = omega arith

one-is : (w : ℕ) → w ≢ 0 → one_if_filled w ≡ 1
one-is zero h = absurd (h refl)
one-is (suc w) h = refl

pub filled-le : (words : List ℕ) (at n : ℕ) → filled words at n ≤ n
unfolding filled
filled-le words at zero = omega arith
filled-le words at (suc n) = let h = filled-le words at n in let g = one-le (slice_index words (at + n)) in omega arith

-- a place outside of a run doesn't count in it
pub filled-other : (words : List ℕ) (at n place w : ℕ) → (place < at) ⊎ (at + n ≤ place) → filled (slice_set words place w) at n ≡ filled words at n
unfolding filled
filled-other words at zero place w h = refl
filled-other words at (suc n) place w h =
    let e = filled-other words at n place w (less h) in
    let f : slice_index (slice_set words place w) (at + n) ≡ slice_index words (at + n) = get_or-set_other words place (at + n) w 0 (differs h) in
    rw (e, f) refl
  where
    less : (place < at) ⊎ (at + suc n ≤ place) → (place < at) ⊎ (at + n ≤ place)
    less (inl a) = inl a
    less (inr a) = inr (omega arith)

    differs : (place < at) ⊎ (at + suc n ≤ place) → at + n ≢ place
    differs (inl a) e = omega arith
    differs (inr a) e = omega arith

-- a word in a run that was 0 counts one more
pub filled-more : (words : List ℕ) (at n i w : ℕ) → i < n → at + i < length words → slice_index words (at + i) ≡ 0 → w ≢ 0 → filled (slice_set words (at + i) w) at n ≡ filled words at n + 1
unfolding filled
filled-more words at zero i w h g e f = absurd (omega arith)
filled-more words at (suc n) i w h g e f =
    elim (split-less i n h) [
      | inl k ↦ last k
      | inr k ↦ before k (filled-more words at n i w k g e f)
    ]
  where
    last : i ≡ n → filled (slice_set words (at + i) w) at n + one_if_filled (slice_index (slice_set words (at + i) w) (at + n)) ≡ filled words at n + one_if_filled (slice_index words (at + n)) + 1
    last k =
        let a = filled-other words at n (at + i) w (inr (omega arith)) in
        let b : slice_index (slice_set words (at + i) w) (at + n) ≡ w = subst (λ (v : ℕ). slice_index (slice_set words (at + i) w) (at + v) ≡ w) k (get_or-set_same words (at + i) w 0 g) in
        let c : slice_index words (at + n) ≡ 0 = subst (λ (v : ℕ). slice_index words (at + v) ≡ 0) k e in
        let d = one-is w f in
        rw (a, b, c, d) (omega arith)

    before : i < n → filled (slice_set words (at + i) w) at n ≡ filled words at n + 1 → filled (slice_set words (at + i) w) at n + one_if_filled (slice_index (slice_set words (at + i) w) (at + n)) ≡ filled words at n + one_if_filled (slice_index words (at + n)) + 1
    before k r =
        let b : slice_index (slice_set words (at + i) w) (at + n) ≡ slice_index words (at + n) = get_or-set_other words (at + i) (at + n) w 0 (λ e. omega arith) in
        rw (r, b) (omega arith)

pub filled-nothing : (words : List ℕ) (at n : ℕ) → ((i : ℕ) → i < n → slice_index words (at + i) ≡ 0) → filled words at n ≡ 0
unfolding filled
filled-nothing words at zero h = refl
filled-nothing words at (suc n) h =
    let a = filled-nothing words at n (λ i g. h i (omega arith)) in
    let b = h n (omega arith) in
    rw (a, b) refl

-- a place in one node is outside another
apart : (m n i size : ℕ) → m ≢ n → size ≡ 512 → i < size → (n * 512 + i < m * 512) ⊎ (m * 512 + size ≤ n * 512 + i)
apart m n i size t big g = elim (cases_lt n m) [ inl a ↦ inl (omega arith) | inr a ↦ inr (omega arith) ]

-- A word is put at an empty place of a node.
pub counted-more : (size n i w : ℕ) (nodes : List (Option Node)) (words used : List ℕ) → size ≡ 512 → IsCounted nodes words used → length words ≡ length nodes * 512 → n < length nodes → i < size → slice_index words (n * 512 + i) ≡ 0 → w ≢ 0 → IsCounted nodes (slice_set words (n * 512 + i) w) (slice_set used n (slice_index used n + 1))
counted-more size n i w nodes words used big c len h g e f = record {
  places = length-set used n (slice_index used n + 1) ∙ c.places;
  each = λ m k. elim (m == n) as (λ t. (m == n) ≡ t → slice_index (slice_set used n (slice_index used n + 1)) m ≡ filled (slice_set words (n * 512 + i) w) (m * 512) 512) [
    | true ↦ λ t. same m (eqb-true m n t) k
    | false ↦ λ t. other m (eqb-false m n t) k
  ] refl;
}
  where
    same : (m : ℕ) → m ≡ n → m < length nodes → slice_index (slice_set used n (slice_index used n + 1)) m ≡ filled (slice_set words (n * 512 + i) w) (m * 512) 512
    same m t k =
        let inside : n * 512 + i < length words = omega (arith, len, big) in
        let a : slice_index (slice_set used n (slice_index used n + 1)) n ≡ slice_index used n + 1 = get_or-set_same used n (slice_index used n + 1) 0 (omega (arith, c.places)) in
        let b = subst (λ (v : ℕ). filled (slice_set words (n * 512 + i) w) (n * 512) v ≡ filled words (n * 512) v + 1) big (filled-more words (n * 512) size i w g inside e f) in
        rw t (a ∙ ap (λ (v : ℕ). v + 1) (c.each n h) ∙ sym b)

    other : (m : ℕ) → m ≢ n → m < length nodes → slice_index (slice_set used n (slice_index used n + 1)) m ≡ filled (slice_set words (n * 512 + i) w) (m * 512) 512
    other m t k =
        let a : slice_index (slice_set used n (slice_index used n + 1)) m ≡ slice_index used m = get_or-set_other used n m (slice_index used n + 1) 0 t in
        let b = subst (λ (v : ℕ). filled (slice_set words (n * 512 + i) w) (m * 512) v ≡ filled words (m * 512) v) big (filled-other words (m * 512) size (n * 512 + i) w (apart m n i size t big g)) in
        a ∙ c.each m k ∙ sym b

set-back : (words : List ℕ) (p w : ℕ) → p < length words → slice_index words p ≡ w → slice_set (slice_set words p 0) p w ≡ words
set-back [] p w h e = absurd (omega arith)
set-back (x ∷ xs) zero w h e = ap (λ (v : ℕ). v ∷ xs) (sym e)
set-back (x ∷ xs) (suc p) w h e = ap (λ (l : List ℕ). x ∷ l) (set-back xs p w (omega arith) e)

-- A word leaves its place in a node.
pub counted-less : (size n i : ℕ) (nodes : List (Option Node)) (words used : List ℕ) → size ≡ 512 → IsCounted nodes words used → length words ≡ length nodes * 512 → n < length nodes → i < size → slice_index words (n * 512 + i) ≢ 0 → IsCounted nodes (slice_set words (n * 512 + i) 0) (slice_set used n (slice_index used n - 1))
counted-less size n i nodes words used big c len h g f = record {
  places = length-set used n (slice_index used n - 1) ∙ c.places;
  each = λ m k. elim (m == n) as (λ t. (m == n) ≡ t → slice_index (slice_set used n (slice_index used n - 1)) m ≡ filled (slice_set words (n * 512 + i) 0) (m * 512) 512) [
    | true ↦ λ t. same m (eqb-true m n t) k
    | false ↦ λ t. other m (eqb-false m n t) k
  ] refl;
}
  where
    inside : n * 512 + i < length words
    inside = omega (arith, len, big)

    less : filled (slice_set words (n * 512 + i) 0) (n * 512) size + 1 ≡ filled words (n * 512) size
    less =
        let e = filled-more (slice_set words (n * 512 + i) 0) (n * 512) size i (slice_index words (n * 512 + i)) g (let z = length-set {A = ℕ} words (n * 512 + i) 0 in omega (arith, z, inside)) (get_or-set_same words (n * 512 + i) 0 0 inside) f in
        sym e ∙ ap (λ (l : List ℕ). filled l (n * 512) size) (set-back words (n * 512 + i) (slice_index words (n * 512 + i)) inside refl)

    same : (m : ℕ) → m ≡ n → m < length nodes → slice_index (slice_set used n (slice_index used n - 1)) m ≡ filled (slice_set words (n * 512 + i) 0) (m * 512) 512
    same m t k =
        let a : slice_index (slice_set used n (slice_index used n - 1)) n ≡ slice_index used n - 1 = get_or-set_same used n (slice_index used n - 1) 0 (omega (arith, c.places)) in
        let b = subst (λ (v : ℕ). filled (slice_set words (n * 512 + i) 0) (n * 512) v + 1 ≡ filled words (n * 512) v) big less in
        let d = c.each n h in
        rw t (a ∙ minus (slice_index used n) (filled words (n * 512) 512) (filled (slice_set words (n * 512 + i) 0) (n * 512) 512) d b)
      where
        minus : (u a b : ℕ) → u ≡ a → b + 1 ≡ a → u - 1 ≡ b
        minus u a b e f = omega arith

    other : (m : ℕ) → m ≢ n → m < length nodes → slice_index (slice_set used n (slice_index used n - 1)) m ≡ filled (slice_set words (n * 512 + i) 0) (m * 512) 512
    other m t k =
        let a : slice_index (slice_set used n (slice_index used n - 1)) m ≡ slice_index used m = get_or-set_other used n m (slice_index used n - 1) 0 t in
        let b = subst (λ (v : ℕ). filled (slice_set words (n * 512 + i) 0) (m * 512) v ≡ filled words (m * 512) v) big (filled-other words (m * 512) size (n * 512 + i) 0 (apart m n i size t big g)) in
        a ∙ c.each m k ∙ sym b

-- a run that counts none has no word but 0
pub filled-zeros : (words : List ℕ) (at n i : ℕ) → filled words at n ≡ 0 → i < n → slice_index words (at + i) ≡ 0
unfolding filled
filled-zeros words at zero i e h = absurd (omega arith)
filled-zeros words at (suc n) i e h =
    elim (split-less i n h) [
      | inl k ↦ subst (λ (v : ℕ). slice_index words (at + v) ≡ 0) (sym k) (one-none (slice_index words (at + n)) (omega arith))
      | inr k ↦ filled-zeros words at n i (omega arith) k
    ]
  where
    one-none : (w : ℕ) → one_if_filled w ≡ 0 → w ≡ 0
    one-none zero e = refl
    one-none (suc w) e = absurd (omega arith)

-- a run that counts some has a word that isn't 0
pub filled-some : (words : List ℕ) (at n : ℕ) → filled words at n ≢ 0 → (i : ℕ) × (i < n) × (slice_index words (at + i) ≢ 0)
unfolding filled
filled-some words at zero h = absurd (h refl)
filled-some words at (suc n) h =
    elim (slice_index words (at + n) == 0) as (λ t. (slice_index words (at + n) == 0) ≡ t → (i : ℕ) × (i < suc n) × (slice_index words (at + i) ≢ 0)) [
      | false ↦ λ e. (n, omega arith, other (slice_index words (at + n)) e)
      | true ↦ λ e. let r = filled-some words at n (λ f. h (rw (f, zero-word (slice_index words (at + n)) e) refl)) in (r.0, omega (arith, r.1), r.2)
    ] refl
  where
    other : (w : ℕ) → (w == 0) ≡ false → w ≢ 0
    other w t = grind (arith, nat_tests)

    zero-word : (w : ℕ) → (w == 0) ≡ true → w ≡ 0
    zero-word w t = grind (arith, nat_tests)
