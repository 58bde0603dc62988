-- How many bounds lie at or below a key, and which area serves it.
use Rattle.xl_areas.proofs.Common.{◌<◌, ◌∷◌, ◌≡◌, ◌≤◌, [], AllWithin, answer_at, ap, Area, AreRising, arith, Bound, cond, count_to, false, length, List, nat_le, nat_tests, Option, refl, slice_index_or, suc, true, zero, ℕ}

-- the bounds from a place on are at or above the ones before
rising-from : (from : ℕ) (bounds : List Bound) (i : ℕ) (d : Bound) → AreRising from bounds → i < length bounds → from ≤ (slice_index_or bounds i d).key
rising-from from [] i d r h = absurd (omega arith)
rising-from from (b ∷ bounds) zero d r h = r.0
rising-from from (b ∷ bounds) (suc i) d r h =
    let below = rising-from b.key bounds i d r.1 (omega arith) in
    let first : from ≤ b.key = r.0 in
    omega arith

pub rising-places : (from : ℕ) (bounds : List Bound) (i j : ℕ) (d : Bound) → AreRising from bounds → i ≤ j → j < length bounds → (slice_index_or bounds i d).key ≤ (slice_index_or bounds j d).key
rising-places from [] i j d r le h = absurd (omega arith)
rising-places from (b ∷ bounds) zero zero d r le h = omega arith
rising-places from (b ∷ bounds) zero (suc j) d r le h = rising-from b.key bounds j d r.1 (omega arith)
rising-places from (b ∷ bounds) (suc i) zero d r le h = absurd (omega arith)
rising-places from (b ∷ bounds) (suc i) (suc j) d r le h = rising-places b.key bounds i j d r.1 (omega arith) (omega arith)

-- the bounds are parted by whether they lie at or below a key
pub parted : (key : ℕ) (bounds : List Bound) (i j : ℕ) (d : Bound) → AreRising 0 bounds → i ≤ j → j < length bounds → nat_le (slice_index_or bounds j d).key key ≡ true
    → nat_le (slice_index_or bounds i d).key key ≡ true
parted key bounds i j d r le h t =
    let up = rising-places 0 bounds i j d r le h in
    grind (arith, nat_tests)

-- where they are parted is how many there are
pub count-is : (key : ℕ) (bounds : List Bound) (n : ℕ) → n ≤ length bounds → AllWithin (λ b. nat_le b.key key ≡ true) bounds 0 n → AllWithin (λ b. nat_le b.key key ≡ false) bounds n (length bounds)
    → n ≡ count_to key bounds
unfolding count_to
count-is key [] n h below above = omega arith
count-is key (b ∷ bounds) zero h below above = let f : nat_le b.key key ≡ false = above 0 b (omega arith) (omega arith) in rw f refl
count-is key (b ∷ bounds) (suc n) h below above =
    let t : nat_le b.key key ≡ true = below 0 b (omega arith) (omega arith) in
    rw t (ap suc (count-is key bounds n (omega arith) (λ k d low high. below (suc k) d (omega arith) (omega arith)) (λ k d low high. above (suc k) d (omega arith) (omega arith))))

pub answer-none : (key : ℕ) (before : Option Area) (bounds : List Bound) → count_to key bounds ≡ 0 → answer_at key before bounds ≡ before
unfolding answer_at count_to
answer-none key before [] e = refl
answer-none key before (b ∷ bounds) e =
    elim (nat_le b.key key) as (λ c. cond c (suc (count_to key bounds)) 0 ≡ 0 → cond c (answer_at key b.area bounds) before ≡ before) [
      | true ↦ λ x. absurd (omega arith)
      | false ↦ λ x. refl
    ] e

pub answer-last : (key n : ℕ) (before : Option Area) (bounds : List Bound) (d : Bound) → count_to key bounds ≡ suc n → answer_at key before bounds ≡ (slice_index_or bounds n d).area
unfolding answer_at count_to
answer-last key n before [] d e = absurd (omega arith)
answer-last key zero before (b ∷ bounds) d e =
    elim (nat_le b.key key) as (λ c. cond c (suc (count_to key bounds)) 0 ≡ 1 → cond c (answer_at key b.area bounds) before ≡ b.area) [
      | true ↦ λ x. answer-none key b.area bounds (omega arith)
      | false ↦ λ x. absurd (omega arith)
    ] e
answer-last key (suc n) before (b ∷ bounds) d e =
    elim (nat_le b.key key) as (λ c. cond c (suc (count_to key bounds)) 0 ≡ suc (suc n) → cond c (answer_at key b.area bounds) before ≡ (slice_index_or bounds n d).area) [
      | true ↦ λ x. answer-last key n b.area bounds d (omega arith)
      | false ↦ λ x. absurd (omega arith)
    ] e
