-- Bits as flags.
use Rattle.xl_numbers.proofs.Common.{◌%◌, ◌*◌, ◌++◌, ◌+◌, ◌-◌, ◌/◌, ◌<◌, ◌==◌, ◌^◌, ◌↔◌, ◌∙◌, ◌∷◌, ◌≡◌, ◌≤◌, ap, AreFree, AreMarked, AreOnes, AreWords, arith, bit_at, bit_at-zero, bit_at_ones, bit_of, Bool, cases_lt, eqb-true, ext_get_or, false, false≢true, flags, get_or-append_right, get_or-replicate, get_or_append_left, HasNone, inl, inr, IsAlike, IsFirstBit, IsLowest, IsPut, IsSet, IsStack, IsTrue, length, length-append, length-replicate, List, nat_lt, nat_tests, refl, replicate, set-get_or, slice_index, slice_index_or, slice_set, suc, sym, true, zero, ℕ}
use Rattle.xl_numbers.proofs.BitLemmas.{bit-none}

pub length-flags : (bit : ℕ → ℕ) (n : ℕ) → length (flags bit n) ≡ n
unfolding flags
length-flags bit zero = refl
length-flags bit (suc n) = ap suc (length-flags (λ k. bit (suc k)) n)

pub flag-at : (bit : ℕ → ℕ) (n k : ℕ) → k < n → slice_index_or (flags bit n) k false ≡ (bit k == 1)
unfolding flags
flag-at bit zero k h = absurd (omega arith)
flag-at bit (suc n) zero h = refl
flag-at bit (suc n) (suc k) h = flag-at (λ j. bit (suc j)) n k (omega arith)

flag-none : (bit : ℕ → ℕ) (n k : ℕ) → bit k ≡ 0 → slice_index_or (flags bit n) k false ≡ false
unfolding flags
flag-none bit zero k e = refl
flag-none bit (suc n) zero e = rw e refl
flag-none bit (suc n) (suc k) e = flag-none (λ j. bit (suc j)) n k e

-- flags with one of them put
flags-put : (old new : ℕ → ℕ) (n k : ℕ) (v : Bool) → k < n → (new k == 1) ≡ v → ((j : ℕ) → (j ≡ k → ⊥) → new j ≡ old j) → flags new n ≡ slice_set (flags old n) k v
unfolding flags
flags-put old new zero k v h here others = absurd (omega arith)
flags-put old new (suc n) zero v h here others =
    ap (λ b. b ∷ flags (λ j. new (suc j)) n) here ∙ ap (λ bs. v ∷ bs) (same n (λ j. old (suc j)) (λ j. new (suc j)) (λ j. others (suc j) (λ e. absurd (omega arith))))
  where
    same : (m : ℕ) (f g : ℕ → ℕ) → ((j : ℕ) → g j ≡ f j) → flags g m ≡ flags f m
    same zero f g e = refl
    same (suc m) f g e = ap (λ x. (x == 1) ∷ flags (λ j. g (suc j)) m) (e 0) ∙ ap (λ bs. (f 0 == 1) ∷ bs) (same m (λ j. f (suc j)) (λ j. g (suc j)) (λ j. e (suc j)))
flags-put old new (suc n) (suc k) v h here others =
    ap (λ x. (x == 1) ∷ flags (λ j. new (suc j)) n) (others 0 (λ e. absurd (omega arith)))
    ∙ ap (λ bs. (old 0 == 1) ∷ bs) (flags-put (λ j. old (suc j)) (λ j. new (suc j)) n k v (omega arith) here (λ j other. others (suc j) (λ e. other (omega arith))))

pub free-put : (old new : List ℕ) (n k bit : ℕ) → k < n → IsPut old new k bit → flags (bit_of new) n ≡ slice_set (flags (bit_of old) n) k (bit == 1)
free-put old new n k bit h p = flags-put (bit_of old) (bit_of new) n k (bit == 1) h (ap (λ b. b == 1) p.here) p.others

pub free-lowest : (words : List ℕ) (n k : ℕ) → k < n → IsFirstBit words k → IsLowest (flags (bit_of words) n) k
free-lowest words n k h first = record {
  within = (let l = length-flags (bit_of words) n in omega arith);
  is_free = flag-at (bit_of words) n k h ∙ ap (λ b. b == 1) first.set;
  least = λ j less. flag-none (bit_of words) n j (first.before j less);
}

pub free-none : (words : List ℕ) (n : ℕ) → ((k : ℕ) → bit_of words k ≡ 0) → HasNone (flags (bit_of words) n)
free-none words n none = λ k. flag-none (bit_of words) n k (none k)

pub flags-none : (bit : ℕ → ℕ) (n : ℕ) → ((k : ℕ) → bit k ≡ 0) → flags bit n ≡ replicate n false
unfolding flags
flags-none bit zero none = refl
flags-none bit (suc n) none = rw (none 0) (ap (λ bs. false ∷ bs) (flags-none (λ k. bit (suc k)) n (λ k. none (suc k))))

-- the first numbers free, and one more
pub more-free : (n k : ℕ) → k < n → slice_set (replicate k true ++ replicate (n - k) false) k true ≡ replicate (k + 1) true ++ replicate (n - (k + 1)) false
more-free zero k h = absurd (omega arith)
more-free (suc n) zero h = let a : suc n - 0 ≡ suc n = omega arith in let b : suc n - (0 + 1) ≡ n = omega arith in let c : 0 + 1 ≡ 1 = omega arith in rw (a, b) refl
more-free (suc n) (suc k) h =
    let a : suc n - suc k ≡ n - k = omega arith in
    let b : suc n - (suc k + 1) ≡ n - (k + 1) = omega arith in
    let c : suc k + 1 ≡ suc (k + 1) = omega arith in
    rw (a, b, c) (ap (λ bs. true ∷ bs) (more-free n k (omega arith)))

-- a set with one number put in or taken out
pub set-put : (count : ℕ) (low middle top low' middle' top' : List ℕ) (n bit : ℕ) → IsSet count low middle top → IsStack low' middle' top' → IsPut low low' n bit → n < count → IsSet count low' middle' top'
set-put count low middle top low' middle' top' n bit s stack p h = record {
  stack = stack;
  room = (let r = s.room in let l = p.len in omega arith);
  past = λ k le. p.others k (λ e. absurd (omega arith)) ∙ s.past k le;
}

-- a first bit is a number below the count
pub first-small : (count : ℕ) (low middle top : List ℕ) (k : ℕ) → IsSet count low middle top → IsFirstBit low k → k < count
first-small count low middle top k s first =
    elim (nat_lt k count) as (λ b. nat_lt k count ≡ b → k < count) [
      | true ↦ λ e. grind (arith, nat_tests)
      | false ↦ λ e. (let le : count ≤ k = grind (arith, nat_tests) in let z = s.past k le in let f = first.set in absurd (omega arith))
    ] refl

-- words that are all 0
pub zero-word : (n i : ℕ) → slice_index (replicate n 0) i ≡ 0
zero-word zero i = refl
zero-word (suc n) zero = refl
zero-word (suc n) (suc i) = zero-word n i

pub zero-bit : (n k : ℕ) → bit_of (replicate n 0) k ≡ 0
zero-bit n k = bit-none (replicate n 0) k (zero-word n (k / 64))

pub none-free : (words : List ℕ) (m n : ℕ) → words ≡ replicate m 0 → flags (bit_of words) n ≡ replicate n false
none-free words m n e = ap (λ ws. flags (bit_of ws) n) e ∙ flags-none (bit_of (replicate m 0)) n (zero-bit m)

-- a number that is no number is not free
pub flag-past : (bit : ℕ → ℕ) (n k : ℕ) → n ≤ k → slice_index_or (flags bit n) k false ≡ false
unfolding flags
flag-past bit zero k h = refl
flag-past bit (suc n) zero h = absurd (omega arith)
flag-past bit (suc n) (suc k) h = flag-past (λ j. bit (suc j)) n k (omega arith)

pub flag-within : (bit : ℕ → ℕ) (n k : ℕ) → slice_index_or (flags bit n) k false ≡ true → k < n
flag-within bit n k e =
    elim (cases_lt k n) [
      | inl less ↦ less
      | inr past ↦ absurd (false≢true (sym (flag-past bit n k past) ∙ e))
    ]

pub flag-set : (bit : ℕ → ℕ) (n k : ℕ) → slice_index_or (flags bit n) k false ≡ true → bit k ≡ 1
flag-set bit n k e = eqb-true (bit k) 1 (sym (flag-at bit n k (flag-within bit n k e)) ∙ e)

-- writing what is there changes nothing
pub set-kept : (xs : List Bool) (k : ℕ) → slice_index_or xs k false ≡ false → slice_set xs k false ≡ xs
set-kept xs k e = ap (λ b. slice_set xs k b) (sym e) ∙ set-get_or xs k false

-- numbers of which words have been written
pub bits-written : (old new : List ℕ) (first count word k : ℕ) → AreWords old new first count word → 64 * first ≤ k → k < 64 * (first + count) → bit_of new k ≡ bit_at word (k % 64)
bits-written old new first count word k a l u = ap (λ w. bit_at w (k % 64)) (a.inside (k / 64) (omega arith) (omega arith))

pub bits-below : (old new : List ℕ) (first count word k : ℕ) → AreWords old new first count word → k < 64 * first → bit_of new k ≡ bit_of old k
bits-below old new first count word k a l = ap (λ w. bit_at w (k % 64)) (a.below (k / 64) (omega arith))

pub bits-above : (old new : List ℕ) (first count word k : ℕ) → AreWords old new first count word → 64 * (first + count) ≤ k → bit_of new k ≡ bit_of old k
bits-above old new first count word k a l = ap (λ w. bit_at w (k % 64)) (a.above (k / 64) (omega arith))

flags-same : (f g : ℕ → ℕ) (n k : ℕ) → f k ≡ g k → slice_index_or (flags f n) k false ≡ slice_index_or (flags g n) k false
flags-same f g n k e =
    elim (cases_lt k n) [
      | inl less ↦ flag-at f n k less ∙ ap (λ b. b == 1) e ∙ sym (flag-at g n k less)
      | inr past ↦ flag-past f n k past ∙ sym (flag-past g n k past)
    ]

pub alike-ones : IsAlike (2 ^ 64 - 1) true
alike-ones = record { each = λ i less. ap (λ b. b == 1) (bit_at_ones 64 i less) }

pub alike-zero : IsAlike 0 false
alike-zero = record { each = λ i less. ap (λ b. b == 1) (bit_at-zero i) }

pub marked-words : (old new : List ℕ) (n first count word : ℕ) (v : Bool) → 64 * (first + count) ≤ n → IsAlike word v → AreWords old new first count word
    → AreMarked (flags (bit_of old) n) (flags (bit_of new) n) (64 * first) (64 * count) v
marked-words old new n first count word v fits alike a = record {
  len = length-flags (bit_of new) n ∙ sym (length-flags (bit_of old) n);
  inside = λ k l u. flag-at (bit_of new) n k (omega arith) ∙ ap (λ b. b == 1) (bits-written old new first count word k a l (omega arith)) ∙ alike.each (k % 64) (omega arith);
  below = λ k l. flags-same (bit_of new) (bit_of old) n k (bits-below old new first count word k a l);
  above = λ k l. flags-same (bit_of new) (bit_of old) n k (bits-above old new first count word k a (omega arith));
}

-- a set of which words have been written
pub set-words : (n : ℕ) (low middle top low' middle' top' : List ℕ) (first count word : ℕ) → IsSet n low middle top → IsStack low' middle' top' → AreWords low low' first count word → 64 * (first + count) ≤ n → IsSet n low' middle' top'
set-words n low middle top low' middle' top' first count word s stack a fits = record {
  stack = stack;
  room = (let r = s.room in let l = a.len in omega arith);
  past = λ k le. bits-above low low' first count word k a (omega arith) ∙ s.past k le;
}

-- flags of words that are all ones
pub free-ones : (words : List ℕ) (n first count : ℕ) → 64 * (first + count) ≤ n → AreOnes words first count → AreFree (flags (bit_of words) n) (64 * first) (64 * count)
free-ones words n first count fits ones = record {
  each = λ k l u. flag-at (bit_of words) n k (omega arith) ∙ ap (λ b. b == 1) (ones.each k l (omega arith));
}

pub ones-free : (words : List ℕ) (n first count : ℕ) → AreFree (flags (bit_of words) n) (64 * first) (64 * count) → AreOnes words first count
ones-free words n first count free = record {
  each = λ k l u. flag-set (bit_of words) n k (free.each k l (omega arith));
}

pub low-ones : (words : List ℕ) (n first count : ℕ) (r : Bool) → 64 * (first + count) ≤ n → IsTrue r ↔ AreOnes words first count
    → IsTrue r ↔ AreFree (flags (bit_of words) n) (64 * first) (64 * count)
low-ones words n first count r fits e = (λ q. free-ones words n first count fits (e.0 q), λ f. e.1 (ones-free words n first count f))

-- the first numbers made free, where none was
pub first-free : (n k : ℕ) (new : List Bool) → k ≤ n → AreMarked (replicate n false) new 0 k true → new ≡ replicate k true ++ replicate (n - k) false
first-free n k new fits m =
    let l = length-replicate n false in
    let x = length-append (replicate k true) (replicate (n - k) false) in
    let y = length-replicate k true in
    let z = length-replicate (n - k) false in
    let e = m.len in
    ext_get_or false new (replicate k true ++ replicate (n - k) false) (omega arith) (λ i less.
    elim (cases_lt i k) [
      | inl low ↦ m.inside i (omega arith) (omega arith) ∙ sym (get_or_append_left (replicate k true) (replicate (n - k) false) false i (omega arith) ∙ get_or-replicate k i true false low)
      | inr high ↦ m.above i (omega arith) ∙ get_or-replicate n i false false (omega arith) ∙ sym (get_or-append_right (replicate k true) (replicate (n - k) false) k i false y high ∙ get_or-replicate (n - k) (i - k) false false (omega arith))
    ])
