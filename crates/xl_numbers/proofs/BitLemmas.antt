-- One bit of words.
use Rattle.xl_numbers.proofs.Common.{◌%◌, ◌*◌, ◌+◌, ◌/◌, ◌<◌, ◌^◌, ◌∙◌, ◌∷◌, ◌≡◌, [], ap, arith, bit_at, bit_at-trailing_zeros, bit_at-zero, bit_of, cases_eq, get_or-set_other, get_or-set_same, inl, inr, IsFirstBit, IsFirstWord, IsPut, length, length-set, List, slice_index, slice_set, suc, trailing_zeros, w64, zero, ℕ}

-- a word that comes in the place of another, with one bit put
pub put-word : (words : List ℕ) (k w bit : ℕ) → k / 64 < length words → bit_at w (k % 64) ≡ bit
    → ((i : ℕ) → i < 64 → (i ≡ k % 64 → ⊥) → bit_at w i ≡ bit_at (slice_index words (k / 64)) i) → IsPut words (slice_set words (k / 64) w) k bit
put-word words k w bit within here kept = record {
  len = length-set words (k / 64) w;
  here = ap (λ n. bit_at n (k % 64)) (get_or-set_same words (k / 64) w 0 within) ∙ here;
  others = λ j other.
      elim (cases_eq (j / 64) (k / 64)) [
        | inl same ↦ rw (same, get_or-set_same words (k / 64) w 0 within) (kept (j % 64) (omega arith) (λ index. other (omega arith)))
        | inr apart ↦ ap (λ n. bit_at n (j % 64)) (get_or-set_other words (k / 64) (j / 64) w 0 apart)
      ];
  words = λ i apart. get_or-set_other words (k / 64) i w 0 apart;
}

-- a bit of 0
pub bit-none : (words : List ℕ) (k : ℕ) → slice_index words (k / 64) ≡ 0 → bit_of words k ≡ 0
bit-none words k e = ap (λ n. bit_at n (k % 64)) e ∙ bit_at-zero (k % 64)

-- a bit that is set is in a word that isn't 0
pub bit-some : (words : List ℕ) (k : ℕ) → bit_of words k ≡ 1 → 0 < slice_index words (k / 64)
bit-some words k e =
    elim (cases_eq (slice_index words (k / 64)) 0) [
      | inl none ↦ (let z = bit-none words k none in absurd (omega arith))
      | inr some ↦ omega arith
    ]

pub word-within : (words : List ℕ) (i : ℕ) → 0 < slice_index words i → i < length words
word-within [] i h = absurd (omega arith)
word-within (w ∷ ws) zero h = omega arith
word-within (w ∷ ws) (suc i) h = (let l = word-within ws i h in omega arith)

-- the first bit of the first word that isn't 0
pub first-bit : (words : List ℕ) (at : ℕ) → IsFirstWord words at → slice_index words at < 2 ^ 64 → IsFirstBit words (at * 64 + trailing_zeros w64 (slice_index words at))
first-bit words at first fits =
    let t : ℕ = trailing_zeros w64 (slice_index words at) in
    let lowest = bit_at-trailing_zeros w64 (slice_index words at) first.some fits in
    let place : (at * 64 + t) / 64 ≡ at = omega (arith, lowest.0) in
    let index : (at * 64 + t) % 64 ≡ t = omega (arith, lowest.0) in
    let inside = first.within in
    record {
      within = omega (arith, lowest.0);
      set = rw (place, index) lowest.1;
      before = λ j less.
          elim (cases_eq (j / 64) at) [
            | inl same ↦ rw same (lowest.2 (j % 64) (omega arith))
            | inr apart ↦ bit-none words j (first.before (j / 64) (omega (arith, lowest.0)))
          ];
    }
