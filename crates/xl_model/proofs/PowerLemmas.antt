-- The remainder by a power of two.
use Rattle.std.proofs.Common.{◌≡◌, refl, ℕ, zero, suc, ◌-◌, ◌/◌, ◌%◌, ◌≤◌, true, bit_and, count_ones, arith}
use Rattle.std.proofs.lemmas.Bool.Decides.{nat_tests}
use Rattle.std.proofs.lemmas.Nat.{and_mask, ones_le_self, zero_from_ones}
use Rattle.std.specs.Int.{is_power_of_two, IsPowerOfTwo}
use Rattle.std.specs.Int.Count.{ones_step}

-- a number with one bit is a power of two
one-bit : (d n : ℕ) → n ≤ d → count_ones n ≡ 1 → IsPowerOfTwo n
one-bit zero n h e = absurd (omega (arith, ones_le_self n))
one-bit (suc d) n h e = by-lowest (n % 2) refl (λ t. one-bit d (n / 2) (omega (arith, ones_step n)) t)
  where
    by-lowest : (b : ℕ) → n % 2 ≡ b → (count_ones (n / 2) ≡ 1 → IsPowerOfTwo (n / 2)) → IsPowerOfTwo n
    by-lowest zero t half = let power = half (omega (arith, ones_step n)) in (suc power.0, omega (arith, power.1))
    by-lowest (suc b) t half = let none = zero_from_ones (n / 2) (omega (arith, ones_step n)) in (0, omega (arith, none))

-- its remainder is a mask
pub masked : (n c : ℕ) → is_power_of_two c ≡ true → bit_and n (c - 1) ≡ n % c
masked n c e =
    let one : count_ones c ≡ 1 = grind (arith, nat_tests, e) in
    let power = one-bit c c (omega arith) one in
    rw power.1 (and_mask n power.0)
