use Rattle.xl_array.proofs.Common.{◌%◌, ◌*◌, ◌-◌, ◌^◌, ◌≡◌, ◌≤◌, arith, bit_and, nat_tests, pow-le-pow_right, ℕ}
use Rattle.std.proofs.lemmas.Nat.{and_mask, trailing_le}
use Rattle.std.specs.Int.Count.{count_trailing_zeros}
use Rattle.xl_array.proofs.places.Places.of.Goals as goal

-- where 2^k is the number of sets, one less is its mask
power-mask : (sets k n : ℕ) → k ≤ 32 → 1 * 2 ^ k % 2 ^ 64 ≡ sets → bit_and n (sets - 1) ≡ n % sets
power-mask sets k n few is =
    let small : 2 ^ k ≤ 2 ^ 32 = pow-le-pow_right {n = 2} (omega arith) {i = k} {j = 32} few in
    let power : sets ≡ 2 ^ k = omega (arith, is, small) in
    rw power (and_mask n k)

pub invariant_of-result : goal.invariant_of-result
invariant_of-result c = record {
  is_last = omega arith;
  has_mask = λ t n. power-mask c.args.spec.sets (count_trailing_zeros 32 c.args.spec.sets) n (trailing_le 32 c.args.spec.sets) (grind (arith, nat_tests));
}
