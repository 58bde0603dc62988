-- Pages and the blocks in which they lie.
use Rattle.xl_radix.proofs.Common.{◌&&◌, ◌*◌, ◌+◌, ◌/◌, ◌<◌, ◌^◌, ◌≡◌, ◌≤◌, arith, level_of, nat_le, nat_lt, nat_tests, Order, pages_of, suc, true, up, zero, ℕ}
use Rattle.xl_model.specs.declared.address.Order.TheVariants as order

pub up-shift : (l page : ℕ) → l < 5 → page / 2 ^ (9 * l) ≡ up l page
up-shift zero page h = omega arith
up-shift (suc zero) page h = omega arith
up-shift (suc (suc zero)) page h = omega arith
up-shift (suc (suc (suc zero))) page h = omega arith
up-shift (suc (suc (suc (suc zero)))) page h = omega arith
up-shift (suc (suc (suc (suc (suc l))))) page h = absurd (omega arith)

pub up-top : (top page : ℕ) → top ≤ 5 → page < 2 ^ (9 * top) → up top page ≡ 0
up-top zero page h b = omega arith
up-top (suc zero) page h b = omega arith
up-top (suc (suc zero)) page h b = omega arith
up-top (suc (suc (suc zero))) page h b = omega arith
up-top (suc (suc (suc (suc zero)))) page h b = omega arith
up-top (suc (suc (suc (suc (suc zero))))) page h b = omega arith
up-top (suc (suc (suc (suc (suc (suc l)))))) page h b = absurd (omega arith)

pub up-le : (l page : ℕ) → up l page ≤ page
up-le zero page = omega arith
up-le (suc l) page = let h = up-le l page in omega arith

-- The largest tables have pages of 45 bits.
pub limit-low : (top : ℕ) → top ≤ 5 → 2 ^ (9 * top) ≤ 2 ^ 45
limit-low zero h = omega arith
limit-low (suc zero) h = omega arith
limit-low (suc (suc zero)) h = omega arith
limit-low (suc (suc (suc zero))) h = omega arith
limit-low (suc (suc (suc (suc zero)))) h = omega arith
limit-low (suc (suc (suc (suc (suc zero))))) h = omega arith
limit-low (suc (suc (suc (suc (suc (suc l)))))) h = absurd (omega arith)

pub page-low : (top page : ℕ) → top ≤ 5 → page < 2 ^ (9 * top) → page < 2 ^ 45
page-low top page h b = let a : 2 ^ (9 * top) ≤ 2 ^ 45 = limit-low top h in omega arith

pub up-low : (l top page : ℕ) → top ≤ 5 → page < 2 ^ (9 * top) → up l page < 2 ^ 45
up-low l top page h b = let a = up-le l page in let c = page-low top page h b in omega arith

-- A page in a leaf's interval is in its block, and conversely.
pub covers-up : (o : Order) (first page : ℕ) → up (level_of o) first * pages_of o ≡ first → (nat_le first page && nat_lt page (first + pages_of o)) ≡ true → up (level_of o) page ≡ up (level_of o) first
covers-up order.K4 first page a h = grind (arith, nat_tests)
covers-up order.M2 first page a h = grind (arith, nat_tests)
covers-up order.G1 first page a h = grind (arith, nat_tests)

pub up-covers : (o : Order) (first page : ℕ) → up (level_of o) first * pages_of o ≡ first → up (level_of o) page ≡ up (level_of o) first → (nat_le first page && nat_lt page (first + pages_of o)) ≡ true
up-covers order.K4 first page a h = grind (arith, nat_tests)
up-covers order.M2 first page a h = grind (arith, nat_tests)
up-covers order.G1 first page a h = grind (arith, nat_tests)
