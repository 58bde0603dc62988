-- How two numbers lie.
use Rattle.xl_radix.proofs.Common.{◌<◌, ◌==◌, ◌≡◌, ◌≤◌, ◌⊎◌, arith, false, nat_lt, nat_tests, refl, suc, true, ℕ}

pub split-le : (a b : ℕ) → a ≤ b → (a ≡ b) ⊎ (a < b)
split-le a b h = grind arith

pub split-less : (a b : ℕ) → a < suc b → (a ≡ b) ⊎ (a < b)
split-less a b h = grind arith

pub data Lies (a b : ℕ) : Type 0 where
  Same : a ≡ b → (a == b) ≡ true → Lies a b
  Before : a < b → (a == b) ≡ false → nat_lt a b ≡ true → Lies a b
  After : b < a → (a == b) ≡ false → nat_lt a b ≡ false → Lies a b

pub lies : (a b : ℕ) → Lies a b
lies a b =
    elim (a == b) as (λ t. (a == b) ≡ t → Lies a b) [
      | true ↦ λ e. Same (grind (arith, nat_tests)) e
      | false ↦ λ e. elim (nat_lt a b) as (λ t. nat_lt a b ≡ t → Lies a b) [
        | true ↦ λ f. Before (grind (arith, nat_tests)) e f
        | false ↦ λ f. After (grind (arith, nat_tests)) e f
      ] refl
    ] refl
