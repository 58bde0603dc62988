-- What a section's word says.
use Rattle.xl_sections.proofs.Common.{◌&&◌, ◌*◌, ◌+◌, ◌<◌, ◌==◌, ◌^◌, ◌||◌, ◌∙◌, ◌∷◌, ◌≡◌, [], ap, arith, Bool, cond, false, Leaf, List, nat_tests, not, Order, part, refl, true, unit, word_of, ℕ}
use Rattle.std.specs.List.{list_any}
use Rattle.xl_list_lemmas.specs.Tallies.{tally}
use Rattle.xl_model.specs.Addresses.{same_order}
use Rattle.xl_model.specs.Base.{one_if}
use Rattle.xl_model_lemmas.specs.Sections.{counts_at, of_order}
use Rattle.xl_model.specs.declared.address.Order.TheVariants as order

pub parts-are : (a b c : ℕ) → a < 2 ^ 22 → b < 2 ^ 22 → (part order.K4 (a + (b * 2 ^ 22 + c * 2 ^ 44)) ≡ a) × (part order.M2 (a + (b * 2 ^ 22 + c * 2 ^ 44)) ≡ b) × (part order.G1 (a + (b * 2 ^ 22 + c * 2 ^ 44)) ≡ c)
parts-are a b c h k = (omega arith, omega arith, omega arith)

-- whether a section exists
pub any-is : (size : Order) (key : ℕ) (leaves : List Leaf) → list_any (counts_at size key) leaves ≡ not (word_of size key leaves == 0)
unfolding word_of
any-is size key [] = refl
any-is size key (x ∷ xs) = go (counts_at size key x) x.order (any-is size key xs)
  where
    a : ℕ
    a = tally (of_order size key order.K4) xs

    b : ℕ
    b = tally (of_order size key order.M2) xs

    c : ℕ
    c = tally (of_order size key order.G1) xs

    nonzero : (n : ℕ) → 0 < n → true ≡ not (n == 0)
    nonzero n h = grind (arith, nat_tests)

    go : (t : Bool) (o : Order) → list_any (counts_at size key) xs ≡ not (a + (b * 2 ^ 22 + c * 2 ^ 44) == 0) → (t || list_any (counts_at size key) xs)
        ≡ not ((one_if (t && same_order o order.K4) + a) + ((one_if (t && same_order o order.M2) + b) * 2 ^ 22 + (one_if (t && same_order o order.G1) + c) * 2 ^ 44) == 0)
    go true order.K4 on = nonzero _ (omega arith)
    go true order.M2 on = nonzero _ (omega arith)
    go true order.G1 on = nonzero _ (omega arith)
    go false o on = let e : a + (b * 2 ^ 22 + c * 2 ^ 44) ≡ 0 + a + ((0 + b) * 2 ^ 22 + (0 + c) * 2 ^ 44) = omega arith in on ∙ ap (λ n. not (n == 0)) e

-- one leaf more, wherever it is
pub word-cons : (size : Order) (key : ℕ) (x : Leaf) (xs : List Leaf) → word_of size key (x ∷ xs) ≡ word_of size key xs + cond (counts_at size key x) (unit x.order) 0
unfolding word_of
word-cons size key x xs = go (counts_at size key x) x.order
  where
    a : ℕ
    a = tally (of_order size key order.K4) xs

    b : ℕ
    b = tally (of_order size key order.M2) xs

    c : ℕ
    c = tally (of_order size key order.G1) xs

    go : (t : Bool) (o : Order) →
        (one_if (t && same_order o order.K4) + a) + ((one_if (t && same_order o order.M2) + b) * 2 ^ 22 + (one_if (t && same_order o order.G1) + c) * 2 ^ 44)
        ≡ a + (b * 2 ^ 22 + c * 2 ^ 44) + cond t (unit o) 0
    go true order.K4 = omega arith
    go true order.M2 = omega arith
    go true order.G1 = omega arith
    go false o = omega arith
