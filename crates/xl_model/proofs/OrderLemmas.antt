-- Orders that are the same are one.
use Rattle.std.proofs.Common.{◌≡◌, arith, refl, true}
use Rattle.std.proofs.lemmas.Bool.{eq-eqb}
use Rattle.std.proofs.lemmas.Bool.Decides.{nat_tests}
use Rattle.xl_model.specs.Addresses.{level_of, same_order}
use Rattle.xl_model.specs.declared.address.Order.{Order}
use Rattle.xl_model.specs.declared.address.Order.TheVariants as order

-- an order is its level
pub same-level : (a b : Order) → level_of a ≡ level_of b → a ≡ b
same-level order.K4 order.K4 h = refl
same-level order.K4 order.M2 h = absurd (omega arith)
same-level order.K4 order.G1 h = absurd (omega arith)
same-level order.M2 order.K4 h = absurd (omega arith)
same-level order.M2 order.M2 h = refl
same-level order.M2 order.G1 h = absurd (omega arith)
same-level order.G1 order.K4 h = absurd (omega arith)
same-level order.G1 order.M2 h = absurd (omega arith)
same-level order.G1 order.G1 h = refl

pub orders-same : (a b : Order) → same_order a b ≡ true → a ≡ b
orders-same a b h = same-level a b (grind (arith, nat_tests))

pub order-same : (o : Order) → same_order o o ≡ true
order-same o = eq-eqb _ _ refl
