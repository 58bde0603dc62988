-- Leaves of one tag overlap. For the tables of chains and the cuckoo row.
use Rattle.xl_model_lemmas.proofs.Common.{◌+◌, ◌<◌, ◌^◌, ◌≡◌, [], arith, IsPlaced, Leaf, meets_block, nat_tests, Order, pages_of, true, ℕ}
use Rattle.xl_model.specs.Chains.{leaf_tag, tag_of}
use Rattle.xl_model.specs.declared.address.Order.TheVariants as order

-- leaves of one tag share a page
pub record Shares (s t f g : ℕ) (o p : Order) : Type 0 where
  pub space : t ≡ s
  pub first : g < f + pages_of o
  pub second : f < g + pages_of p

tag-shares : (o p : Order) (s t f g : ℕ) → s < 64 → t < 64 → f < 2 ^ 45 → g < 2 ^ 45 → tag_of 1 s o f ≡ tag_of 1 t p g → Shares s t f g o p
tag-shares order.K4 order.K4 s t f g a b c d e = record { space = omega arith; first = omega arith; second = omega arith }
tag-shares order.K4 order.M2 s t f g a b c d e = absurd (omega arith)
tag-shares order.K4 order.G1 s t f g a b c d e = absurd (omega arith)
tag-shares order.M2 order.K4 s t f g a b c d e = absurd (omega arith)
tag-shares order.M2 order.M2 s t f g a b c d e = record { space = omega arith; first = omega arith; second = omega arith }
tag-shares order.M2 order.G1 s t f g a b c d e = absurd (omega arith)
tag-shares order.G1 order.K4 s t f g a b c d e = absurd (omega arith)
tag-shares order.G1 order.M2 s t f g a b c d e = absurd (omega arith)
tag-shares order.G1 order.G1 s t f g a b c d e = record { space = omega arith; first = omega arith; second = omega arith }

pub tag-meets : (x y : Leaf) → IsPlaced x → IsPlaced y → leaf_tag 1 x ≡ leaf_tag 1 y → meets_block x.space x.first x.order y ≡ true
tag-meets x y a b e =
    let shares : Shares x.space y.space x.first y.first x.order y.order =
    tag-shares x.order y.order x.space y.space x.first y.first a.space_in b.space_in a.page_in b.page_in e in
    let s : y.space ≡ x.space = shares.space in
    let f : y.first < x.first + pages_of x.order = shares.first in
    let g : x.first < y.first + pages_of y.order = shares.second in
    grind (arith, nat_tests)
