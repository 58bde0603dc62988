-- Two leaves that are the same in each part are one.
use Rattle.std.proofs.Common.{◌&&◌, ◌==◌, ◌∙◌, ◌∷◌, ◌≡◌, [], ap, arith, Bool, false, find, List, refl, Some, sym, true, ℕ}
use Rattle.std.proofs.lemmas.Bool.Decides.{nat_tests}
use Rattle.std.specs.Cmp.{first_so, second_so}
use Rattle.xl_model.proofs.OrderLemmas.{order-same, orders-same}
use Rattle.xl_model.proofs.PermLemmas.{perms-same}
use Rattle.xl_model.specs.Addresses.{same_order}
use Rattle.xl_model.specs.Base.{same_bit}
use Rattle.xl_model.specs.Mapping.{is_leaf}
use Rattle.xl_model.specs.Ranges.{same_perm}
use Rattle.xl_model.specs.declared.address.Order.{Order}
use Rattle.xl_model.specs.declared.leaf.Leaf.{Leaf}
use Rattle.xl_model.specs.declared.perm.Perm.{Perm}
use Rattle.xl_curve_model.specs.Curves.{same_leaf}

abbrev leaf_of : ℕ → ℕ → Order → ℕ → Perm → Leaf
leaf_of space first order frame perm = record { space = space; first = first; order = order; frame = frame; perm = perm }

pub leaf_same : (a b : Leaf) → same_leaf a b ≡ true → b ≡ a
leaf_same a b e =
    let l : is_leaf a.space a.first a.order b ≡ true = first_so (is_leaf a.space a.first a.order b) ((b.frame == a.frame) && same_perm a.perm b.perm) e in
    let r : ((b.frame == a.frame) && same_perm a.perm b.perm) ≡ true = second_so (is_leaf a.space a.first a.order b) ((b.frame == a.frame) && same_perm a.perm b.perm) e in
    let l1 : (b.space == a.space) ≡ true = first_so (b.space == a.space) ((b.first == a.first) && same_order b.order a.order) l in
    let l2 : ((b.first == a.first) && same_order b.order a.order) ≡ true = second_so (b.space == a.space) ((b.first == a.first) && same_order b.order a.order) l in
    let l3 : (b.first == a.first) ≡ true = first_so (b.first == a.first) (same_order b.order a.order) l2 in
    let l4 : (b.frame == a.frame) ≡ true = first_so (b.frame == a.frame) (same_perm a.perm b.perm) r in
    let s : b.space ≡ a.space = grind (arith, nat_tests) in
    let f : b.first ≡ a.first = grind (arith, nat_tests) in
    let o : b.order ≡ a.order = orders-same b.order a.order (second_so (b.first == a.first) (same_order b.order a.order) l2) in
    let g : b.frame ≡ a.frame = grind (arith, nat_tests) in
    let p : b.perm ≡ a.perm = sym (perms-same a.perm b.perm (second_so (b.frame == a.frame) (same_perm a.perm b.perm) r)) in
    ap (λ (n : ℕ). leaf_of n b.first b.order b.frame b.perm) s
    ∙ ap (λ (n : ℕ). leaf_of a.space n b.order b.frame b.perm) f
    ∙ ap (λ (k : Order). leaf_of a.space a.first k b.frame b.perm) o
    ∙ ap (λ (n : ℕ). leaf_of a.space a.first a.order n b.perm) g
    ∙ ap (λ (q : Perm). leaf_of a.space a.first a.order a.frame q) p

-- what a search for a leaf finds is the leaf
pub found_same : (leaf : Leaf) (xs : List Leaf) (y : Leaf) → find (same_leaf leaf) xs ≡ Some y → y ≡ leaf
found_same leaf [] y e = absurd (cc)
found_same leaf (x ∷ xs) y e = go (same_leaf leaf x) refl (λ h. found_same leaf xs y h)
  where
    go : (b : Bool) → same_leaf leaf x ≡ b → (find (same_leaf leaf) xs ≡ Some y → y ≡ leaf) → y ≡ leaf
    go true t more = let h : Some x ≡ Some y = rw t at e in let k : x ≡ y = cc in sym k ∙ leaf_same leaf x t
    go false t more = more (rw t at e)

same_bit_self : (b : Bool) → same_bit b b ≡ true
same_bit_self true = refl
same_bit_self false = refl

number_self : (n : ℕ) → (n == n) ≡ true
number_self n = grind (arith, nat_tests)

-- a leaf is the same as itself
pub leaf_self : (a : Leaf) → same_leaf a a ≡ true
leaf_self a =
    rw (
      number_self a.space,
      number_self a.first,
      order-same a.order,
      number_self a.frame,
      same_bit_self a.perm.r,
      same_bit_self a.perm.w,
      same_bit_self a.perm.x,
      same_bit_self a.perm.u,
    ) refl
