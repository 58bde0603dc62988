-- What a tag says: one space, block and order, for each number.
use Rattle.xl_array.proofs.Common.{◌%◌, ◌&&◌, ◌*◌, ◌+◌, ◌/◌, ◌<◌, ◌==◌, ◌∙◌, ◌≡◌, ap, arith, covers_anywhere_as, covers_as, has_block, is_leaf, Item, nat_le, nat_lt, refl, sym, ℕ}
use Rattle.xl_list_lemmas.proofs.MemberLemmas.{same-tests}
use Rattle.xl_model.proofs.CodeLemmas.{at-level, level-at}
unfoldable use Rattle.xl_array.specs.Coding.{leaf_of, tag_of}
use Rattle.xl_model.specs.LeafWords.{leaf_with}
use Rattle.xl_model.specs.Addresses.{level_of, order_at, pages_of, same_order}
use Rattle.std.proofs.lemmas.Bool.Decides.{nat_tests}
use Rattle.xl_model.specs.declared.address.Order.{Order}
use Rattle.xl_model.specs.declared.address.Order.TheVariants as order

-- the parts of a tag
parts : (block space level : ℕ) → space < 64 → level < 3 → (t : ℕ) → t ≡ (block * 64 + space) * 3 + level
    → (t % 3 ≡ level) × (t / 3 % 64 ≡ space) × (t / 3 / 64 ≡ block)
parts block space level s l t e = (omega arith, omega arith, omega arith)

whole : (t : ℕ) → t ≡ (t / 3 / 64 * 64 + t / 3 % 64) * 3 + t % 3
whole t = omega arith

core : (block sp space page : ℕ) (x o : Order) → sp < 64 → space < 64
    → ((block * 64 + sp) * 3 + level_of x == (page / pages_of o * 64 + space) * 3 + level_of o)
    ≡ (same_order x o && ((sp == space) && (nat_le (block * pages_of x) page && nat_lt page (block * pages_of x + pages_of x))))
core block sp space page order.K4 order.K4 s l = same-tests _ _ (λ t. grind (arith, nat_tests)) (λ t. grind (arith, nat_tests))
core block sp space page order.K4 order.M2 s l = grind (arith, nat_tests)
core block sp space page order.K4 order.G1 s l = grind (arith, nat_tests)
core block sp space page order.M2 order.K4 s l = grind (arith, nat_tests)
core block sp space page order.M2 order.M2 s l = same-tests _ _ (λ t. grind (arith, nat_tests)) (λ t. grind (arith, nat_tests))
core block sp space page order.M2 order.G1 s l = grind (arith, nat_tests)
core block sp space page order.G1 order.K4 s l = grind (arith, nat_tests)
core block sp space page order.G1 order.M2 s l = grind (arith, nat_tests)
core block sp space page order.G1 order.G1 s l = same-tests _ _ (λ t. grind (arith, nat_tests)) (λ t. grind (arith, nat_tests))

-- a look compares one number
pub same_tag : (i : Item) (space page : ℕ) (o : Order) → space < 64 → (i.tag == tag_of space page o) ≡ covers_as space page o (leaf_of i)
unfolding tag_of leaf_of
same_tag i space page o l =
    let e : i.tag ≡ (i.tag / 3 / 64 * 64 + i.tag / 3 % 64) * 3 + level_of (order_at (i.tag % 3)) = whole i.tag ∙ ap (λ (n : ℕ). (i.tag / 3 / 64 * 64 + i.tag / 3 % 64) * 3 + n) (sym (level-at (i.tag % 3) (omega arith))) in
    ap (λ (n : ℕ). n == (page / pages_of o * 64 + space) * 3 + level_of o) e
    ∙ core (i.tag / 3 / 64) (i.tag / 3 % 64) space page (order_at (i.tag % 3)) o (omega arith) l

pub low_level : (o : Order) → level_of o < 3
low_level order.K4 = omega arith
low_level order.M2 = omega arith
low_level order.G1 = omega arith

-- the leaf of an item that has a tag
pub leaf_tagged : (i : Item) (space page : ℕ) (o : Order) → space < 64 → i.tag ≡ tag_of space page o → leaf_of i ≡ leaf_with space page o i.word
unfolding tag_of leaf_of
leaf_tagged i space page o l e =
    let p = parts (page / pages_of o) space (level_of o) l (low_level o) i.tag e in
    let q : order_at (i.tag % 3) ≡ o = ap order_at p.0 ∙ at-level o in
    rw (q, p.1, p.2) refl

core_leaf : (block sp space first : ℕ) (x o : Order) → sp < 64 → space < 64 → first % pages_of o ≡ 0
    → ((block * 64 + sp) * 3 + level_of x == (first / pages_of o * 64 + space) * 3 + level_of o)
    ≡ ((sp == space) && ((block * pages_of x == first) && same_order x o))
core_leaf block sp space first order.K4 order.K4 s l a = same-tests _ _ (λ t. grind (arith, nat_tests)) (λ t. grind (arith, nat_tests))
core_leaf block sp space first order.K4 order.M2 s l a = same-tests _ _ (λ t. grind (arith, nat_tests)) (λ t. grind (arith, nat_tests))
core_leaf block sp space first order.K4 order.G1 s l a = same-tests _ _ (λ t. grind (arith, nat_tests)) (λ t. grind (arith, nat_tests))
core_leaf block sp space first order.M2 order.K4 s l a = same-tests _ _ (λ t. grind (arith, nat_tests)) (λ t. grind (arith, nat_tests))
core_leaf block sp space first order.M2 order.M2 s l a = same-tests _ _ (λ t. grind (arith, nat_tests)) (λ t. grind (arith, nat_tests))
core_leaf block sp space first order.M2 order.G1 s l a = same-tests _ _ (λ t. grind (arith, nat_tests)) (λ t. grind (arith, nat_tests))
core_leaf block sp space first order.G1 order.K4 s l a = same-tests _ _ (λ t. grind (arith, nat_tests)) (λ t. grind (arith, nat_tests))
core_leaf block sp space first order.G1 order.M2 s l a = same-tests _ _ (λ t. grind (arith, nat_tests)) (λ t. grind (arith, nat_tests))
core_leaf block sp space first order.G1 order.G1 s l a = same-tests _ _ (λ t. grind (arith, nat_tests)) (λ t. grind (arith, nat_tests))

-- a drop of a leaf compares one number
pub same_leaf : (i : Item) (space first : ℕ) (o : Order) → space < 64 → first % pages_of o ≡ 0 → (i.tag == tag_of space first o) ≡ is_leaf space first o (leaf_of i)
unfolding tag_of leaf_of
same_leaf i space first o l a =
    let e : i.tag ≡ (i.tag / 3 / 64 * 64 + i.tag / 3 % 64) * 3 + level_of (order_at (i.tag % 3)) = whole i.tag ∙ ap (λ (n : ℕ). (i.tag / 3 / 64 * 64 + i.tag / 3 % 64) * 3 + n) (sym (level-at (i.tag % 3) (omega arith))) in
    ap (λ (n : ℕ). n == (first / pages_of o * 64 + space) * 3 + level_of o) e
    ∙ core_leaf (i.tag / 3 / 64) (i.tag / 3 % 64) space first (order_at (i.tag % 3)) o (omega arith) l a

pub same_space : (i : Item) (space : ℕ) → (i.tag / 3 % 64 == space) ≡ ((leaf_of i).space == space)
unfolding leaf_of
same_space i space = refl

-- a drop in all spaces compares one number
pub block_tag : (i : Item) (page : ℕ) (o : Order) → (i.tag == tag_of (i.tag / 3 % 64) page o) ≡ has_block (tag_of 0 page o) i
unfolding tag_of
block_tag i page o = same-tests _ _ (λ t. grind (arith, nat_tests)) (λ t. grind (arith, nat_tests))

in_space : (i : Item) (page : ℕ) (o : Order) → covers_as (i.tag / 3 % 64) page o (leaf_of i) ≡ covers_anywhere_as page o (leaf_of i)
unfolding leaf_of
in_space i page o = refl

pub same_block : (i : Item) (page : ℕ) (o : Order) → has_block (tag_of 0 page o) i ≡ covers_anywhere_as page o (leaf_of i)
same_block i page o = sym (block_tag i page o) ∙ same_tag i (i.tag / 3 % 64) page o (omega arith) ∙ in_space i page o
