-- The two words of a place, and its leaf.
use Rattle.xl_curve.proofs.Common.{◌%◌, ◌&&◌, ◌*◌, ◌+◌, ◌/◌, ◌<◌, ◌==◌, ◌^◌, ◌∙◌, ◌≡◌, ap, arith, Bool, false, is_leaf, is_vacant, IsFit, IsNamed, Leaf, leaf_in, level_of, nat_tests, Order, order_at, Place, refl, same-tests, same_leaf, same_words, sym, ℕ}
use Rattle.xl_array.proofs.TagLemmas.{low_level}
use Rattle.xl_model.proofs.CodeLemmas.{at-level, frame-back, level-at, perm-back}
use Rattle.xl_model.specs.LeafWords.{perm_code, small_leaf}

-- the parts of a tag
parts : (first space level tag : ℕ) → space < 64 → level < 3 → tag ≡ (first * 64 + space) * 3 + level
    → (tag % 3 ≡ level) × (tag / 3 % 64 ≡ space) × (tag / 3 / 64 ≡ first)
parts first space level tag s l e = (omega arith, omega arith, omega arith)

-- a leaf comes back from its place
pub place_back : (leaf : Leaf) (p : Place) → IsFit leaf → p.tag ≡ (leaf.first * 64 + leaf.space) * 3 + level_of leaf.order
    → p.word ≡ leaf.frame * 16 + perm_code leaf.perm → leaf_in p ≡ leaf
unfolding leaf_in
place_back leaf p fit t w =
    let a = parts leaf.first leaf.space (level_of leaf.order) p.tag fit.space_in (low_level leaf.order) t in
    let low : level_of leaf.order < 3 = low_level leaf.order in
    rw (a.0, a.1, a.2, w, at-level leaf.order, frame-back leaf.frame leaf.perm, perm-back leaf.frame leaf.perm) refl

-- so does a leaf of 4 KiB, with the frame and permission of a word
pub small_back : (space page : ℕ) (p : Place) → space < 64 → p.tag ≡ (page * 64 + space) * 3 → leaf_in p ≡ small_leaf space page p.word
unfolding leaf_in
small_back space page p s t =
    let a = parts page space 0 p.tag s (omega arith) (omega (arith, t)) in
    let f : page / 1 * 1 ≡ page = omega arith in
    rw (a.0, a.1, a.2, f) refl

-- and the place is no hole
pub solid : (leaf : Leaf) (p : Place) → IsFit leaf → p.tag ≡ (leaf.first * 64 + leaf.space) * 3 + level_of leaf.order → is_vacant p ≡ false
solid leaf p fit t =
    let low : level_of leaf.order < 3 = low_level leaf.order in
    let n : p.tag < 18446744073709551615 = omega (arith, fit.page_in, fit.space_in) in
    grind (arith, nat_tests)

-- one number has space, first page and order
pub same_tag : (a b : ℕ) → (b == a) ≡ ((b / 3 % 64 == a / 3 % 64) && ((b / 3 / 64 == a / 3 / 64) && (b % 3 == a % 3)))
same_tag a b = same-tests _ _ (λ t. grind (arith, nat_tests)) (λ t. grind (arith, nat_tests))

-- a tag of these parts isn't a hole's
pub tag_solid : (first space level tag : ℕ) → first < 2 ^ 52 → space < 64 → level < 3 → tag ≡ (first * 64 + space) * 3 + level → (tag == 18446744073709551615) ≡ false
tag_solid first space level tag f s l e = let n : tag < 18446744073709551615 = omega arith in grind (arith, nat_tests)

level_mod : (t : ℕ) → level_of (order_at (t % 3)) ≡ t % 3
level_mod t = level-at (t % 3) (omega arith)

pub same_place : (a b : Place) → (b.tag == a.tag) ≡ is_leaf (leaf_in a).space (leaf_in a).first (leaf_in a).order (leaf_in b)
unfolding leaf_in
same_place a b = rw (level_mod a.tag, level_mod b.tag) (same_tag a.tag b.tag)

pub same_parts : (a b : Place) → same_leaf (leaf_in a) (leaf_in b) ≡ ((b.tag == a.tag) && same_words a.word b.word)
unfolding leaf_in
same_parts a b = ap (λ (t : Bool). t && same_words a.word b.word) (sym (same_place a b))

named_parts : (space first : ℕ) (o : Order) (p : Place) → space < 64 → p.tag ≡ (first * 64 + space) * 3 + level_of o
    → (q : Place) → is_leaf space first o (leaf_in q) ≡ (q.tag == p.tag)
unfolding leaf_in
named_parts space first o p s t q =
    let a = parts first space (level_of o) p.tag s (low_level o) t in
    let at : order_at (p.tag % 3) ≡ o = ap order_at a.0 ∙ at-level o in
    ap (λ (n : ℕ). is_leaf n first o (leaf_in q)) (sym a.1)
    ∙ ap (λ (n : ℕ). is_leaf (p.tag / 3 % 64) n o (leaf_in q)) (sym a.2)
    ∙ ap (λ (w : Order). is_leaf (p.tag / 3 % 64) (p.tag / 3 / 64) w (leaf_in q)) (sym at)
    ∙ sym (same_place p q)

-- a place of a tag has its space, first page and order
pub named_place : (space first : ℕ) (o : Order) (p : Place) → first < 2 ^ 52 → space < 64 → p.tag ≡ (first * 64 + space) * 3 + level_of o → IsNamed space first o p
named_place space first o p f s t = record {
  solid = tag_solid first space (level_of o) p.tag f s (low_level o) t;
  named = named_parts space first o p s t;
}
