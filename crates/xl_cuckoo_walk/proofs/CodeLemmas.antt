-- Cached sections, as items.
use Rattle.xl_cuckoo_walk.proofs.Common.{◌%◌, ◌*◌, ◌+◌, ◌/◌, ◌<◌, ◌==◌, ◌^◌, ◌∙◌, ◌≡◌, ap, arith, bit_in, Bool, code_of, false, find, find-none, find-passes, find-some, has_tag, hit_of, is_section, Item, List, map, nat_tests, None, one_if, Option, refl, same-tests, section_by, section_in, Some, sym, true, way_by, word_by, word_of_item, ℕ}
use Rattle.xl_model.specs.declared.address.Order.TheVariants as order

pub tag-same : (space block : ℕ) → block < 2 ^ 45 → (i : Item) → has_tag (space * 2 ^ 45 + block) i ≡ is_section space block (section_in i)
tag-same space block h i = same-tests (has_tag (space * 2 ^ 45 + block) i) (is_section space block (section_in i))
    (λ t. let e : i.tag ≡ space * 2 ^ 45 + block = grind (arith, nat_tests) in
    let a : i.tag / 2 ^ 45 ≡ space = omega arith in let b : i.tag % 2 ^ 45 ≡ block = omega arith in grind (arith, nat_tests))
    (λ t. let a : i.tag / 2 ^ 45 ≡ space = grind (arith, nat_tests) in let b : i.tag % 2 ^ 45 ≡ block = grind (arith, nat_tests) in
    let e : i.tag ≡ space * 2 ^ 45 + block = omega arith in grind (arith, nat_tests))

-- what a cache finds under a tag is its section
pub hit-is : (space block : ℕ) → block < 2 ^ 45 → (items : List Item)
    → hit_of (space * 2 ^ 45 + block) (word_of_item (find (has_tag (space * 2 ^ 45 + block)) items)) ≡ find (is_section space block) (map section_in items)
hit-is space block h items = go (find (has_tag (space * 2 ^ 45 + block)) items) refl
  where
    tag : ℕ
    tag = space * 2 ^ 45 + block

    go : (o : Option Item) → find (has_tag tag) items ≡ o → hit_of tag (word_of_item o) ≡ find (is_section space block) (map section_in items)
    go None f = sym (find-none section_in (is_section space block) (has_tag tag) (tag-same space block h) items f)
    go (Some i) f =
        let t : i.tag ≡ tag = (let z = find-passes (has_tag tag) i items f in grind (arith, nat_tests)) in
        ap (λ n. Some (section_by n i.word)) (sym t) ∙ sym (find-some section_in (is_section space block) (has_tag tag) (tag-same space block h) items i f)

-- a word of bits and a way
way-back : (w : Option ℕ) → way_by (code_of w) ≡ w
way-back None = refl
way-back (Some n) = refl

pub record IsWord (word : ℕ) (k m g : Bool) (w : Option ℕ) : Type 0 where
  pub k4 : bit_in word order.K4 ≡ k
  pub m2 : bit_in word order.M2 ≡ m
  pub g1 : bit_in word order.G1 ≡ g
  pub way : way_by (word / 8) ≡ w

low : (n a : ℕ) → n ≡ a → (n == 1) ≡ (a == 1)
low n a e = ap (λ z. z == 1) e

pub word-back : (k m g : Bool) (w : Option ℕ) → IsWord (word_by k m g w) k m g w
word-back k m g w = record {
  k4 = low (word_by k m g w % 2) (one_if k) (first k m g) ∙ one k;
  m2 = low (word_by k m g w / 2 % 2) (one_if m) (second k m g) ∙ one m;
  g1 = low (word_by k m g w / 4 % 2) (one_if g) (third k m g) ∙ one g;
  way = ap way_by (last k m g) ∙ way-back w;
}
  where
    one : (b : Bool) → (one_if b == 1) ≡ b
    one true = refl
    one false = refl

    less : (b : Bool) → one_if b < 2
    less true = omega arith
    less false = omega arith

    first : (a b c : Bool) → (one_if a + (2 * one_if b + (4 * one_if c + 8 * code_of w))) % 2 ≡ one_if a
    first a b c = omega (arith, less a)

    second : (a b c : Bool) → (one_if a + (2 * one_if b + (4 * one_if c + 8 * code_of w))) / 2 % 2 ≡ one_if b
    second a b c = omega (arith, less a, less b)

    third : (a b c : Bool) → (one_if a + (2 * one_if b + (4 * one_if c + 8 * code_of w))) / 4 % 2 ≡ one_if c
    third a b c = omega (arith, less a, less b, less c)

    last : (a b c : Bool) → (one_if a + (2 * one_if b + (4 * one_if c + 8 * code_of w))) / 8 ≡ code_of w
    last a b c = omega (arith, less a, less b, less c)
