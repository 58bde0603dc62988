-- Places of leaves: a leaf's slot under its tag is that of each page that it covers, and of no other leaf's.
use Rattle.xl_tagged.proofs.Common.{◌%◌, ◌*◌, ◌+◌, ◌/◌, ◌<◌, ◌^◌, ◌∙◌, ◌≡◌, ◌≤◌, ap, arith, covers, Form, group_of, IsAligned, IsAt, Leaf, leaf_key, leaf_tag, level-low, level_of, nat_tests, One, Order, pages_of, same-level, Sixteen, slot_of, sym, tag_of, true, ℕ}
use Rattle.xl_model_lemmas.proofs.SectionLemmas.{small-block}
use Rattle.xl_model.specs.declared.address.Order.TheVariants as order

-- a number in its group
pub group-low : (f : Form) (n : ℕ) → n < 2 ^ 45 → n / group_of f < 2 ^ 45
group-low One n h = omega arith
group-low Sixteen n h = omega arith

pub slot-low : (f : Form) (n : ℕ) → n % group_of f < group_of f
slot-low One n = omega arith
slot-low Sixteen n = omega arith

pub group-back : (f : Form) (n : ℕ) → n / group_of f * group_of f + n % group_of f ≡ n
group-back One n = omega arith
group-back Sixteen n = omega arith

group-same : (f : Form) (m n : ℕ) → m / group_of f ≡ n / group_of f → m % group_of f ≡ n % group_of f → m ≡ n
group-same f m n a b =
    sym (group-back f m) ∙ ap (λ (q : ℕ). q * group_of f + m % group_of f) a ∙ ap (λ (r : ℕ). n / group_of f * group_of f + r) b ∙ group-back f n

pub number-back : (o : Order) (first e : ℕ) → first ≡ e * pages_of o → first / pages_of o * pages_of o ≡ first
number-back order.K4 first e h = omega arith
number-back order.M2 first e h = omega arith
number-back order.G1 first e h = omega arith

number-same : (o : Order) (first page e : ℕ) → first ≡ e * pages_of o → first ≤ page → page < first + pages_of o → first / pages_of o ≡ page / pages_of o
number-same order.K4 first page e h a b = omega arith
number-same order.M2 first page e h a b = omega arith
number-same order.G1 first page e h a b = omega arith

number-covers : (o : Order) (first page e : ℕ) → first ≡ e * pages_of o → first / pages_of o ≡ page / pages_of o → (first ≤ page) × (page < first + pages_of o)
number-covers order.K4 first page e h a = (omega arith, omega arith)
number-covers order.M2 first page e h a = (omega arith, omega arith)
number-covers order.G1 first page e h a = (omega arith, omega arith)

-- a tag has its order, its space and its number
record IsSameTag (o p : Order) (s t m n : ℕ) : Type 0 where
  order_same : o ≡ p
  space_same : s ≡ t
  number_same : m ≡ n

tag-split : (o p : Order) (s t m n : ℕ) → s < 64 → t < 64 → m < 2 ^ 45 → n < 2 ^ 45 → level_of o * 2 ^ 60 + (s * 2 ^ 45 + m) ≡ level_of p * 2 ^ 60 + (t * 2 ^ 45 + n) → IsSameTag o p s t m n
tag-split o p s t m n a b c d e =
    let k : level_of o ≤ 2 = level-low o in
    let l : level_of p ≤ 2 = level-low p in
    let same : level_of o ≡ level_of p = omega arith in
    record { order_same = same-level o p same; space_same = omega arith; number_same = omega arith }

-- the place of each page that a leaf covers is the leaf's
pub covered-number : (s page : ℕ) (x : Leaf) → IsAligned x → covers s page x ≡ true → x.first / pages_of x.order ≡ page / pages_of x.order
covered-number s page x a c =
    let q : x.first ≤ page = grind (arith, nat_tests) in
    let r : page < x.first + pages_of x.order = grind (arith, nat_tests) in
    number-same x.order x.first page a.aligned.0 a.aligned.1 q r

pub covers-at : (f : Form) (s page : ℕ) (x : Leaf) → IsAligned x → covers s page x ≡ true → IsAt f (tag_of (group_of f) s x.order page) (slot_of f x.order page) x
covers-at f s page x a c =
    let p : x.space ≡ s = grind (arith, nat_tests) in
    let n : x.first / pages_of x.order ≡ page / pages_of x.order = covered-number s page x a c in
    record {
      tag_is = ap (λ (k : ℕ). level_of x.order * 2 ^ 60 + (x.space * 2 ^ 45 + k / group_of f)) n
          ∙ ap (λ (z : ℕ). level_of x.order * 2 ^ 60 + (z * 2 ^ 45 + page / pages_of x.order / group_of f)) p;
      slot_is = ap (λ (k : ℕ). k % group_of f) n;
    }

-- a leaf at the place of a page covers it
pub at-covers : (f : Form) (s page : ℕ) (o : Order) (x : Leaf) → s < 64 → page < 2 ^ 45 → IsAligned x → IsAt f (tag_of (group_of f) s o page) (slot_of f o page) x
    → (covers s page x ≡ true) × (x.order ≡ o)
at-covers f s page o x a b e at =
    let t : IsSameTag x.order o x.space s (x.first / pages_of x.order / group_of f) (page / pages_of o / group_of f) =
    tag-split x.order o x.space s (x.first / pages_of x.order / group_of f) (page / pages_of o / group_of f) e.placed.space_in a
    (group-low f (x.first / pages_of x.order) (small-block x.order x.first e.placed.page_in)) (group-low f (page / pages_of o) (small-block o page b)) at.tag_is in
    let n : x.first / pages_of x.order ≡ page / pages_of o = group-same f (x.first / pages_of x.order) (page / pages_of o) t.number_same at.slot_is in
    let m : x.first / pages_of x.order ≡ page / pages_of x.order = n ∙ ap (λ q. page / pages_of q) (sym t.order_same) in
    let r = number-covers x.order x.first page e.aligned.0 e.aligned.1 m in
    let p : x.space ≡ s = t.space_same in
    let u : x.first ≤ page = r.0 in
    let v : page < x.first + pages_of x.order = r.1 in
    (grind (arith, nat_tests), t.order_same)

-- leaves at one place begin at one page
pub record IsSamePlace (x y : Leaf) : Type 0 where
  pub space_same : x.space ≡ y.space
  pub order_same : x.order ≡ y.order
  pub first_same : x.first ≡ y.first

pub at-one : (f : Form) (tag i : ℕ) (x y : Leaf) → IsAligned x → IsAligned y → IsAt f tag i x → IsAt f tag i y → IsSamePlace x y
at-one f tag i x y a b p q =
    let g : IsAt f (tag_of (group_of f) y.space y.order y.first) (slot_of f y.order y.first) x = record { tag_is = p.tag_is ∙ sym q.tag_is; slot_is = p.slot_is ∙ sym q.slot_is } in
    let h : IsAt f (tag_of (group_of f) x.space x.order x.first) (slot_of f x.order x.first) y = record { tag_is = q.tag_is ∙ sym p.tag_is; slot_is = q.slot_is ∙ sym p.slot_is } in
    let c = at-covers f y.space y.first y.order x b.placed.space_in b.placed.page_in a g in
    let d = at-covers f x.space x.first x.order y a.placed.space_in a.placed.page_in b h in
    let s : covers y.space y.first x ≡ true = c.0 in
    let t : covers x.space x.first y ≡ true = d.0 in
    record { space_same = grind (arith, nat_tests); order_same = c.1; first_same = meet x.first y.first (grind (arith, nat_tests)) (grind (arith, nat_tests)) }
  where
    meet : (m n : ℕ) → m ≤ n → n ≤ m → m ≡ n
    meet m n h k = omega arith

pub place-key : (x y : Leaf) → IsSamePlace x y → leaf_key x ≡ leaf_key y
place-key x y p = ap (λ (s : ℕ). s * 2 ^ 52 + x.first) p.space_same ∙ ap (λ (n : ℕ). y.space * 2 ^ 52 + n) p.first_same

-- the parts of a leaf's tag
pub record HasParts (tag space n level : ℕ) : Type 0 where
  pub level_is : tag / 2 ^ 60 ≡ level
  pub space_is : tag / 2 ^ 45 % 2 ^ 15 ≡ space
  pub number_is : tag % 2 ^ 45 ≡ n

pub tag-parts : (f : Form) (tag : ℕ) (x : Leaf) → IsAligned x → leaf_tag (group_of f) x ≡ tag → HasParts tag x.space (x.first / pages_of x.order / group_of f) (level_of x.order)
tag-parts f tag x a t = go (x.first / pages_of x.order / group_of f) (group-low f (x.first / pages_of x.order) (small-block x.order x.first a.placed.page_in)) t
  where
    go : (m : ℕ) → m < 2 ^ 45 → level_of x.order * 2 ^ 60 + (x.space * 2 ^ 45 + m) ≡ tag → HasParts tag x.space m (level_of x.order)
    go m b e =
        let s : x.space < 64 = a.placed.space_in in
        let l : level_of x.order ≤ 2 = level-low x.order in
        record { level_is = omega arith; space_is = omega arith; number_is = omega arith }
