-- Cached ranges: each page of a maximal run is covered, and a change takes the ranges of the old leaf.
use Rattle.xl_model_laws.proofs.Common.{◌*◌, ◌+◌, ◌-◌, ◌<◌, ◌∙◌, ◌∷◌, ◌≡◌, ◌≤◌, [], arith, Bool, Cached, Change, changed, cond, covers, false, goes_into, holds_first, holds_page, In, inl, inr, IsMapping, IsSound, joined, Leaf, List, nat_lt, nat_tests, newest-In, None, old_leaf, Option, Order, orders-same, PageCovered, pages_of, purged-In, Range, range_of_leaf, RangeFresh, ranges_of, RangesFresh, refl, Row, Some, stays-changed, subst, sym, touched-In, true, with_range, with_touch, without_items, ℕ}
use Rattle.xl_model.proofs.PermLemmas.{perms-same}
use Rattle.xl_model.specs.declared.address.Order.TheVariants as order

-- what goes into a range is of its kind
pub record Joins (leaf : Leaf) (r : Range) : Type 0 where
  pub space_same : leaf.space ≡ r.space
  pub order_same : leaf.order ≡ r.order
  pub perm_same : leaf.perm ≡ r.perm
  pub pages_next : leaf.first + pages_of leaf.order ≡ r.start
  pub frames_next : leaf.frame + pages_of leaf.order ≡ r.frame

pub joins : (leaf : Leaf) (r : Range) → goes_into leaf r ≡ true → Joins leaf r
joins leaf r h = record {
  space_same = grind (arith, nat_tests);
  order_same = orders-same leaf.order r.order (grind (arith, nat_tests));
  perm_same = perms-same leaf.perm r.perm (grind (arith, nat_tests));
  pages_next = grind (arith, nat_tests);
  frames_next = grind (arith, nat_tests);
}

-- a page of a leaf's own range
own-page : (leaf : Leaf) (leaves : List Leaf) (page : ℕ) → In leaf leaves → holds_page leaf.space page (range_of_leaf leaf) ≡ true → PageCovered leaves (range_of_leaf leaf) page
own-page leaf leaves page i h = record {
  leaf = leaf;
  member = i;
  covers_page = h;
  same_order = refl;
  same_perm = refl;
  same_frame = refl;
}

-- a leaf in front of a range
widened : Leaf → Range → Range
widened leaf r = record (range_of_leaf leaf) { pages = pages_of leaf.order + r.pages }

first-page : (leaf : Leaf) (r : Range) (leaves : List Leaf) (page : ℕ) → In leaf leaves → holds_page leaf.space page (widened leaf r) ≡ true
    → page < leaf.first + pages_of leaf.order → PageCovered leaves (widened leaf r) page
unfolding widened
first-page leaf r leaves page i h below = record {
  leaf = leaf;
  member = i;
  covers_page = grind (arith, nat_tests);
  same_order = refl;
  same_perm = refl;
  same_frame = refl;
}

later-page : (leaf : Leaf) (r : Range) (leaves : List Leaf) (page : ℕ) → Joins leaf r → leaf.first + pages_of leaf.order ≤ page
    → PageCovered leaves r page → PageCovered leaves (widened leaf r) page
unfolding widened
later-page leaf r leaves page j above c = record {
  leaf = c.leaf;
  member = c.member;
  covers_page = let P : ℕ → Type 0 = λ s. covers s page c.leaf ≡ true in subst P (sym j.space_same) c.covers_page;
  same_order = c.same_order ∙ sym j.order_same;
  same_perm = c.same_perm ∙ sym j.perm_same;
  same_frame =
      let a : c.leaf.frame + (page - c.leaf.first) ≡ r.frame + (page - r.start) = c.same_frame in
      let b : leaf.first + pages_of leaf.order ≡ r.start = j.pages_next in
      let d : leaf.frame + pages_of leaf.order ≡ r.frame = j.frames_next in
      omega arith;
}

later-held : (leaf : Leaf) (r : Range) (page : ℕ) → Joins leaf r → holds_page leaf.space page (widened leaf r) ≡ true → leaf.first + pages_of leaf.order ≤ page
    → holds_page r.space page r ≡ true
unfolding widened
later-held leaf r page j h above =
    let a : leaf.space ≡ r.space = j.space_same in
    let b : leaf.first + pages_of leaf.order ≡ r.start = j.pages_next in
    grind (arith, nat_tests)

widened-fresh : (leaf : Leaf) (r : Range) (leaves : List Leaf) → In leaf leaves → ((e : ℕ) × (leaf.first ≡ e * pages_of leaf.order)) → Joins leaf r → RangeFresh leaves r → RangeFresh leaves (widened leaf r)
unfolding widened
widened-fresh leaf r leaves i aligned j fresh = record {
  aligned = aligned;
  covered = λ page h.
      elim (nat_lt page (leaf.first + pages_of leaf.order)) as (λ b. nat_lt page (leaf.first + pages_of leaf.order) ≡ b → PageCovered leaves (widened leaf r) page) [
        | true ↦ λ t. first-page leaf r leaves page i h (grind (arith, nat_tests))
        | false ↦ λ t.
            let above : leaf.first + pages_of leaf.order ≤ page = grind (arith, nat_tests) in
            later-page leaf r leaves page j above (fresh.covered page (later-held leaf r page j h above))
      ] refl;
}

own-fresh : (leaf : Leaf) (leaves : List Leaf) → In leaf leaves → ((e : ℕ) × (leaf.first ≡ e * pages_of leaf.order)) → RangeFresh leaves (range_of_leaf leaf)
own-fresh leaf leaves i aligned = record { aligned = aligned; covered = λ page h. own-page leaf leaves page i h }

joined-fresh : (leaf : Leaf) (rs : List Range) (leaves : List Leaf) → In leaf leaves → ((e : ℕ) × (leaf.first ≡ e * pages_of leaf.order))
    → ((r : Range) → In r rs → RangeFresh leaves r) → (r : Range) → In r (joined leaf rs) → RangeFresh leaves r
unfolding widened
joined-fresh leaf [] leaves i aligned fresh r (inl e) = let P : Range → Type 0 = λ z. RangeFresh leaves z in subst P (sym e) (own-fresh leaf leaves i aligned)
joined-fresh leaf [] leaves i aligned fresh r (inr j) = absurd j
joined-fresh leaf (x ∷ xs) leaves i aligned fresh r j =
    elim (goes_into leaf x) as (λ b. goes_into leaf x ≡ b → In r (cond b (widened leaf x ∷ xs) (range_of_leaf leaf ∷ x ∷ xs)) → RangeFresh leaves r) [
      | true ↦ λ t k. elim k [
        | inl e ↦ let P : Range → Type 0 = λ z. RangeFresh leaves z in subst P (sym e) (widened-fresh leaf x leaves i aligned (joins leaf x t) (fresh x (inl refl)))
        | inr m ↦ fresh r (inr m)
      ]
      | false ↦ λ t k. elim k [
        | inl e ↦ let P : Range → Type 0 = λ z. RangeFresh leaves z in subst P (sym e) (own-fresh leaf leaves i aligned)
        | inr m ↦ fresh r m
      ]
    ] refl j

pub ranges-fresh : (part leaves : List Leaf) → ((x : Leaf) → In x part → In x leaves × ((e : ℕ) × (x.first ≡ e * pages_of x.order)))
    → (r : Range) → In r (ranges_of part) → RangeFresh leaves r
unfolding ranges_of
ranges-fresh [] leaves known r i = absurd i
ranges-fresh (x ∷ xs) leaves known r i =
    joined-fresh x (ranges_of xs) leaves (known x (inl refl)).0 (known x (inl refl)).1
    (λ y j. ranges-fresh xs leaves (λ z k. known z (inr k)) y j) r i

-- a walk
pub range-filled : (leaves : List Leaf) (found : Option Range) (c : Cached Range) → ((r : Range) → found ≡ Some r → RangeFresh leaves r) → RangesFresh leaves c → RangesFresh leaves (with_range found c)
range-filled leaves None c known fresh r i = fresh r i
range-filled leaves (Some new) c known fresh r i =
    elim (newest-In c.width r new c.items i) [
      | inl e ↦ let P : Range → Type 0 = λ z. RangeFresh leaves z in subst P (sym e) (known new refl)
      | inr j ↦ fresh r j
    ]

pub range-touched : (p : Range → Bool) (leaves : List Leaf) (c : Cached Range) → RangesFresh leaves c → RangesFresh leaves (with_touch p c)
range-touched p leaves c fresh r i = fresh r (touched-In p r c.items i)

pub range-fenced : (p : Range → Bool) (leaves : List Leaf) (c : Cached Range) → RangesFresh leaves c → RangesFresh leaves (without_items p c)
range-fenced p leaves c fresh r i = fresh r (purged-In p r c.items i).0

-- a range that has a page of a leaf has its first page
has-first : (o : Order) (e f first start page : ℕ) → first ≡ e * pages_of o → start ≡ f * pages_of o → start ≤ page → page < first + pages_of o → start ≤ first
has-first order.K4 e f first start page a b c d = omega arith
has-first order.M2 e f first start page a b c d = omega arith
has-first order.G1 e f first start page a b c d = omega arith

holds-old : (old : Leaf) (r : Range) (page : ℕ) → ((e : ℕ) × (old.first ≡ e * pages_of old.order)) → ((e : ℕ) × (r.start ≡ e * pages_of r.order)) → old.order ≡ r.order
    → covers r.space page old ≡ true → holds_page r.space page r ≡ true → holds_page old.space old.first r ≡ true
holds-old old r page (e, a) (f, b) same c h =
    let start_at : r.start ≡ f * pages_of old.order = subst (λ (o : Order). r.start ≡ f * pages_of o) (sym same) b in
    let low : r.start ≤ page = grind (arith, nat_tests) in
    let high : page < old.first + pages_of old.order = grind (arith, nat_tests) in
    let first : r.start ≤ old.first = has-first old.order e f old.first r.start page a start_at low high in
    grind (arith, nat_tests)

range-stays : (row : Row) (c : Change) (leaves : List Leaf) (r : Range) → IsMapping row leaves → IsSound row leaves c → RangeFresh leaves r
    → holds_first (old_leaf c leaves) r ≡ false → RangeFresh (changed c leaves) r
range-stays row c leaves r m s fresh out = record {
  aligned = fresh.aligned;
  covered = λ page h.
      let p : PageCovered leaves r page = fresh.covered page h in
      record {
        leaf = p.leaf;
        member = stays-changed row leaves c p.leaf m s p.member (λ y is same.
            let yes_holds : holds_page p.leaf.space p.leaf.first r ≡ true =
            holds-old p.leaf r page (m.valid p.leaf p.member).pages_aligned fresh.aligned p.same_order p.covers_page h in
            let of_y : holds_page y.space y.first r ≡ true = subst (λ (z : Leaf). holds_page z.space z.first r ≡ true) same yes_holds in
            let not_y : holds_page y.space y.first r ≡ false = subst (λ (o : Option Leaf). holds_first o r ≡ false) is out in
            let k : false ≡ true = sym not_y ∙ of_y in
            absurd (cc));
        covers_page = p.covers_page;
        same_order = p.same_order;
        same_perm = p.same_perm;
        same_frame = p.same_frame;
      };
}

pub range-after : (row : Row) (c : Change) (leaves : List Leaf) (k : Cached Range) → IsMapping row leaves → IsSound row leaves c → RangesFresh leaves k
    → RangesFresh (changed c leaves) (without_items (holds_first (old_leaf c leaves)) k)
range-after row c leaves k m s fresh r i =
    let here = purged-In (holds_first (old_leaf c leaves)) r k.items i in
    range-stays row c leaves r m s (fresh r here.0) here.1
