-- What walks and looks find: the leaf of a page, the loads of its search, and whether a block
-- overlaps a leaf.
use Rattle.xl_tagged.proofs.Common.{◌&&◌, ◌*◌, ◌+◌, ◌/◌, ◌<◌, ◌==◌, ◌^◌, ◌||◌, ◌∙◌, ◌≡◌, ◌≤◌, any-each, any-find, any-or, ap, AreHeld, arith, Bool, chain_reads, chains_reads, cond, counts_at, covers, covers-meets, false, find, find-In, find-only, find-passes, first_found, Form, found_from, found_in, group_of, In, In-any, inl, inr, is_smaller, is_some, IsAligned, IsAt, Leaf, leaf_at_page, leaf_read, leaf_tag, leaf_word, level_of, List, list_any, loads_by, MadeWordsReadBack, meets_any, meets_block, nat_tests, None, none-any, not, of_order, Option, or_leaf, Order, order-same, orders-same, orders_tried, pages-some, pages_of, refl, same-tests, same_order, slot_of, smaller_word, Some, subst, sym, tag_of, tally, tally-any, true, word_at, ℕ}
use Rattle.xl_model_lemmas.proofs.SearchLemmas.{only, only-first}
use Rattle.xl_tagged.proofs.PlaceLemmas.{at-covers, covered-number, covers-at, slot-low}
use Rattle.xl_tagged.proofs.SlotLemmas.{leaf-some, none-read, read-leaf}
use Rattle.xl_model.specs.declared.address.Order.TheVariants as order

-- a 1 GiB block overlaps what lies in its section
pub meets-g1 : (space first e : ℕ) (x : Leaf) → space < 64 → first < 2 ^ 45 → first ≡ e * 262144 → IsAligned x → meets_block space first order.G1 x ≡ counts_at order.G1 (space * 2 ^ 45 + first / 262144) x
meets-g1 space first e x a b c s = go x.order s.aligned.0 s.aligned.1
  where
    xs : x.space < 64
    xs = s.placed.space_in

    xf : x.first < 2 ^ 45
    xf = s.placed.page_in

    go : (o : Order) (k : ℕ) → x.first ≡ k * pages_of o → meets_block space first order.G1 (record x { order = o }) ≡ counts_at order.G1 (space * 2 ^ 45 + first / 262144) (record x { order = o })
    go order.K4 k q = same-tests _ _ (λ t. let u : x.space ≡ space = grind (arith, nat_tests) in let v : x.first < first + 262144 = grind (arith, nat_tests) in let w : first < x.first + 1 = grind (arith, nat_tests) in
        let z : x.space * 2 ^ 45 + x.first / 262144 ≡ space * 2 ^ 45 + first / 262144 = omega arith in grind (arith, nat_tests))
        (λ t. let z : x.space * 2 ^ 45 + x.first / 262144 ≡ space * 2 ^ 45 + first / 262144 = grind (arith, nat_tests) in
        let u : x.space ≡ space = omega arith in let v : x.first < first + 262144 = omega arith in let w : first < x.first + 1 = omega arith in grind (arith, nat_tests))
    go order.M2 k q = same-tests _ _ (λ t. let u : x.space ≡ space = grind (arith, nat_tests) in let v : x.first < first + 262144 = grind (arith, nat_tests) in let w : first < x.first + 512 = grind (arith, nat_tests) in
        let z : x.space * 2 ^ 45 + x.first / 262144 ≡ space * 2 ^ 45 + first / 262144 = omega arith in grind (arith, nat_tests))
        (λ t. let z : x.space * 2 ^ 45 + x.first / 262144 ≡ space * 2 ^ 45 + first / 262144 = grind (arith, nat_tests) in
        let u : x.space ≡ space = omega arith in let v : x.first < first + 262144 = omega arith in let w : first < x.first + 512 = omega arith in grind (arith, nat_tests))
    go order.G1 k q = same-tests _ _ (λ t. let u : x.space ≡ space = grind (arith, nat_tests) in let v : x.first < first + 262144 = grind (arith, nat_tests) in let w : first < x.first + 262144 = grind (arith, nat_tests) in
        let z : x.space * 2 ^ 45 + x.first / 262144 ≡ space * 2 ^ 45 + first / 262144 = omega arith in grind (arith, nat_tests))
        (λ t. let z : x.space * 2 ^ 45 + x.first / 262144 ≡ space * 2 ^ 45 + first / 262144 = grind (arith, nat_tests) in
        let u : x.space ≡ space = omega arith in let v : x.first < first + 262144 = omega arith in let w : first < x.first + 262144 = omega arith in grind (arith, nat_tests))

-- a 2 MiB block overlaps what lies in its section, and the 1 GiB leaf of its 1 GiB section
pub meets-m2 : (space first e : ℕ) (x : Leaf) → space < 64 → first < 2 ^ 45 → first ≡ e * 512 → IsAligned x
    → meets_block space first order.M2 x ≡ (counts_at order.M2 (space * 2 ^ 45 + first / 512) x || of_order order.G1 (space * 2 ^ 45 + first / 262144) order.G1 x)
meets-m2 space first e x a b c s = go x.order s.aligned.0 s.aligned.1
  where
    xs : x.space < 64
    xs = s.placed.space_in

    xf : x.first < 2 ^ 45
    xf = s.placed.page_in

    go : (o : Order) (k : ℕ) → x.first ≡ k * pages_of o
        → meets_block space first order.M2 (record x { order = o }) ≡ (counts_at order.M2 (space * 2 ^ 45 + first / 512) (record x { order = o }) || of_order order.G1 (space * 2 ^ 45 + first / 262144) order.G1 (record x { order = o }))
    go order.K4 k q = same-tests _ _ (λ t. let u : x.space ≡ space = grind (arith, nat_tests) in let v : x.first < first + 512 = grind (arith, nat_tests) in let w : first < x.first + 1 = grind (arith, nat_tests) in
        let z : x.space * 2 ^ 45 + x.first / 512 ≡ space * 2 ^ 45 + first / 512 = omega arith in grind (arith, nat_tests))
        (λ t. let z : x.space * 2 ^ 45 + x.first / 512 ≡ space * 2 ^ 45 + first / 512 = grind (arith, nat_tests) in
        let u : x.space ≡ space = omega arith in let v : x.first < first + 512 = omega arith in let w : first < x.first + 1 = omega arith in grind (arith, nat_tests))
    go order.M2 k q = same-tests _ _ (λ t. let u : x.space ≡ space = grind (arith, nat_tests) in let v : x.first < first + 512 = grind (arith, nat_tests) in let w : first < x.first + 512 = grind (arith, nat_tests) in
        let z : x.space * 2 ^ 45 + x.first / 512 ≡ space * 2 ^ 45 + first / 512 = omega arith in grind (arith, nat_tests))
        (λ t. let z : x.space * 2 ^ 45 + x.first / 512 ≡ space * 2 ^ 45 + first / 512 = grind (arith, nat_tests) in
        let u : x.space ≡ space = omega arith in let v : x.first < first + 512 = omega arith in let w : first < x.first + 512 = omega arith in grind (arith, nat_tests))
    go order.G1 k q = same-tests _ _ (λ t. let u : x.space ≡ space = grind (arith, nat_tests) in let v : x.first < first + 512 = grind (arith, nat_tests) in let w : first < x.first + 262144 = grind (arith, nat_tests) in
        let z : x.space * 2 ^ 45 + x.first / 262144 ≡ space * 2 ^ 45 + first / 262144 = omega arith in grind (arith, nat_tests))
        (λ t. let z : x.space * 2 ^ 45 + x.first / 262144 ≡ space * 2 ^ 45 + first / 262144 = grind (arith, nat_tests) in
        let u : x.space ≡ space = omega arith in let v : x.first < first + 512 = omega arith in let w : first < x.first + 262144 = omega arith in grind (arith, nat_tests))

module _ (back : MadeWordsReadBack) (f : Form) (s page : ℕ) (values : ℕ → List ℕ) (tags : List ℕ) (leaves : List Leaf) (space_in : s < 64) (page_in : page < 2 ^ 45)
    (h : AreHeld f values tags leaves) where
  word-of : (o : Order) (x : Leaf) → In x leaves → IsAt f (tag_of (group_of f) s o page) (slot_of f o page) x
      → word_at f values (tag_of (group_of f) s o page) (slot_of f o page) ≡ leaf_word x.frame x.perm
  word-of o x i at = ap (λ t. word_at f values t (slot_of f o page)) (sym at.tag_is) ∙ ap (word_at f values (leaf_tag (group_of f) x)) (sym at.slot_is) ∙ h.word x i

  found-leaf : (o : Order) (x : Leaf) → In x leaves → IsAt f (tag_of (group_of f) s o page) (slot_of f o page) x → found_in f s page values o ≡ only o (find (covers s page) leaves)
  found-leaf o x i at =
      let c = at-covers f s page o x space_in page_in (h.fit x i).aligned at in
      let covering : covers s page x ≡ true = c.0 in
      let same : x.space ≡ s = grind (arith, nat_tests) in
      let n : x.first / pages_of x.order ≡ page / pages_of x.order = covered-number s page x (h.fit x i).aligned covering in
      let here : find (covers s page) leaves ≡ Some x = find-only (covers s page) x leaves i covering (λ z j t. h.apart z x j i (covers-meets s page z x t covering)) in
      let w : ℕ = leaf_word x.frame x.perm in
      let read : leaf_read s o (page / pages_of o) w ≡ Some x =
      ap (λ q. leaf_read s q (page / pages_of q) w) (sym c.1) ∙ ap (λ m. leaf_read m x.order (page / pages_of x.order) w) (sym same) ∙ ap (λ m. leaf_read x.space x.order m w) (sym n) ∙ read-leaf back x (h.fit x i) in
      ap (leaf_read s o (page / pages_of o)) (word-of o x i at) ∙ read
      ∙ sym (ap (only o) here ∙ ap (λ q. cond (same_order q o) (Some x) None) c.1 ∙ ap (λ t. cond t (Some x) None) (order-same o))

  none-found : (o : Order) → word_at f values (tag_of (group_of f) s o page) (slot_of f o page) ≡ 0 → (q : Option Leaf) → find (covers s page) leaves ≡ q → None ≡ only o q
  none-found o zero None w = refl
  none-found o zero (Some x) w =
      elim (same_order x.order o) as (λ t. same_order x.order o ≡ t → None ≡ cond t (Some x) None) [
        | true ↦ λ t.
            let i : In x leaves = find-In (covers s page) x leaves w in
            let a : IsAt f (tag_of (group_of f) s x.order page) (slot_of f x.order page) x = covers-at f s page x (h.fit x i).aligned (find-passes (covers s page) x leaves w) in
            absurd (leaf-some back x (h.fit x i) (sym (word-of o x i (subst (λ (q : Order). IsAt f (tag_of (group_of f) s q page) (slot_of f q page) x) (orders-same x.order o t) a)) ∙ zero))
        | false ↦ λ t. refl
      ] refl

  -- under the tag of an order, in its slot, is the page's leaf, where it is of that order
  pub found-is : (o : Order) → found_in f s page values o ≡ only o (find (covers s page) leaves)
  found-is o = elim (h.slot (tag_of (group_of f) s o page) (slot_of f o page) (slot-low f (page / pages_of o))) [
    | inl e ↦ ap (leaf_read s o (page / pages_of o)) e ∙ none-read s o (page / pages_of o) ∙ none-found o e (find (covers s page) leaves) refl
    | inr r ↦ found-leaf o r.0 r.1 r.2
  ]

  -- where all leaves are of 4 KiB, none is found under the tag of another order
  pub none-other : ((x : Leaf) → In x leaves → x.order ≡ order.K4) → (o : Order) → same_order order.K4 o ≡ false → found_in f s page values o ≡ None
  none-other small o other = found-is o ∙ go (find (covers s page) leaves) refl
    where
      go : (q : Option Leaf) → find (covers s page) leaves ≡ q → only o q ≡ None
      go None w = refl
      go (Some x) w =
          ap (λ p. cond (same_order p o) (Some x) None) (small x (find-In (covers s page) x leaves w)) ∙ ap (λ t. cond t (Some x) None) other

  pub at-page : first_found f s page values ≡ leaf_at_page s page leaves
  unfolding leaf_at_page
  at-page =
      let F : Option Leaf = find (covers s page) leaves in
      ap (λ q. or_leaf q (or_leaf (found_in f s page values order.M2) (found_in f s page values order.G1))) (found-is order.K4)
      ∙ ap (λ q. or_leaf (only order.K4 F) (or_leaf q (found_in f s page values order.G1))) (found-is order.M2)
      ∙ ap (λ q. or_leaf (only order.K4 F) (or_leaf (only order.M2 F) q)) (found-is order.G1)
      ∙ only-first F

  -- the loads of a walk are those of the orders that it tries
  pub loads-are : (b : ℕ) →
      let r : Order → ℕ = λ o. chain_reads (group_of f) b tags (tag_of (group_of f) s o page) in
      loads_by (found_in f s page values order.K4) (found_in f s page values order.M2) (r order.K4) (r order.M2) (r order.G1)
      ≡ chains_reads (group_of f) b tags s page (orders_tried (leaf_at_page s page leaves))
  unfolding leaf_at_page
  loads-are b =
      let r : Order → ℕ = λ o. chain_reads (group_of f) b tags (tag_of (group_of f) s o page) in
      let F : Option Leaf = find (covers s page) leaves in
      ap (λ q. loads_by q (found_in f s page values order.M2) (r order.K4) (r order.M2) (r order.G1)) (found-is order.K4)
      ∙ ap (λ q. loads_by (only order.K4 F) q (r order.K4) (r order.M2) (r order.G1)) (found-is order.M2)
      ∙ tried F
    where
      tried : (q : Option Leaf) →
          let r : Order → ℕ = λ o. chain_reads (group_of f) b tags (tag_of (group_of f) s o page) in
          loads_by (only order.K4 q) (only order.M2 q) (r order.K4) (r order.M2) (r order.G1) ≡ chains_reads (group_of f) b tags s page (orders_tried q)
      tried None = omega arith
      tried (Some x) = go x.order
        where
          go : (o : Order) →
              let r : Order → ℕ = λ p. chain_reads (group_of f) b tags (tag_of (group_of f) s p page) in
              loads_by (cond (same_order o order.K4) (Some x) None) (cond (same_order o order.M2) (Some x) None) (r order.K4) (r order.M2) (r order.G1)
              ≡ chains_reads (group_of f) b tags s page (orders_tried (Some (record x { order = o })))
          go order.K4 = omega arith
          go order.M2 = omega arith
          go order.G1 = omega arith

-- a smaller leaf that lies in a section
abbrev pub lies_in : Order → ℕ → Leaf → Bool
lies_in size key x = is_smaller size x.order && counts_at size key x

pub either : (a b : ℕ) → (not (a == 0) || not (b == 0)) ≡ not (a + b * 2 ^ 22 == 0)
either a b = same-tests (not (a == 0) || not (b == 0)) (not (a + b * 2 ^ 22 == 0)) (λ t. grind (arith, nat_tests)) (λ t. grind (arith, nat_tests))

-- a section's word says whether a smaller leaf lies in it
pub lies-any : (size : Order) (key : ℕ) (leaves : List Leaf) → list_any (lies_in size key) leaves ≡ not (smaller_word size key leaves == 0)
lies-any order.K4 key leaves = none-any (lies_in order.K4 key) leaves (λ x i. go x x.order)
  where
    go : (x : Leaf) (o : Order) → (is_smaller order.K4 o && counts_at order.K4 key x) ≡ false
    go x order.K4 = refl
    go x order.M2 = refl
    go x order.G1 = refl
lies-any order.M2 key leaves =
    any-each (lies_in order.M2 key) (of_order order.M2 key order.K4) leaves (λ x i. go (counts_at order.M2 key x) x.order) ∙ tally-any (of_order order.M2 key order.K4) leaves
  where
    go : (t : Bool) (o : Order) → (is_smaller order.M2 o && t) ≡ (t && same_order o order.K4)
    go true order.K4 = refl
    go true order.M2 = refl
    go true order.G1 = refl
    go false order.K4 = refl
    go false order.M2 = refl
    go false order.G1 = refl
lies-any order.G1 key leaves =
    any-each (lies_in order.G1 key) (λ x. of_order order.G1 key order.K4 x || of_order order.G1 key order.M2 x) leaves (λ x i. go (counts_at order.G1 key x) x.order)
    ∙ any-or (of_order order.G1 key order.K4) (of_order order.G1 key order.M2) leaves
    ∙ ap (λ b. b || list_any (of_order order.G1 key order.M2) leaves) (tally-any (of_order order.G1 key order.K4) leaves)
    ∙ ap (λ b. not (tally (of_order order.G1 key order.K4) leaves == 0) || b) (tally-any (of_order order.G1 key order.M2) leaves)
    ∙ either (tally (of_order order.G1 key order.K4) leaves) (tally (of_order order.G1 key order.M2) leaves)
  where
    go : (t : Bool) (o : Order) → (is_smaller order.G1 o && t) ≡ ((t && same_order o order.K4) || (t && same_order o order.M2))
    go true order.K4 = refl
    go true order.M2 = refl
    go true order.G1 = refl
    go false order.K4 = refl
    go false order.M2 = refl
    go false order.G1 = refl

-- a leaf that isn't smaller overlaps a block where it covers the block's first page
large-covers : (o p : Order) (a b first e k : ℕ) → first ≡ e * pages_of o → a ≡ k * pages_of p → level_of o ≤ level_of p → a < first + pages_of o → a ≤ first
large-covers order.K4 p a b first e k h i l m = omega arith
large-covers order.M2 order.K4 a b first e k h i l m = absurd (omega arith)
large-covers order.M2 order.M2 a b first e k h i l m = omega arith
large-covers order.M2 order.G1 a b first e k h i l m = omega arith
large-covers order.G1 order.K4 a b first e k h i l m = absurd (omega arith)
large-covers order.G1 order.M2 a b first e k h i l m = absurd (omega arith)
large-covers order.G1 order.G1 a b first e k h i l m = omega arith

-- a smaller leaf overlaps a block where it lies in the block's section
small-lies : (o : Order) (s first e : ℕ) (x : Leaf) → s < 64 → first < 2 ^ 45 → first ≡ e * pages_of o → IsAligned x → is_smaller o x.order ≡ true
    → meets_block s first o x ≡ counts_at o (s * 2 ^ 45 + first / pages_of o) x
small-lies order.K4 s first e x a b c d l = absurd (grind (arith, nat_tests))
small-lies order.M2 s first e x a b c d l =
    let other : same_order x.order order.G1 ≡ false = grind (arith, nat_tests) in
    meets-m2 s first e x a b c d ∙ ap (λ t. counts_at order.M2 (s * 2 ^ 45 + first / 512) x || (counts_at order.G1 (s * 2 ^ 45 + first / 262144) x && t)) other
    ∙ gone (counts_at order.M2 (s * 2 ^ 45 + first / 512) x) (counts_at order.G1 (s * 2 ^ 45 + first / 262144) x)
  where
    gone : (p q : Bool) → (p || (q && false)) ≡ p
    gone true q = refl
    gone false true = refl
    gone false false = refl
small-lies order.G1 s first e x a b c d l = meets-g1 s first e x a b c d

meets-each : (o : Order) (s first e : ℕ) (x : Leaf) → s < 64 → first < 2 ^ 45 → first ≡ e * pages_of o → IsAligned x
    → meets_block s first o x ≡ (covers s first x || lies_in o (s * 2 ^ 45 + first / pages_of o) x)
meets-each o s first e x a b c d =
    let size : 0 < pages_of o = pages-some o in
    elim (is_smaller o x.order) as (λ t. is_smaller o x.order ≡ t → meets_block s first o x ≡ (covers s first x || (t && counts_at o (s * 2 ^ 45 + first / pages_of o) x))) [
      | true ↦ λ t. same-tests (meets_block s first o x) (covers s first x || counts_at o (s * 2 ^ 45 + first / pages_of o) x)
          (λ m. right (covers s first x) (counts_at o (s * 2 ^ 45 + first / pages_of o) x) (sym (small-lies o s first e x a b c d t) ∙ m))
          (λ m. by (covers s first x) (counts_at o (s * 2 ^ 45 + first / pages_of o) x) m (λ k. grind (arith, nat_tests)) (λ k. small-lies o s first e x a b c d t ∙ k))
      | false ↦ λ t. same-tests (meets_block s first o x) (covers s first x || false)
          (λ m.
          let low : x.first < first + pages_of o = grind (arith, nat_tests) in
          let level : level_of o ≤ level_of x.order = grind (arith, nat_tests) in
          let under : x.first ≤ first = large-covers o x.order x.first 0 first e d.aligned.0 c d.aligned.1 level low in
          let covering : covers s first x ≡ true = grind (arith, nat_tests) in
          left (covers s first x) covering)
          (λ m. let covering : covers s first x ≡ true = plain (covers s first x) m in grind (arith, nat_tests))
    ] refl
  where
    right : (p q : Bool) → q ≡ true → (p || q) ≡ true
    right true q h = refl
    right false q h = h

    left : (p : Bool) → p ≡ true → (p || false) ≡ true
    left p h = ap (λ b. b || false) h

    plain : (p : Bool) → (p || false) ≡ true → p ≡ true
    plain true h = refl
    plain false h = h

    by : (p q : Bool) → (p || q) ≡ true → (p ≡ true → meets_block s first o x ≡ true) → (q ≡ true → meets_block s first o x ≡ true) → meets_block s first o x ≡ true
    by true q h j k = j refl
    by false q h j k = k h

-- A block overlaps a leaf where its first page has a leaf, or a smaller leaf lies in its section.
pub meets-is : (o : Order) (s first e : ℕ) (leaves : List Leaf) → s < 64 → first < 2 ^ 45 → first ≡ e * pages_of o → ((x : Leaf) → In x leaves → IsAligned x)
    → (is_some (leaf_at_page s first leaves) || not (smaller_word o (s * 2 ^ 45 + first / pages_of o) leaves == 0)) ≡ meets_any s first o leaves
unfolding leaf_at_page meets_any
meets-is o s first e leaves a b c d =
    let key : ℕ = s * 2 ^ 45 + first / pages_of o in
    sym (any-each (meets_block s first o) (λ x. covers s first x || lies_in o key x) leaves (λ x i. meets-each o s first e x a b c (d x i))
    ∙ any-or (covers s first) (lies_in o key) leaves
    ∙ ap (λ t. t || list_any (lies_in o key) leaves) (any-find (covers s first) leaves)
    ∙ ap (λ t. is_some (find (covers s first) leaves) || t) (lies-any o key leaves))

-- among leaves that aren't smaller than a block, the one that covers a page is found
abbrev pub from-only : Order → Option Leaf → Option Leaf
from-only order.K4 q = q
from-only order.M2 q = or_leaf (only order.M2 q) (only order.G1 q)
from-only order.G1 q = only order.G1 q

-- a smaller leaf that covers the block's first page lies in the block's section
small-covers : (o : Order) (s first e : ℕ) (x : Leaf) (leaves : List Leaf) → s < 64 → first < 2 ^ 45 → first ≡ e * pages_of o → IsAligned x → In x leaves → covers s first x ≡ true → is_smaller o x.order ≡ true
    → not (smaller_word o (s * 2 ^ 45 + first / pages_of o) leaves == 0) ≡ true
small-covers o s first e x leaves a b c d i t small =
    let size : 0 < pages_of o = pages-some o in
    let met : meets_block s first o x ≡ true = grind (arith, nat_tests) in
    let counts : counts_at o (s * 2 ^ 45 + first / pages_of o) x ≡ true = sym (small-lies o s first e x a b c d small) ∙ met in
    sym (lies-any o (s * 2 ^ 45 + first / pages_of o) leaves)
    ∙ In-any (lies_in o (s * 2 ^ 45 + first / pages_of o)) x leaves i (ap (λ k. k && counts_at o (s * 2 ^ 45 + first / pages_of o) x) small ∙ counts)

large-from : (o : Order) (x : Leaf) → is_smaller o x.order ≡ false → is_some (from-only o (Some x)) ≡ true
large-from order.K4 x h = refl
large-from order.M2 x h = go x.order h
  where
    go : (p : Order) → is_smaller order.M2 p ≡ false → is_some (or_leaf (cond (same_order p order.M2) (Some x) None) (cond (same_order p order.G1) (Some x) None)) ≡ true
    go order.K4 k = absurd (cc)
    go order.M2 k = refl
    go order.G1 k = refl
large-from order.G1 x h = go x.order h
  where
    go : (p : Order) → is_smaller order.G1 p ≡ false → is_some (cond (same_order p order.G1) (Some x) None) ≡ true
    go order.K4 k = absurd (cc)
    go order.M2 k = absurd (cc)
    go order.G1 k = refl

none-from : (o : Order) → is_some (from-only o None) ≡ false
none-from order.K4 = refl
none-from order.M2 = refl
none-from order.G1 = refl

-- where no smaller leaf lies in its section, a block overlaps a leaf of its order or a larger one
-- alone
pub from-is : (o : Order) (s first e : ℕ) (leaves : List Leaf) → s < 64 → first < 2 ^ 45 → first ≡ e * pages_of o → ((x : Leaf) → In x leaves → IsAligned x)
    → (not (smaller_word o (s * 2 ^ 45 + first / pages_of o) leaves == 0) || is_some (from-only o (find (covers s first) leaves)))
    ≡ (is_some (find (covers s first) leaves) || not (smaller_word o (s * 2 ^ 45 + first / pages_of o) leaves == 0))
from-is o s first e leaves a b c d = go (find (covers s first) leaves) refl
  where
    any : Bool
    any = not (smaller_word o (s * 2 ^ 45 + first / pages_of o) leaves == 0)

    plain : (p : Bool) → (p || false) ≡ p
    plain true = refl
    plain false = refl

    right : (p : Bool) → (p || true) ≡ true
    right true = refl
    right false = refl

    go : (q : Option Leaf) → find (covers s first) leaves ≡ q → (any || is_some (from-only o q)) ≡ (is_some q || any)
    go None w = ap (λ t. any || t) (none-from o) ∙ plain any
    go (Some x) w =
        elim (is_smaller o x.order) as (λ t. is_smaller o x.order ≡ t → (any || is_some (from-only o (Some x))) ≡ true) [
          | true ↦ λ t.
              let i : In x leaves = find-In (covers s first) x leaves w in
              ap (λ k. k || is_some (from-only o (Some x))) (small-covers o s first e x leaves a b c (d x i) i (find-passes (covers s first) x leaves w) t)
          | false ↦ λ t. ap (λ k. any || k) (large-from o x t) ∙ right any
        ] refl

pub page-found : (s page : ℕ) (leaves : List Leaf) → leaf_at_page s page leaves ≡ find (covers s page) leaves
unfolding leaf_at_page
page-found s page leaves = refl

-- what is found is that
pub found-from : MadeWordsReadBack → (f : Form) (s page : ℕ) (values : ℕ → List ℕ) (tags : List ℕ) (leaves : List Leaf) → s < 64 → page < 2 ^ 45 → AreHeld f values tags leaves
    → (o : Order) → found_from f s page values o ≡ from-only o (find (covers s page) leaves)
found-from back f s page values tags leaves a b h order.K4 = plain (at-page back f s page values tags leaves a b h)
  where
    plain : first_found f s page values ≡ leaf_at_page s page leaves → first_found f s page values ≡ find (covers s page) leaves
    plain e = e ∙ page-found s page leaves
found-from back f s page values tags leaves a b h order.M2 =
    ap (λ q. or_leaf q (found_in f s page values order.G1)) (found-is back f s page values tags leaves a b h order.M2)
    ∙ ap (or_leaf (only order.M2 (find (covers s page) leaves))) (found-is back f s page values tags leaves a b h order.G1)
found-from back f s page values tags leaves a b h order.G1 = found-is back f s page values tags leaves a b h order.G1
