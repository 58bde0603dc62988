-- One array that takes all orders: what it hits of a page is the leaf of the mapping, found in its own set.
use Rattle.xl_curve_laws.proofs.Common.{◌%◌, ◌*◌, ◌+◌, ◌/◌, ◌<◌, ◌∙◌, ◌∷◌, ◌≡◌, ◌≤◌, [], ap, arith, array_hit, array_touched, ArraysFresh, Bool, covered-one, covers, covers_as, false, find, find-passes, first_found, first_so, found_as, get-In, held_in, In, inl, inr, Leaf, leaf_touched, List, nat_tests, None, Option, pages_of, refl, Row, same-tests, same_leaf, same_order, second_so, set_at, set_number, slice_index_or, Some, spec_of_width, subst, sym, takes_order, TlbArray, true, with_set, ℕ}
use Rattle.xl_curve_model.proofs.SameLeafLemmas.{leaf_same, leaf_self}
use Rattle.xl_model.specs.Recency.{in_front, touched, without_first}
use Rattle.xl_model.specs.declared.address.Order.{Order}
use Rattle.xl_model.proofs.OrderLemmas.{order-same, orders-same}
use Rattle.xl_model_lemmas.specs.Mappings.{IsMapping}
use Rattle.xl_model.specs.declared.address.Order.TheVariants as order

-- ---- tests that agree on a list

module _ {A : Type 0} (p q : A → Bool) where
  find-each : (xs : List A) → ((x : A) → In x xs → p x ≡ q x) → find p xs ≡ find q xs
  find-each [] same = refl
  find-each (x ∷ xs) same = go (q x) refl (find-each xs (λ y i. same y (inr i)))
    where
      go : (b : Bool) → q x ≡ b → find p xs ≡ find q xs → find p (x ∷ xs) ≡ find q (x ∷ xs)
      go true t more = rw (same x (inl refl), t) refl
      go false t more = rw (same x (inl refl), t) more

  without-each : (xs : List A) → ((x : A) → In x xs → p x ≡ q x) → without_first p xs ≡ without_first q xs
  without-each [] same = refl
  without-each (x ∷ xs) same = go (q x) refl (without-each xs (λ y i. same y (inr i)))
    where
      go : (b : Bool) → q x ≡ b → without_first p xs ≡ without_first q xs → without_first p (x ∷ xs) ≡ without_first q (x ∷ xs)
      go true t more = rw (same x (inl refl), t) refl
      go false t more = rw (same x (inl refl), t) (ap (λ (ys : List A). x ∷ ys) more)

  touched-each : (xs : List A) → ((x : A) → In x xs → p x ≡ q x) → touched p xs ≡ touched q xs
  touched-each xs same =
      ap (λ (o : Option A). in_front o (without_first p xs)) (find-each xs same)
      ∙ ap (in_front (find q xs)) (without-each xs same)

-- ---- the set of a leaf and of its pages

block-of : (page e : ℕ) (o : Order) → e * pages_of o ≤ page → page < e * pages_of o + pages_of o → page / pages_of o ≡ e * pages_of o / pages_of o
block-of page e order.K4 l m = omega arith
block-of page e order.M2 l m = omega arith
block-of page e order.G1 l m = omega arith

-- a page that a leaf covers is in the leaf's set
pub own-set : (row : Row) (leaves : List Leaf) (a : TlbArray) (space page : ℕ) (leaf : Leaf) → IsMapping row leaves → In leaf leaves
    → covers space page leaf ≡ true → set_number a.spec leaf.order page ≡ set_number a.spec leaf.order leaf.first
own-set row leaves a space page leaf m i t =
    let e = (m.valid leaf i).pages_aligned in
    let low : leaf.first ≤ page = grind (arith, nat_tests) in
    let high : page < leaf.first + pages_of leaf.order = grind (arith, nat_tests) in
    ap (λ (n : ℕ). n % a.spec.sets)
    (block-of page e.0 leaf.order (rw e.1 at low) (rw e.1 at high)
    ∙ ap (λ (n : ℕ). n / pages_of leaf.order) (sym e.1))

-- ---- hits

-- the array takes all orders
pub TakesAll : TlbArray → Type 0
TakesAll a = (o : Order) → takes_order a.spec o ≡ true

pub takes-all : (a : TlbArray) (sets width : ℕ) → a.spec ≡ spec_of_width sets width → TakesAll a
unfolding TakesAll
takes-all a sets width e o = ap (λ (s : _). takes_order s o) e ∙ each o
  where
    each : (k : Order) → takes_order (spec_of_width sets width) k ≡ true
    each order.K4 = refl
    each order.M2 = refl
    each order.G1 = refl

found-taken : (a : TlbArray) (space page : ℕ) (o : Order) → TakesAll a → found_as a space page o ≡ find (covers_as space page o) (set_at a o page)
unfolding TakesAll
found-taken a space page o all = rw (all o) refl

-- the leaf that is hit was found in its own order
found-own : (a : TlbArray) (space page : ℕ) (o : Order) (x : Leaf) → TakesAll a → found_as a space page o ≡ Some x
    → find (covers_as space page x.order) (set_at a x.order page) ≡ Some x
found-own a space page o x all e =
    let f : find (covers_as space page o) (set_at a o page) ≡ Some x = sym (found-taken a space page o all) ∙ e in
    let t : covers_as space page o x ≡ true = find-passes (covers_as space page o) x (set_at a o page) f in
    let same : o ≡ x.order = sym (orders-same x.order o (first_so (same_order x.order o) (covers space page x) t)) in
    subst (λ (k : Order). find (covers_as space page k) (set_at a k page) ≡ Some x) same f

pub hit-own : (a : TlbArray) (space page : ℕ) (x : Leaf) → TakesAll a → array_hit a space page ≡ Some x
    → find (covers_as space page x.order) (set_at a x.order page) ≡ Some x
unfolding array_hit
hit-own a space page x all e = go (found_as a space page order.K4) (found_as a space page order.M2) refl refl e
  where
    go : (k m : Option Leaf) → found_as a space page order.K4 ≡ k → found_as a space page order.M2 ≡ m
        → first_found k (first_found m (found_as a space page order.G1)) ≡ Some x → find (covers_as space page x.order) (set_at a x.order page) ≡ Some x
    go (Some y) m is also h = found-own a space page order.K4 x all (is ∙ h)
    go None (Some y) is also h = found-own a space page order.M2 x all (also ∙ h)
    go None None is also h = found-own a space page order.G1 x all h

none-found : (x y : Option Leaf) → first_found x y ≡ None → (x ≡ None) × (y ≡ None)
none-found None y e = (refl, e)
none-found (Some x) y e = absurd (cc)

pub miss-each : (a : TlbArray) (space page : ℕ) (o : Order) → TakesAll a → array_hit a space page ≡ None → find (covers_as space page o) (set_at a o page) ≡ None
unfolding array_hit
miss-each a space page o all e = sym (found-taken a space page o all) ∙ each o
  where
    each : (k : Order) → found_as a space page k ≡ None
    each order.K4 = (none-found (found_as a space page order.K4) (first_found (found_as a space page order.M2) (found_as a space page order.G1)) e).0
    each order.M2 = (none-found (found_as a space page order.M2) (found_as a space page order.G1) (none-found (found_as a space page order.K4) (first_found (found_as a space page order.M2) (found_as a space page order.G1)) e).1).0
    each order.G1 = (none-found (found_as a space page order.M2) (found_as a space page order.G1) (none-found (found_as a space page order.K4) (first_found (found_as a space page order.M2) (found_as a space page order.G1)) e).1).1

module _ (row : Row) (leaves : List Leaf) (a : TlbArray) (space page : ℕ) (leaf : Leaf)
    (m : IsMapping row leaves) (fresh : ArraysFresh (a ∷ []) leaves) (i : In leaf leaves) (t : covers space page leaf ≡ true) where
  -- in what the array holds the leaf is the one that covers the page
  agree : (n : ℕ) (z : Leaf) → In z (slice_index_or a.sets n []) → covers_as space page leaf.order z ≡ same_leaf leaf z
  agree n z j =
      let k : In z leaves = fresh z (inl (get-In z a.sets n j)) in
      same-tests (covers_as space page leaf.order z) (same_leaf leaf z)
      (λ c. let e : z ≡ leaf = covered-one row leaves space page z leaf m k i (second_so (same_order z.order leaf.order) (covers space page z) c) t in
      subst (λ (y : Leaf). same_leaf leaf y ≡ true) (sym e) (leaf_self leaf))
      (λ c. let e : z ≡ leaf = leaf_same leaf z c in
      subst (λ (y : Leaf). covers_as space page leaf.order y ≡ true) (sym e) (rw (order-same leaf.order) t))

  -- where the array hits, it holds the leaf
  pub hit-held : find (covers_as space page leaf.order) (set_at a leaf.order page) ≡ Some leaf → held_in leaf a ≡ Some leaf
  hit-held f =
      let s : set_number a.spec leaf.order page ≡ set_number a.spec leaf.order leaf.first = own-set row leaves a space page leaf m i t in
      sym (find-each (covers_as space page leaf.order) (same_leaf leaf) (slice_index_or a.sets (set_number a.spec leaf.order leaf.first) [])
      (agree (set_number a.spec leaf.order leaf.first)))
      ∙ subst (λ (n : ℕ). find (covers_as space page leaf.order) (slice_index_or a.sets n []) ≡ Some leaf) s f

  -- and touches it
  pub hit-touched : leaf_touched leaf a ≡ array_touched space page leaf a
  unfolding array_touched
  hit-touched =
      let s : set_number a.spec leaf.order page ≡ set_number a.spec leaf.order leaf.first = own-set row leaves a space page leaf m i t in
      ap (with_set a (set_number a.spec leaf.order leaf.first))
      (sym (touched-each (covers_as space page leaf.order) (same_leaf leaf) (slice_index_or a.sets (set_number a.spec leaf.order leaf.first) [])
      (agree (set_number a.spec leaf.order leaf.first))))
      ∙ ap (λ (n : ℕ). with_set a n (touched (covers_as space page leaf.order) (slice_index_or a.sets n []))) (sym s)

  -- where it misses, it doesn't
  pub miss-held : find (covers_as space page leaf.order) (set_at a leaf.order page) ≡ None → held_in leaf a ≡ None
  miss-held f =
      let s : set_number a.spec leaf.order page ≡ set_number a.spec leaf.order leaf.first = own-set row leaves a space page leaf m i t in
      sym (find-each (covers_as space page leaf.order) (same_leaf leaf) (slice_index_or a.sets (set_number a.spec leaf.order leaf.first) [])
      (agree (set_number a.spec leaf.order leaf.first)))
      ∙ subst (λ (n : ℕ). find (covers_as space page leaf.order) (slice_index_or a.sets n []) ≡ None) s f
