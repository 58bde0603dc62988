-- The words of a table read back as its leaves.
use Rattle.xl_radix.proofs.Common.{◌%◌, ◌*◌, ◌+◌, ◌/◌, ◌<◌, ◌∙◌, ◌≡◌, ◌≤◌, ◌⊎◌, ap, arith, cases_lt, In, In-with, in_nodes, inl, inr, is_below, IsImage, IsRadixMapping, Leaf, leaf_by, leaf_here, leaf_in, leaf_key, leaf_said, length, level-low, level_of, List, Node, None, number_of, Option, Order, order_of, pages_of, Pte, read_back, read_to, refl, same-place, same-sorted, slice_index_or, Some, sorted-with, stays-with, subst, suc, sym, true, up, with-In, with_leaf, with_new, word_of, zero, ℕ}
use Rattle.xl_model_lemmas.specs.Sorted.{IsSorted}
use Rattle.xl_radix.proofs.CaseLemmas.{split-less}
use Rattle.xl_radix.proofs.SlotLemmas.{At, below-some, in-nodes, Is, leaf-in-none, leaf-in-some, number-some, Says, says}
use Rattle.xl_model.specs.declared.address.Order.TheVariants as order
use Rattle.xl_pte.specs.declared.word.Pte.TheVariants as pte

order-of-level : (o : Order) → order_of (level_of o) ≡ Some o
order-of-level order.K4 = refl
order-of-level order.M2 = refl
order-of-level order.G1 = refl

said-none : (s q : ℕ) (o : Option Order) → leaf_said s q o pte.Invalid ≡ None
said-none s q None = refl
said-none s q (Some o) = refl

said-pointer : (s q n : ℕ) (o : Option Order) → leaf_said s q o (pte.Pointer n) ≡ None
said-pointer s q n None = refl
said-pointer s q n (Some o) = refl

pub said-leaf : (s l q : ℕ) (x : Leaf) → At s l q x → up (level_of x.order) x.first * pages_of x.order ≡ x.first → leaf_said s q (order_of l) (pte.Leaf x.frame x.perm) ≡ Some x
said-leaf s l q x at aligned =
    let e : order_of l ≡ Some x.order = ap order_of (sym at.level_is) ∙ order-of-level x.order in
    let b : q ≡ up (level_of x.order) x.first = sym at.block_is ∙ ap (λ (v : ℕ). up v x.first) (sym at.level_is) in
    let f : q * pages_of x.order ≡ x.first = ap (λ (v : ℕ). v * pages_of x.order) b ∙ aligned in
    rw e (rw (← at.space_is, f) refl)

-- What a slot's word says is its leaf.
pub said-is : (top spaces s l q : ℕ) (leaves : List Leaf) (nodes : List (Option Node)) (w : Pte) → IsRadixMapping top spaces leaves → Says w s l q leaves nodes → leaf_said s q (order_of l) w ≡ leaf_in s l q leaves
said-is top spaces s l q leaves nodes pte.Invalid m h = said-none s q (order_of l) ∙ sym h.0
said-is top spaces s l q leaves nodes (pte.Pointer n) m h = said-pointer s q n (order_of l) ∙ sym h.0
said-is top spaces s l q leaves nodes (pte.Leaf frame perm) m h =
    let x = h.0 in
    let r = leaf-in-some s l q leaves x h.1 in
    rw (← h.2, ← h.3) (said-leaf s l q x r.1 (m.proper x r.0).aligned ∙ sym h.1)
said-is top spaces s l q leaves nodes pte.Reserved m h = absurd h
said-is top spaces s l q leaves nodes pte.Misaligned m h = absurd h

abbrev pub leaf_of : List Leaf → Option Node → ℕ → Option Leaf
leaf_of leaves None i = None
leaf_of leaves (Some node) i = leaf_in node.space node.level (node.prefix * 512 + i) leaves

by-is : (top spaces i : ℕ) (leaves : List Leaf) (nodes : List (Option Node)) (o : Option Node) → IsRadixMapping top spaces leaves → length nodes ≤ 16384 → leaf_by o i (word_of leaves nodes o i) ≡ leaf_of leaves o i
by-is top spaces i leaves nodes None m small = refl
by-is top spaces i leaves nodes (Some node) m small =
    said-is top spaces node.space node.level (node.prefix * 512 + i) leaves nodes _ m (says top spaces node.space node.level (node.prefix * 512 + i) leaves nodes m small)

pub here-is : (top spaces n i : ℕ) (leaves : List Leaf) (nodes : List (Option Node)) (words : List ℕ) → IsRadixMapping top spaces leaves → IsImage top leaves nodes words → length nodes ≤ 16384 → n < length nodes → i < 512 → leaf_here nodes words (n * 512 + i) ≡ leaf_of leaves (slice_index_or nodes n None) i
unfolding leaf_here
here-is top spaces n i leaves nodes words m image small h g =
    let a : (n * 512 + i) / 512 ≡ n = omega arith in
    let b : (n * 512 + i) % 512 ≡ i = omega arith in
    rw (a, b, image.same n i h g) (by-is top spaces i leaves nodes (slice_index_or nodes n None) m small)

leaf-of-in : (leaves : List Leaf) (o : Option Node) (i : ℕ) (y : Leaf) → leaf_of leaves o i ≡ Some y → In y leaves
leaf-of-in leaves None i y h = cc
leaf-of-in leaves (Some node) i y h = (leaf-in-some node.space node.level (node.prefix * 512 + i) leaves y h).0

pub here-in : (top spaces k : ℕ) (leaves : List Leaf) (nodes : List (Option Node)) (words : List ℕ) (y : Leaf) → IsRadixMapping top spaces leaves → IsImage top leaves nodes words → length nodes ≤ 16384 → k < length nodes * 512 → leaf_here nodes words k ≡ Some y → In y leaves
here-in top spaces k leaves nodes words y m image small h e =
    let a : k / 512 * 512 + k % 512 ≡ k = omega arith in
    let f : leaf_here nodes words k ≡ leaf_of leaves (slice_index_or nodes (k / 512) None) (k % 512) = ap (leaf_here nodes words) (sym a) ∙ here-is top spaces (k / 512) (k % 512) leaves nodes words m image small (omega arith) (omega arith) in
    leaf-of-in leaves (slice_index_or nodes (k / 512) None) (k % 512) y (sym f ∙ e)

-- A leaf's slot has the leaf.
pub own-slot : (top spaces : ℕ) (leaves : List Leaf) (x : Leaf) → IsRadixMapping top spaces leaves → In x leaves → leaf_in x.space (level_of x.order) (up (level_of x.order) x.first) leaves ≡ Some x
own-slot top spaces leaves x m i =
    elim (leaf_in x.space (level_of x.order) (up (level_of x.order) x.first) leaves) as (λ o. leaf_in x.space (level_of x.order) (up (level_of x.order) x.first) leaves ≡ o → o ≡ Some x) [
      | None ↦ λ e. absurd (leaf-in-none x.space (level_of x.order) (up (level_of x.order) x.first) leaves x e i (record { space_is = refl; level_is = refl; block_is = refl }))
      | Some y ↦ λ e. ap Some (same y (leaf-in-some x.space (level_of x.order) (up (level_of x.order) x.first) leaves y e))
    ] refl
  where
    same : (y : Leaf) → In y leaves × At x.space (level_of x.order) (up (level_of x.order) x.first) y → y ≡ x
    same y r = m.apart y x r.0 i r.1.space_is (omega (arith, r.1.level_is)) r.1.block_is

-- Each leaf has a place.
pub has-place : (top spaces : ℕ) (leaves : List Leaf) (nodes : List (Option Node)) (words : List ℕ) (x : Leaf) → 3 ≤ top → IsRadixMapping top spaces leaves → IsImage top leaves nodes words → length nodes ≤ 16384 → In x leaves → (k : ℕ) × (k < length nodes * 512) × (leaf_here nodes words k ≡ Some x)
has-place top spaces leaves nodes words x high m image small i =
    elim (number_of x.space (suc (level_of x.order)) (up (suc (level_of x.order)) x.first) nodes) as (λ o. number_of x.space (suc (level_of x.order)) (up (suc (level_of x.order)) x.first) nodes ≡ o → (k : ℕ) × (k < length nodes * 512) × (leaf_here nodes words k ≡ Some x)) [
      | None ↦ λ e. absurd (image.full x.space (suc (level_of x.order)) (up (suc (level_of x.order)) x.first) under low e)
      | Some n ↦ λ e. at n (number-some x.space (suc (level_of x.order)) (up (suc (level_of x.order)) x.first) n nodes e)
    ] refl
  where
    under : in_nodes x.space (suc (level_of x.order)) (up (suc (level_of x.order)) x.first) leaves ≡ true
    under = in-nodes x.space (suc (level_of x.order)) (up (suc (level_of x.order)) x.first) leaves x i (record { space_is = refl; level_in = omega arith; block_is = refl })

    low : suc (level_of x.order) ≤ top
    low = let l = level-low x.order in omega arith

    named : (node : Node) → Is x.space (suc (level_of x.order)) (up (suc (level_of x.order)) x.first) node → leaf_in node.space node.level (node.prefix * 512 + up (level_of x.order) x.first % 512) leaves ≡ leaf_in x.space (level_of x.order) (up (level_of x.order) x.first) leaves
    named node is =
        let a = is.space_is in
        let b : node.level ≡ level_of x.order = omega (arith, is.level_is) in
        let c : node.prefix * 512 + up (level_of x.order) x.first % 512 ≡ up (level_of x.order) x.first = omega (arith, is.prefix_is) in
        rw (a, b, c) refl

    at : (n : ℕ) → (n < length nodes) × (is_below x.space (suc (level_of x.order)) (up (suc (level_of x.order)) x.first) (slice_index_or nodes n None) ≡ true) → (k : ℕ) × (k < length nodes * 512) × (leaf_here nodes words k ≡ Some x)
    at n r =
        let b = below-some x.space (suc (level_of x.order)) (up (suc (level_of x.order)) x.first) _ r.1 in
        let h : n < length nodes = r.0 in (
          n * 512 + up (level_of x.order) x.first % 512,
          omega (arith, h),
          here-is top spaces n (up (level_of x.order) x.first % 512) leaves nodes words m image small r.0 (omega arith)
              ∙ ap (λ (o : Option Node). leaf_of leaves o (up (level_of x.order) x.first % 512)) b.1 ∙ named b.0 b.2 ∙ own-slot top spaces leaves x m i,
        )

some-in : (o : Option Leaf) (xs : List Leaf) (y : Leaf) → In y (with_new o xs) → (o ≡ Some y) ⊎ In y xs
some-in None xs y i = inr i
some-in (Some x) xs y i = elim (with-In y x xs i) [ inl e ↦ inl (ap Some (sym e)) | inr j ↦ inr j ]

some-sorted : (o : Option Leaf) (xs : List Leaf) → IsSorted xs → IsSorted (with_new o xs)
some-sorted None xs h = h
some-sorted (Some x) xs h = sorted-with x xs h

pub read-sorted : (nodes : List (Option Node)) (words : List ℕ) (k : ℕ) → IsSorted (read_to nodes words k)
read-sorted nodes words zero = tt
read-sorted nodes words (suc k) = some-sorted (leaf_here nodes words k) (read_to nodes words k) (read-sorted nodes words k)

pub read-in : (top spaces k : ℕ) (leaves : List Leaf) (nodes : List (Option Node)) (words : List ℕ) (y : Leaf) → IsRadixMapping top spaces leaves → IsImage top leaves nodes words → length nodes ≤ 16384 → k ≤ length nodes * 512 → In y (read_to nodes words k) → In y leaves
read-in top spaces zero leaves nodes words y m image small h i = absurd i
read-in top spaces (suc k) leaves nodes words y m image small h i =
    elim (some-in (leaf_here nodes words k) (read_to nodes words k) y i) [
      | inl e ↦ here-in top spaces k leaves nodes words y m image small (omega arith) e
      | inr j ↦ read-in top spaces k leaves nodes words y m image small (omega arith) j
    ]

some-keeps : (top spaces : ℕ) (leaves : List Leaf) (o : Option Leaf) (xs : List Leaf) (x : Leaf) → IsRadixMapping top spaces leaves → ((z : Leaf) → o ≡ Some z → In z leaves) → In x leaves → In x xs → In x (with_new o xs)
some-keeps top spaces leaves None xs x m all i j = j
some-keeps top spaces leaves (Some z) xs x m all i j =
    elim (cases_lt (leaf_key z) (leaf_key x)) [
      | inl lt ↦ stays-with x z xs j (λ e. omega (arith, e))
      | inr ge ↦ elim (cases_lt (leaf_key x) (leaf_key z)) [
        | inl lt ↦ stays-with x z xs j (λ e. omega (arith, e))
        | inr le ↦ let e : x ≡ z = same-place x z leaves m.sorted i (all z refl) (omega arith) in subst (λ (v : Leaf). In v (with_leaf z xs)) (sym e) (In-with z xs)
      ]
    ]

pub read-there : (top spaces k place : ℕ) (leaves : List Leaf) (nodes : List (Option Node)) (words : List ℕ) (x : Leaf) → IsRadixMapping top spaces leaves → IsImage top leaves nodes words → length nodes ≤ 16384 → k ≤ length nodes * 512 → In x leaves → leaf_here nodes words place ≡ Some x → place < k → In x (read_to nodes words k)
read-there top spaces zero place leaves nodes words x m image small h i e g = absurd (omega arith)
read-there top spaces (suc k) place leaves nodes words x m image small h i e g =
    elim (split-less place k g) [
      | inl f ↦ newest (ap (leaf_here nodes words) (sym f) ∙ e)
      | inr f ↦ some-keeps top spaces leaves (leaf_here nodes words k) (read_to nodes words k) x m (λ z t. here-in top spaces k leaves nodes words z m image small (omega arith) t) i (read-there top spaces k place leaves nodes words x m image small (omega arith) i e f)
    ]
  where
    newest : leaf_here nodes words k ≡ Some x → In x (with_new (leaf_here nodes words k) (read_to nodes words k))
    newest t = rw t (In-with x (read_to nodes words k))

pub reads-back : (top spaces : ℕ) (leaves : List Leaf) (nodes : List (Option Node)) (words : List ℕ) → 3 ≤ top → IsRadixMapping top spaces leaves → IsImage top leaves nodes words → length nodes ≤ 16384 → read_back nodes words ≡ leaves
unfolding read_back
reads-back top spaces leaves nodes words high m image small =
    same-sorted (read_to nodes words (length nodes * 512)) leaves (read-sorted nodes words (length nodes * 512)) m.sorted
    (λ z i. read-in top spaces (length nodes * 512) leaves nodes words z m image small (omega arith) i)
    (λ z i. let p = has-place top spaces leaves nodes words z high m image small i in read-there top spaces (length nodes * 512) p.0 leaves nodes words z m image small (omega arith) i p.2 p.1)
