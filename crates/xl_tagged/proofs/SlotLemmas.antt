-- Leaves are read back from their slots, and what is held under tags is known by its leaves.
use Rattle.xl_tagged.proofs.Common.{◌%◌, ◌*◌, ◌+◌, ◌/◌, ◌<◌, ◌==◌, ◌^◌, ◌∙◌, ◌∷◌, ◌≡◌, ◌≤◌, ◌⊎◌, [], ap, AreHeld, arith, at-level, false, Form, group_of, IfNone, IfSome, In, In-append, In-left, In-right, In-with, inl, inr, IsAt, IsFit, Leaf, leaf_in, leaf_key, leaf_read, leaf_said, leaf_tag, leaf_word, leaves_under, length, level-low, level_of, List, MadeWordsReadBack, mapping-In, mapping-sorted, mapping_of, nat_tests, None, Option, Order, order_at, pages_of, Perm, refl, same-place, same-sorted, slot_leaves, slot_of, small_known, Some, stays-with, subst, suc, sym, true, with_leaf, with_some, word_at, zero, ℕ}
use Rattle.xl_pte.specs.Decode.{decode_of, SaysNone, SaysSmall}
use Rattle.xl_pte.specs.declared.word.Pte.{Pte}
use Rattle.xl_tagged.proofs.PlaceLemmas.{group-back, HasParts, number-back, slot-low, tag-parts}
use Rattle.xl_model.specs.declared.address.Order.TheVariants as order
use Rattle.xl_pte.specs.declared.word.Pte.TheVariants as pte

-- no leaf is read from 0
pub none-read : (space : ℕ) (o : Order) (n : ℕ) → leaf_read space o n 0 ≡ None
unfolding decode_of
none-read space o n = refl

-- the word of a page's leaf of 4 KiB, read
pub small-read : (space page word : ℕ) (o : Option ℕ) → IfSome o (SaysSmall word) → IfNone o (SaysNone word) → small_known space page o ≡ leaf_read space order.K4 (page / pages_of order.K4) word
small-read space page word (Some small) said none = sym (ap (leaf_said space order.K4 (page / pages_of order.K4)) said)
small-read space page word None said none = go (decode_of word 0) none
  where
    go : (d : Pte) → ((frame : ℕ) (p : Perm) → d ≡ pte.Leaf frame p → ⊥) → None ≡ leaf_said space order.K4 (page / pages_of order.K4) d
    go (pte.Leaf frame p) never = absurd (never frame p refl)
    go pte.Invalid never = refl
    go (pte.Pointer node) never = refl
    go pte.Reserved never = refl
    go pte.Misaligned never = refl

pub read-leaf : MadeWordsReadBack → (x : Leaf) → IsFit x → leaf_read x.space x.order (x.first / pages_of x.order) (leaf_word x.frame x.perm) ≡ Some x
read-leaf back x fit =
    let low : level_of x.order ≤ 2 = level-low x.order in
    let d : decode_of (leaf_word x.frame x.perm) (level_of x.order) ≡ pte.Leaf x.frame x.perm = back.leaf x.frame (level_of x.order) x.perm fit.frame_in (omega arith) fit.frame_aligned in
    let f : ℕ → Option Leaf = λ n. Some (record { space = x.space; first = n; order = x.order; frame = x.frame; perm = x.perm }) in
    ap (leaf_said x.space x.order (x.first / pages_of x.order)) d ∙ ap f (number-back x.order x.first fit.aligned.aligned.0 fit.aligned.aligned.1)

pub leaf-some : MadeWordsReadBack → (x : Leaf) → IsFit x → leaf_word x.frame x.perm ≡ 0 → ⊥
leaf-some back x fit e =
    let bad : Some x ≡ None = sym (read-leaf back x fit) ∙ ap (leaf_read x.space x.order (x.first / pages_of x.order)) e ∙ none-read x.space x.order (x.first / pages_of x.order) in
    absurd (cc)

-- a leaf is read at its place
pub in-leaf : MadeWordsReadBack → (f : Form) (tag i : ℕ) (x : Leaf) → IsFit x → IsAt f tag i x → leaf_in f tag i (leaf_word x.frame x.perm) ≡ Some x
unfolding leaf_in
in-leaf back f tag i x fit at =
    let p : HasParts tag x.space (x.first / pages_of x.order / group_of f) (level_of x.order) = tag-parts f tag x fit.aligned at.tag_is in
    let w : ℕ = leaf_word x.frame x.perm in
    let o : order_at (tag / 2 ^ 60) ≡ x.order = ap order_at p.level_is ∙ at-level x.order in
    let n : tag % 2 ^ 45 * group_of f + i ≡ x.first / pages_of x.order =
    ap (λ (m : ℕ). m * group_of f + i) p.number_is ∙ ap (λ (m : ℕ). x.first / pages_of x.order / group_of f * group_of f + m) (sym at.slot_is) ∙ group-back f (x.first / pages_of x.order) in
    ap (λ s. leaf_read s (order_at (tag / 2 ^ 60)) (tag % 2 ^ 45 * group_of f + i) w) p.space_is
    ∙ ap (λ q. leaf_read x.space q (tag % 2 ^ 45 * group_of f + i) w) o
    ∙ ap (λ m. leaf_read x.space x.order m w) n ∙ read-leaf back x fit

pub in-none : (f : Form) (tag i : ℕ) → leaf_in f tag i 0 ≡ None
unfolding leaf_in
in-none f tag i = none-read (tag / 2 ^ 45 % 2 ^ 15) (order_at (tag / 2 ^ 60)) (tag % 2 ^ 45 * group_of f + i)

-- members of what slots and tags hold
some-In : (q : Option Leaf) (x : Leaf) (xs : List Leaf) → In x (with_some q xs) → (q ≡ Some x) ⊎ In x xs
some-In None x xs i = inr i
some-In (Some y) x xs (inl e) = inl (ap Some (sym e))
some-In (Some y) x xs (inr i) = inr i

In-some : (q : Option Leaf) (x : Leaf) (xs : List Leaf) → In x xs → In x (with_some q xs)
In-some None x xs i = i
In-some (Some y) x xs i = inr i

slots-In : (f : Form) (values : ℕ → List ℕ) (tag n : ℕ) (x : Leaf) → In x (slot_leaves f values tag n) → (i : ℕ) × (i < n) × (leaf_in f tag i (word_at f values tag i) ≡ Some x)
unfolding slot_leaves
slots-In f values tag zero x h = absurd h
slots-In f values tag (suc n) x h = elim (some-In (leaf_in f tag n (word_at f values tag n)) x (slot_leaves f values tag n) h) [
  | inl e ↦ (n, omega arith, e)
  | inr i ↦ let r = slots-In f values tag n x i in let l : r.0 < n = r.1 in (r.0, omega arith, r.2)
]

In-slots : (f : Form) (values : ℕ → List ℕ) (tag n i : ℕ) (x : Leaf) → i < n → leaf_in f tag i (word_at f values tag i) ≡ Some x → In x (slot_leaves f values tag n)
unfolding slot_leaves
In-slots f values tag zero i x h e = absurd (omega arith)
In-slots f values tag (suc n) i x h e =
    elim (i == n) as (λ b. (i == n) ≡ b → In x (with_some (leaf_in f tag n (word_at f values tag n)) (slot_leaves f values tag n))) [
      | true ↦ λ t.
          let same : i ≡ n = grind (arith, nat_tests) in
          subst (λ (q : Option Leaf). In x (with_some q (slot_leaves f values tag n))) (sym e ∙ ap (λ m. leaf_in f tag m (word_at f values tag m)) same) (inl refl)
      | false ↦ λ t. let l : i < n = grind (arith, nat_tests) in In-some (leaf_in f tag n (word_at f values tag n)) x (slot_leaves f values tag n) (In-slots f values tag n i x l e)
    ] refl

record IsUnder (f : Form) (values : ℕ → List ℕ) (tags : List ℕ) (x : Leaf) : Type 0 where
  tag : ℕ
  there : In tag tags
  slot : ℕ
  slot_in : slot < group_of f
  says : leaf_in f tag slot (word_at f values tag slot) ≡ Some x

under-In : (f : Form) (values : ℕ → List ℕ) (tags : List ℕ) (x : Leaf) → In x (leaves_under f values tags) → IsUnder f values tags x
unfolding leaves_under
under-In f values [] x h = absurd h
under-In f values (t ∷ ts) x h = elim (In-append x (slot_leaves f values t (group_of f)) (leaves_under f values ts) h) [
  | inl i ↦ let r = slots-In f values t (group_of f) x i in record { tag = t; there = inl refl; slot = r.0; slot_in = r.1; says = r.2 }
  | inr i ↦ let r = under-In f values ts x i in record { tag = r.tag; there = inr r.there; slot = r.slot; slot_in = r.slot_in; says = r.says }
]

In-under : (f : Form) (values : ℕ → List ℕ) (tags : List ℕ) (tag i : ℕ) (x : Leaf) → In tag tags → i < group_of f → leaf_in f tag i (word_at f values tag i) ≡ Some x → In x (leaves_under f values tags)
unfolding leaves_under
In-under f values [] tag i x h l e = absurd h
In-under f values (t ∷ ts) tag i x (inl h) l e =
    In-left x (slot_leaves f values t (group_of f)) (leaves_under f values ts) (subst (λ (m : ℕ). In x (slot_leaves f values m (group_of f))) h (In-slots f values tag (group_of f) i x l e))
In-under f values (t ∷ ts) tag i x (inr h) l e = In-right x (slot_leaves f values t (group_of f)) (leaves_under f values ts) (In-under f values ts tag i x h l e)

-- a list whose members have keys of their own, and its mapping
In-own : (z : Leaf) (xs : List Leaf) → ((x y : Leaf) → In x xs → In y xs → leaf_key x ≡ leaf_key y → x ≡ y) → In z xs → In z (mapping_of xs)
unfolding mapping_of
In-own z [] own i = absurd i
In-own z (x ∷ xs) own (inl e) = let P : Leaf → Type 0 = λ w. In w (with_leaf x (mapping_of xs)) in subst P (sym e) (In-with x (mapping_of xs))
In-own z (x ∷ xs) own (inr i) =
    elim (leaf_key z == leaf_key x) as (λ b. (leaf_key z == leaf_key x) ≡ b → In z (with_leaf x (mapping_of xs))) [
      | true ↦ λ t.
          let e : z ≡ x = own z x (inr i) (inl refl) (grind (arith, nat_tests)) in
          let P : Leaf → Type 0 = λ w. In w (with_leaf x (mapping_of xs)) in subst P (sym e) (In-with x (mapping_of xs))
      | false ↦ λ t. stays-with z x (mapping_of xs) (In-own z xs (λ a b j k. own a b (inr j) (inr k)) i) (λ e. absurd (grind (arith, nat_tests)))
    ] refl

-- What is held is known by its leaves: they are those that the slots hold.
pub known-leaves : MadeWordsReadBack → (f : Form) (values : ℕ → List ℕ) (tags : List ℕ) (leaves : List Leaf) → AreHeld f values tags leaves
    → mapping_of (leaves_under f values tags) ≡ leaves
known-leaves back f values tags leaves h =
    let items : List Leaf = leaves_under f values tags in
    let into : (z : Leaf) → In z items → In z leaves = (λ z i. inside z (under-In f values tags z i)) in
    same-sorted (mapping_of items) leaves (mapping-sorted items) h.sorted
    (λ z i. into z (mapping-In z items i))
    (λ z i. In-own z items (λ x y j k e. same-place x y leaves h.sorted (into x j) (into y k) e)
    (In-under f values tags (leaf_tag (group_of f) z) (slot_of f z.order z.first) z (h.tagged z i) (slot-low f (z.first / pages_of z.order))
    (ap (leaf_in f (leaf_tag (group_of f) z) (slot_of f z.order z.first)) (h.word z i)
    ∙ in-leaf back f (leaf_tag (group_of f) z) (slot_of f z.order z.first) z (h.fit z i) (record { tag_is = refl; slot_is = refl }))))
  where
    inside : (z : Leaf) → IsUnder f values tags z → In z leaves
    inside z u = elim (h.slot u.tag u.slot u.slot_in) [
      | inl e ↦ let bad : Some z ≡ None = sym u.says ∙ ap (leaf_in f u.tag u.slot) e ∙ in-none f u.tag u.slot in absurd (cc)
      | inr r ↦
          let word : word_at f values u.tag u.slot ≡ leaf_word r.0.frame r.0.perm = ap (λ t. word_at f values t u.slot) (sym r.2.tag_is) ∙ ap (word_at f values (leaf_tag (group_of f) r.0)) (sym r.2.slot_is) ∙ h.word r.0 r.1 in
          let s : Some r.0 ≡ Some z = sym (in-leaf back f u.tag u.slot r.0 (h.fit r.0 r.1) r.2) ∙ ap (leaf_in f u.tag u.slot) (sym word) ∙ u.says in
          let e : r.0 ≡ z = cc in
          subst (λ w. In w leaves) e r.1
    ]

-- no more leaves than slots
pub with-short : (x : Leaf) (xs : List Leaf) → length (with_leaf x xs) ≤ suc (length xs)
with-short x [] = omega arith
with-short x (y ∷ ys) =
    let on : length (with_leaf x ys) ≤ suc (length ys) = with-short x ys in
    grind (arith, nat_tests)
