-- What is held after a word is put into a slot, and after a slot is emptied: leaves that come, go, and get another
-- permission.
use Rattle.xl_tagged.proofs.Common.{◌/◌, ◌<◌, ◌==◌, ◌∙◌, ◌≡◌, ◌⊎◌, ap, AreHeld, arith, both, false, Form, group_of, In, In-with, In-without, inl, inr, IsAt, IsFit, IsSorted, IsWritten, Leaf, leaf_key, leaf_tag, leaf_word, List, meets-sym, meets_block, nat_tests, pages_of, Perm, place-meets, refl, same-place, slot_of, sorted-with, sorted-without, stays-with, subst, sym, true, with-In, with_leaf, without-In, without-other, without_leaf, word_at, ℕ}
use Rattle.xl_tagged.proofs.PlaceLemmas.{at-one, place-key, slot-low}

-- a place is this one or another
place-or : (t i tag slot : ℕ) → ((t ≡ tag) × (i ≡ slot)) ⊎ (t ≡ tag → i ≡ slot → ⊥)
place-or t i tag slot =
    elim (t == tag) as (λ b. (t == tag) ≡ b → ((t ≡ tag) × (i ≡ slot)) ⊎ (t ≡ tag → i ≡ slot → ⊥)) [
      | true ↦ λ a. elim (i == slot) as (λ b. (i == slot) ≡ b → ((t ≡ tag) × (i ≡ slot)) ⊎ (t ≡ tag → i ≡ slot → ⊥)) [
        | true ↦ λ c. inl (grind (arith, nat_tests), grind (arith, nat_tests))
        | false ↦ λ c. inr (λ p q. absurd (grind (arith, nat_tests)))
      ] refl
      | false ↦ λ a. inr (λ p q. absurd (grind (arith, nat_tests)))
    ] refl

-- the leaves with one at its place, where another may have been
pub record IsWith (f : Form) (x : Leaf) (old new : List Leaf) : Type 0 where
  pub sorted : IsSorted new
  pub split : (z : Leaf) → In z new → (z ≡ x) ⊎ (In z old × (IsAt f (leaf_tag (group_of f) x) (slot_of f x.order x.first) z → ⊥))
  pub here : In x new
  pub stays : (z : Leaf) → In z old → (IsAt f (leaf_tag (group_of f) x) (slot_of f x.order x.first) z → ⊥) → In z new
  pub apart : (z : Leaf) → In z old → (IsAt f (leaf_tag (group_of f) x) (slot_of f x.order x.first) z → ⊥) → meets_block x.space x.first x.order z ≡ false

-- the tags with one
pub record IsTagWith (tag : ℕ) (old new : List ℕ) : Type 0 where
  pub split : (t : ℕ) → In t new → (t ≡ tag) ⊎ In t old
  pub here : In tag new
  pub stays : (t : ℕ) → In t old → In t new

pub put-held : (f : Form) (values values' : ℕ → List ℕ) (tags tags' : List ℕ) (x : Leaf) (xs ys : List Leaf) → AreHeld f values tags xs → IsFit x
    → IsWritten f values values' (leaf_tag (group_of f) x) (slot_of f x.order x.first) (leaf_word x.frame x.perm) → IsTagWith (leaf_tag (group_of f) x) tags tags' → IsWith f x xs ys
    → AreHeld f values' tags' ys
put-held f values values' tags tags' x xs ys h fit w ts l = record {
  sorted = l.sorted;
  fit = λ z i. elim (l.split z i) [ inl e ↦ subst IsFit (sym e) fit | inr j ↦ h.fit z j.0 ];
  word = λ z i. elim (l.split z i) [
    | inl e ↦ let P : Leaf → Type 0 = λ y. word_at f values' (leaf_tag (group_of f) y) (slot_of f y.order y.first) ≡ leaf_word y.frame y.perm in subst P (sym e) w.here
    | inr j ↦ w.others (leaf_tag (group_of f) z) (slot_of f z.order z.first) (slot-low f (z.first / pages_of z.order)) (λ a b. j.1 (record { tag_is = a; slot_is = b })) ∙ h.word z j.0
  ];
  tagged = λ z i. elim (l.split z i) [
    | inl e ↦ let P : Leaf → Type 0 = λ y. In (leaf_tag (group_of f) y) tags' in subst P (sym e) ts.here
    | inr j ↦ ts.stays (leaf_tag (group_of f) z) (h.tagged z j.0)
  ];
  slot = λ t i low. elim (place-or t i (leaf_tag (group_of f) x) (slot_of f x.order x.first)) [
    | inl e ↦ inr (x, l.here, record { tag_is = sym e.0; slot_is = sym e.1 })
    | inr other ↦ elim (h.slot t i low) [
      | inl e ↦ inl (w.others t i low other ∙ e)
      | inr r ↦ inr (r.0, l.stays r.0 r.1 (λ at. other (sym r.2.tag_is ∙ at.tag_is) (sym r.2.slot_is ∙ at.slot_is)), r.2)
    ]
  ];
  used = λ t i. elim (ts.split t i) [
    | inl e ↦ (x, l.here, sym e)
    | inr j ↦
        let r = h.used t j in
        elim (place-or (leaf_tag (group_of f) r.0) (slot_of f r.0.order r.0.first) (leaf_tag (group_of f) x) (slot_of f x.order x.first)) [
          | inl e ↦ (x, l.here, sym e.0 ∙ r.2)
          | inr other ↦ (r.0, l.stays r.0 r.1 (λ at. other at.tag_is at.slot_is), r.2)
        ]
  ];
  apart = λ y z i j m. elim (l.split y i) [
    | inl e ↦ elim (l.split z j) [
      | inl d ↦ e ∙ sym d
      | inr k ↦ let P : Leaf → Type 0 = λ u. meets_block u.space u.first u.order z ≡ true in absurd (both _ (subst P e m) (l.apart z k.0 k.1))
    ]
    | inr k ↦ elim (l.split z j) [
      | inl d ↦ let P : Leaf → Type 0 = λ u. meets_block y.space y.first y.order u ≡ true in absurd (both _ (subst P d m) (meets-sym x y (l.apart y k.0 k.1)))
      | inr n ↦ h.apart y z k.0 n.0 m
    ]
  ];
}

-- the leaves without the one at a place
pub record IsWithout (f : Form) (tag slot : ℕ) (old new : List Leaf) : Type 0 where
  pub sorted : IsSorted new
  pub split : (z : Leaf) → In z new → In z old × (IsAt f tag slot z → ⊥)
  pub stays : (z : Leaf) → In z old → (IsAt f tag slot z → ⊥) → In z new

-- the tags with one only where a slot under it is used
pub record IsTagWithout (f : Form) (values : ℕ → List ℕ) (tag : ℕ) (old new : List ℕ) : Type 0 where
  pub out : (t : ℕ) → In t new → In t old
  pub stays : (t : ℕ) → In t old → (t ≡ tag → ⊥) → In t new
  pub used : In tag new → (i : ℕ) × (i < group_of f) × (word_at f values tag i ≡ 0 → ⊥)
  pub kept : (i : ℕ) → i < group_of f → (word_at f values tag i ≡ 0 → ⊥) → In tag old → In tag new

pub take-held : (f : Form) (values values' : ℕ → List ℕ) (tags tags' : List ℕ) (tag slot : ℕ) (xs ys : List Leaf) → AreHeld f values tags xs
    → ((x : Leaf) → In x xs → leaf_word x.frame x.perm ≡ 0 → ⊥)
    → IsWritten f values values' tag slot 0 → IsTagWithout f values' tag tags tags' → IsWithout f tag slot xs ys → AreHeld f values' tags' ys
take-held f values values' tags tags' tag slot xs ys h some w ts l = record {
  sorted = l.sorted;
  fit = λ z i. h.fit z (l.split z i).0;
  word = word;
  tagged = λ z i.
      let j = l.split z i in
      let t : ℕ = leaf_tag (group_of f) z in
      elim (t == tag) as (λ b. (t == tag) ≡ b → In t tags') [
        | true ↦ λ k.
            let same : t ≡ tag = grind (arith, nat_tests) in
            let used : word_at f values' tag (slot_of f z.order z.first) ≡ 0 → ⊥ = (λ e. some z j.0 (sym (word z i) ∙ ap (λ n. word_at f values' n (slot_of f z.order z.first)) same ∙ e)) in
            subst (λ (n : ℕ). In n tags') (sym same) (ts.kept (slot_of f z.order z.first) (slot-low f (z.first / pages_of z.order)) used (subst (λ (n : ℕ). In n tags) same (h.tagged z j.0)))
        | false ↦ λ k. ts.stays t (h.tagged z j.0) (λ e. absurd (grind (arith, nat_tests)))
      ] refl;
  slot = slots;
  used = λ t i.
      elim (t == tag) as (λ b. (t == tag) ≡ b → (x : Leaf) × In x ys × (leaf_tag (group_of f) x ≡ t)) [
        | true ↦ λ k.
            let same : t ≡ tag = grind (arith, nat_tests) in
            let u = ts.used (subst (λ (n : ℕ). In n tags') same i) in
            elim (slots tag u.0 u.1) [
              | inl e ↦ absurd (u.2 e)
              | inr r ↦ (r.0, r.1, r.2.tag_is ∙ sym same)
            ]
        | false ↦ λ k.
            let r = h.used t (ts.out t i) in
            (r.0, l.stays r.0 r.1 (λ at. let e : t ≡ tag = sym r.2 ∙ at.tag_is in absurd (grind (arith, nat_tests))), r.2)
      ] refl;
  apart = λ y z i j m. h.apart y z (l.split y i).0 (l.split z j).0 m;
}
  where
    word : (z : Leaf) → In z ys → word_at f values' (leaf_tag (group_of f) z) (slot_of f z.order z.first) ≡ leaf_word z.frame z.perm
    word z i =
        let j = l.split z i in
        w.others (leaf_tag (group_of f) z) (slot_of f z.order z.first) (slot-low f (z.first / pages_of z.order)) (λ a b. j.1 (record { tag_is = a; slot_is = b })) ∙ h.word z j.0

    slots : (t i : ℕ) → i < group_of f → (word_at f values' t i ≡ 0) ⊎ ((x : Leaf) × In x ys × IsAt f t i x)
    slots t i low = elim (place-or t i tag slot) [
      | inl e ↦ inl (ap (λ n. word_at f values' n i) e.0 ∙ ap (word_at f values' tag) e.1 ∙ w.here)
      | inr other ↦ elim (h.slot t i low) [
        | inl e ↦ inl (w.others t i low other ∙ e)
        | inr r ↦ inr (r.0, l.stays r.0 r.1 (λ at. other (sym r.2.tag_is ∙ at.tag_is) (sym r.2.slot_is ∙ at.slot_is)), r.2)
      ]
    ]

-- a leaf of the same place has the same key
at-key : (f : Form) (tag i : ℕ) (x y : Leaf) → IsFit x → IsFit y → IsAt f tag i x → IsAt f tag i y → leaf_key x ≡ leaf_key y
at-key f tag i x y a b p q = place-key x y (at-one f tag i x y a.aligned b.aligned p q)

-- a leaf that comes where none overlaps it
pub with-new : (f : Form) (values : ℕ → List ℕ) (tags : List ℕ) (x : Leaf) (xs : List Leaf) → AreHeld f values tags xs → IsFit x
    → ((y : Leaf) → In y xs → meets_block x.space x.first x.order y ≡ false) → IsWith f x xs (with_leaf x xs)
with-new f values tags x xs h fit free = record {
  sorted = sorted-with x xs h.sorted;
  split = λ z i. elim (with-In z x xs i) [
    | inl e ↦ inl e
    | inr j ↦ inr (j, λ at. key z j (at-key f (leaf_tag (group_of f) x) (slot_of f x.order x.first) z x (h.fit z j) fit at (record { tag_is = refl; slot_is = refl })))
  ];
  here = In-with x xs;
  stays = λ z i other. stays-with z x xs i (key z i);
  apart = λ z i other. free z i;
}
  where
    key : (z : Leaf) → In z xs → leaf_key z ≡ leaf_key x → ⊥
    key z i e = both _ (place-meets x z fit.aligned.placed (h.fit z i).aligned.placed e) (free z i)

pub new-keys : (f : Form) (values : ℕ → List ℕ) (tags : List ℕ) (x : Leaf) (xs : List Leaf) → AreHeld f values tags xs → IsFit x
    → ((y : Leaf) → In y xs → meets_block x.space x.first x.order y ≡ false) → (z : Leaf) → In z xs → leaf_key z ≡ leaf_key x → ⊥
new-keys f values tags x xs h fit free z i e = both _ (place-meets x z fit.aligned.placed (h.fit z i).aligned.placed e) (free z i)

-- a leaf that goes
pub without-old : (f : Form) (values : ℕ → List ℕ) (tags : List ℕ) (x : Leaf) (xs : List Leaf) → AreHeld f values tags xs → In x xs
    → IsWithout f (leaf_tag (group_of f) x) (slot_of f x.order x.first) xs (without_leaf x.space x.first xs)
without-old f values tags x xs h there = record {
  sorted = sorted-without x.space x.first xs h.sorted;
  split = λ z i.
      let j : In z xs = without-In z x.space x.first xs i in
      (j, λ at. without-other z x.space x.first xs i (at-key f (leaf_tag (group_of f) x) (slot_of f x.order x.first) z x (h.fit z j) (h.fit x there) at (record { tag_is = refl; slot_is = refl })));
  stays = λ z i other. In-without z x.space x.first xs i (λ e.
      let same : z ≡ x = same-place z x xs h.sorted i there e in
      other (subst (λ (y : Leaf). IsAt f (leaf_tag (group_of f) x) (slot_of f x.order x.first) y) (sym same) (record { tag_is = refl; slot_is = refl })));
}

-- a leaf with another permission
pub with-given : (f : Form) (values : ℕ → List ℕ) (tags : List ℕ) (perm : Perm) (x : Leaf) (xs : List Leaf) → AreHeld f values tags xs → In x xs
    → IsWith f (record x { perm = perm }) xs (with_leaf (record x { perm = perm }) (without_leaf x.space x.first xs))
with-given f values tags perm x xs h there =
    let y : Leaf = record x { perm = perm } in
    let rest : List Leaf = without_leaf x.space x.first xs in
    let w : IsWithout f (leaf_tag (group_of f) x) (slot_of f x.order x.first) xs rest = without-old f values tags x xs h there in
    record {
      sorted = sorted-with y rest w.sorted;
      split = λ z i. elim (with-In z y rest i) [ inl e ↦ inl e | inr j ↦ inr (w.split z j) ];
      here = In-with y rest;
      stays = λ z i other. stays-with z y rest (w.stays z i other) (without-other z x.space x.first xs (w.stays z i other));
      apart = λ z i other. alone z i other (meets_block x.space x.first x.order z) refl;
    }
  where
    alone : (z : Leaf) → In z xs → (IsAt f (leaf_tag (group_of f) x) (slot_of f x.order x.first) z → ⊥) → (b : _) → meets_block x.space x.first x.order z ≡ b → b ≡ false
    alone z i other false e = refl
    alone z i other true e =
        let same : x ≡ z = h.apart x z there i e in
        absurd (other (subst (λ (y : Leaf). IsAt f (leaf_tag (group_of f) x) (slot_of f x.order x.first) y) same (record { tag_is = refl; slot_is = refl })))
