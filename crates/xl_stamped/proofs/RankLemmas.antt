-- Stamps numbered anew by their ranks keep their order.
use Rattle.xl_stamped.proofs.Common.{◌++◌, ◌+◌, ◌-◌, ◌<◌, ◌∙◌, ◌∷◌, ◌≡◌, ◌≤◌, ◌⊎◌, [], ap, Apart, AreStamps, arith, by_stamp, cases_eq, cases_lt, cond, drop, Each, get_or, get_or-append_right, get_or-drop, get_or_default, inl, inr, Item, item_of, le-leb, le-ltb, leb, length, length-append, length-drop, length-map, length-take, List, lt-leb, lt-ltb, ltb, map, newest_first, Place, rank_of, refl, renumbered, set, sym, take, with_place, zero-add, ℕ}
use Rattle.std.proofs.lemmas.List.Edits.{map_over_more}
use Rattle.std.proofs.lemmas.List.Sums.{sum_by-cons}
use Rattle.xl_stamped.proofs.OrderLemmas.{each_by_stamp, each_mono, In}

rank_skip : (y : Place) (ys : List Place) (s : ℕ) → s < y.stamp → rank_of (y ∷ ys) s ≡ rank_of ys s
rank_skip y ys s l = sum_by-cons (λ (x : Place). cond (leb x.stamp s) 1 0) y ys ∙ rw (lt-leb y.stamp s l) (zero-add (rank_of ys s))

rank_count : (y : Place) (ys : List Place) (s : ℕ) → y.stamp ≤ s → rank_of (y ∷ ys) s ≡ 1 + rank_of ys s
rank_count y ys s l = sum_by-cons (λ (x : Place). cond (leb x.stamp s) 1 0) y ys ∙ rw (le-leb y.stamp s l) refl

rank_most : (all : List Place) (s : ℕ) → rank_of all s ≤ length all
rank_most [] s = omega arith
rank_most (y ∷ ys) s =
    elim (cases_lt s y.stamp) [
      | inl l ↦ omega (arith, rank_skip y ys s l, rank_most ys s)
      | inr g ↦ omega (arith, rank_count y ys s g, rank_most ys s)
    ]

rank_mono : (all : List Place) (s t : ℕ) → s ≤ t → rank_of all s ≤ rank_of all t
rank_mono [] s t l = omega arith
rank_mono (y ∷ ys) s t l =
    elim (cases_lt s y.stamp) [
      | inl a ↦ elim (cases_lt t y.stamp) [
        | inl b ↦ omega (arith, rank_skip y ys s a, rank_skip y ys t b, rank_mono ys s t l)
        | inr b ↦ omega (arith, rank_skip y ys s a, rank_count y ys t b, rank_mono ys s t l)
      ]
      | inr a ↦ omega (arith, rank_count y ys s a, rank_count y ys t (omega arith), rank_mono ys s t l)
    ]

rank_less : (all : List Place) (b : Place) (s : ℕ) → In b all → s < b.stamp → rank_of all s < rank_of all b.stamp
unfolding In
rank_less [] b s i l = absurd i
rank_less (y ∷ ys) b s (inl e) l =
    let h : y.stamp ≡ b.stamp = ap (λ (z : Place). z.stamp) e in
    omega (arith, rank_skip y ys s (omega arith), rank_count y ys b.stamp (omega arith), rank_mono ys s b.stamp (omega arith))
rank_less (y ∷ ys) b s (inr j) l =
    elim (cases_lt s y.stamp) [
      | inl a ↦ elim (cases_lt b.stamp y.stamp) [
        | inl c ↦ omega (arith, rank_skip y ys s a, rank_skip y ys b.stamp c, rank_less ys b s j l)
        | inr c ↦ omega (arith, rank_skip y ys s a, rank_count y ys b.stamp c, rank_less ys b s j l)
      ]
      | inr a ↦ omega (arith, rank_count y ys s a, rank_count y ys b.stamp (omega arith), rank_less ys b s j l)
    ]

-- each is a member of the whole
each_member : (xs : List Place) → Each (λ x. In x xs) xs
unfolding Each In
each_member [] = tt
each_member (x ∷ xs) = (inl refl, each_mono (λ y. In y xs) (λ y. (x ≡ y) ⊎ In y xs) xs (λ y i. inr i) (each_member xs))

-- two members keep their order
same_order : (all : List Place) (x y : Place) → In x all → In y all → ltb (rank_of all y.stamp) (rank_of all x.stamp) ≡ ltb y.stamp x.stamp
same_order all x y i j =
    elim (cases_lt y.stamp x.stamp) [
      | inl l ↦ lt-ltb _ _ (rank_less all x y.stamp i l) ∙ sym (lt-ltb _ _ l)
      | inr g ↦ le-ltb _ _ (rank_mono all x.stamp y.stamp g) ∙ sym (le-ltb _ _ g)
    ]

with_renumbered : (all : List Place) (x : Place) (ys : List Place) → In x all → Each (λ y. In y all) ys
    → with_place (renumbered all x) (map (renumbered all) ys) ≡ map (renumbered all) (with_place x ys)
unfolding with_place Each
with_renumbered all x [] i e = refl
with_renumbered all x (y ∷ ys) i e =
    let s : ltb (rank_of all y.stamp) (rank_of all x.stamp) ≡ ltb y.stamp x.stamp = same_order all x y i e.0 in
    rw s (elim (cases_lt y.stamp x.stamp) [
      | inl l ↦ rw (lt-ltb _ _ l) refl
      | inr g ↦ rw (le-ltb _ _ g) (ap (λ (zs : List Place). renumbered all y ∷ zs) (with_renumbered all x ys i e.1))
    ])

by_stamp_renumbered : (all xs : List Place) → Each (λ y. In y all) xs → by_stamp (map (renumbered all) xs) ≡ map (renumbered all) (by_stamp xs)
unfolding by_stamp Each
by_stamp_renumbered all [] e = refl
by_stamp_renumbered all (x ∷ xs) e =
    ap (with_place (renumbered all x)) (by_stamp_renumbered all xs e.1)
    ∙ with_renumbered all x (by_stamp xs) e.0 (each_by_stamp (λ y. In y all) xs e.1)

items_renumbered : (all xs : List Place) → map item_of (map (renumbered all) xs) ≡ map item_of xs
items_renumbered all [] = refl
items_renumbered all (x ∷ xs) = ap (λ (ys : List Item). x.item ∷ ys) (items_renumbered all xs)

pub renumbered_same : (xs : List Place) → newest_first (map (renumbered xs) xs) ≡ newest_first xs
unfolding newest_first
renumbered_same xs = ap (map item_of) (by_stamp_renumbered xs xs (each_member xs)) ∙ items_renumbered xs (by_stamp xs)

each_renumbered : (all : List Place) (P : Place → Type 0) (xs : List Place) → Each (λ y. P (renumbered all y)) xs → Each P (map (renumbered all) xs)
unfolding Each
each_renumbered all P [] e = tt
each_renumbered all P (x ∷ xs) e = (e.0, each_renumbered all P xs e.1)

given_renumbered : (all xs : List Place) → Each (λ y. y.stamp ≤ length all) (map (renumbered all) xs)
unfolding Each
given_renumbered all [] = tt
given_renumbered all (x ∷ xs) = (rank_most all x.stamp, given_renumbered all xs)

each_both : (P Q R : Place → Type 0) (xs : List Place) → ((x : Place) → P x → Q x → R x) → Each P xs → Each Q xs → Each R xs
unfolding Each
each_both P Q R [] f p q = tt
each_both P Q R (x ∷ xs) f p q = (f x p.0 q.0, each_both P Q R xs f p.1 q.1)

rank_apart : (all : List Place) (x y : Place) → In x all → In y all → (y.stamp ≡ x.stamp → ⊥) → rank_of all y.stamp ≡ rank_of all x.stamp → ⊥
rank_apart all x y i j n e =
    elim (cases_lt y.stamp x.stamp) [
      | inl l ↦ omega (arith, rank_less all x y.stamp i l)
      | inr g ↦ elim (cases_eq y.stamp x.stamp) [
        | inl s ↦ n s
        | inr d ↦ omega (arith, rank_less all y x.stamp j (omega arith))
      ]
    ]

apart_renumbered : (all xs : List Place) → Each (λ y. In y all) xs → Apart xs → Apart (map (renumbered all) xs)
unfolding Each Apart
apart_renumbered all [] e a = tt
apart_renumbered all (x ∷ xs) e a = (
  each_renumbered all (λ y. y.stamp ≡ rank_of all x.stamp → ⊥) xs
      (each_both (λ y. In y all) (λ y. y.stamp ≡ x.stamp → ⊥) (λ y. rank_of all y.stamp ≡ rank_of all x.stamp → ⊥) xs
      (λ y i n. rank_apart all x y e.0 i n) e.1 a.0),
  apart_renumbered all xs e.1 a.1,
)

pub stamps_renumbered : (xs : List Place) (last : ℕ) → AreStamps last xs → AreStamps (length xs) (map (renumbered xs) xs)
stamps_renumbered xs last a = record { given = given_renumbered xs xs; apart = apart_renumbered xs xs (each_member xs) a.apart }

-- one more place is numbered anew
pub renumbered_more : (xs ys : List Place) (i : ℕ) (d : Place) (rank : ℕ) → i < length xs
    → ys ≡ map (renumbered xs) (take i xs) ++ drop i xs → rank ≡ rank_of xs (get_or xs i d).stamp
    → set ys i (record { stamp = rank; item = (get_or ys i d).item }) ≡ map (renumbered xs) (take (i + 1) xs) ++ drop (i + 1) xs
renumbered_more xs ys i d rank l e r =
    let n : length (map (renumbered xs) (take i xs)) ≡ i = omega (arith, length-map (take i xs) (renumbered xs), length-take i xs) in
    let same : get_or ys i d ≡ get_or xs i d =
    ap (λ (zs : List Place). get_or zs i d) e
    ∙ get_or-append_right (map (renumbered xs) (take i xs)) (drop i xs) i i d n (omega arith)
    ∙ get_or-drop i xs (i - i) d ∙ ap (λ (k : ℕ). get_or xs k d) (omega arith) in
    let is : ◌≡◌ {A = Place} (record { stamp = rank; item = (get_or ys i d).item }) (renumbered xs (get_or ys i d)) =
    place_same rank _ (get_or ys i d).item (r ∙ ap (λ (p : Place). rank_of xs p.stamp) (sym same)) in
    ap (λ (p : Place). set ys i p) is
    ∙ map_over_more (renumbered xs) xs ys i (get_or ys i d) l e
    (get_or_default ys i d (get_or ys i d) (omega (arith, ap length e, length-append (map (renumbered xs) (take i xs)) (drop i xs), length-drop i xs)))
  where
    place_same : (a b : ℕ) (x : Item) → a ≡ b → ◌≡◌ {A = Place} (record { stamp = a; item = x }) (record { stamp = b; item = x })
    place_same a b x e = ap (λ (k : ℕ). record { stamp = k; item = x }) e
