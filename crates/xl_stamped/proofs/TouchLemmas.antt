-- What a new greatest stamp does to the list, and which places are the newest that passes a test
-- and the oldest.
use Rattle.xl_stamped.proofs.Common.{◌++◌, ◌+◌, ◌-◌, ◌<◌, ◌∙◌, ◌∷◌, ◌≡◌, ◌≤◌, ◌⊎◌, [], ap, Apart, append_assoc, AreStamps, arith, Bool, by_stamp, drop, drop-set-lt, drop_all, drop_at, drop_more, Each, eq-eqb, eqb, false, filter, find, get_or, get_or_default, inl, inr, IsNewest, IsTest, Item, item_of, le-ltb, length, length-append, length-map, length-take, List, map, map-append, ne_eqb, newest_first, None, NoneMeets, not, Place, purged, refl, set, Some, suc, sym, take, take_all, take_at, take_more_set, touched, true, with_newest, with_place, without_first, zero, ℕ}
use Rattle.xl_recency.proofs.ScanLemmas.{find_none, without_none}
use Rattle.xl_stamped.proofs.OrderLemmas.{by_stamp-filter, each_all, each_at, each_by_stamp, each_in, each_mono, each_push, each_set, filter_all, filter_with, filter_without, In, in_at, in_by_stamp, length-by_stamp, map-filter, Sorted, sorted, with_greatest}

-- whether a place has another stamp
abbrev pub is_other : ℕ → Place → Bool
is_other s p = not (eqb p.stamp s)

abbrev pub without_stamp : ℕ → List Place → List Place
without_stamp s xs = filter (is_other s) xs

other : (s : ℕ) (p : Place) → (p.stamp ≡ s → ⊥) → is_other s p ≡ true
other s p n = ap not (ne_eqb p.stamp s n)

not_other : (s : ℕ) (p : Place) → p.stamp ≡ s → is_other s p ≡ false
not_other s p e = ap not (eq-eqb p.stamp s e)

past_greatest : (x new : Place) (ys : List Place) → x.stamp < new.stamp → with_place x (new ∷ ys) ≡ new ∷ with_place x ys
unfolding with_place
past_greatest x new ys l = rw (le-ltb new.stamp x.stamp (omega arith)) refl

-- the place at i gets a stamp above all
pub raised : (xs : List Place) (i s : ℕ) (d new : Place) → i < length xs → Apart xs → (get_or xs i d).stamp ≡ s
    → Each (λ z. z.stamp < new.stamp) xs → by_stamp (set xs i new) ≡ new ∷ without_stamp s (by_stamp xs)
unfolding by_stamp Apart Each
raised [] i s d new l a e f = absurd (omega arith)
raised (x ∷ xs) zero s d new l a e f =
    with_greatest new (by_stamp xs) (each_by_stamp (λ z. z.stamp < new.stamp) xs f.1)
    ∙ ap (λ (ys : List Place). new ∷ ys)
    (sym (filter_without (is_other s) x (by_stamp xs) (not_other s x e)
    ∙ filter_all (is_other s) (by_stamp xs)
    (each_mono (λ z. z.stamp ≡ x.stamp → ⊥) (λ z. is_other s z ≡ true) (by_stamp xs)
    (λ z n. other s z (λ (m : z.stamp ≡ s). n (m ∙ sym e))) (each_by_stamp (λ z. z.stamp ≡ x.stamp → ⊥) xs a.0))))
raised (x ∷ xs) (suc i) s d new l a e f =
    let n : x.stamp ≡ s → ⊥ = λ (m : x.stamp ≡ s). each_at (λ z. z.stamp ≡ x.stamp → ⊥) xs i d (omega arith) a.0 (e ∙ sym m) in
    ap (with_place x) (raised xs i s d new (omega arith) a.1 e f.1)
    ∙ past_greatest x new (without_stamp s (by_stamp xs)) f.0
    ∙ ap (λ (ys : List Place). new ∷ ys) (sym (filter_with (is_other s) x (by_stamp xs) (sorted xs a.1) (other s x n)))

-- a place with a stamp above all comes at the end
pub pushed : (xs : List Place) (new : Place) → Each (λ z. z.stamp < new.stamp) xs → by_stamp (xs ++ new ∷ []) ≡ new ∷ by_stamp xs
unfolding by_stamp Each
pushed [] new f = with_greatest new [] tt
pushed (x ∷ xs) new f = ap (with_place x) (pushed xs new f.1) ∙ past_greatest x new (by_stamp xs) f.0

-- ---- the newest that passes a test

first_is : (q : Item → Bool) (s : ℕ) (p : Place) (xs : List Place) → Sorted xs → In p xs → p.stamp ≡ s → q p.item ≡ true
    → Each (λ y. (q y.item ≡ false) ⊎ (y.stamp ≤ s)) xs
    → (find q (map item_of xs) ≡ Some p.item) × (without_first q (map item_of xs) ≡ map item_of (without_stamp s xs))
unfolding Sorted In Each
first_is q s p [] o i e t n = absurd i
first_is q s p (y ∷ ys) o (inl h) e t n =
    let ty : q y.item ≡ true = ap (λ (z : Place). q z.item) h ∙ t in
    let ey : y.stamp ≡ s = ap (λ (z : Place). z.stamp) h ∙ e in
    let rest : filter (is_other s) ys ≡ ys =
    filter_all (is_other s) ys (each_mono (λ z. z.stamp < y.stamp) (λ z. is_other s z ≡ true) ys (λ z m. other s z (λ (w : z.stamp ≡ s). omega arith)) o.0) in
    (rw ty (ap (λ (z : Place). Some z.item) h), rw (ty, not_other s y ey) (ap (map item_of) (sym rest)))
first_is q s p (y ∷ ys) o (inr j) e t n =
    let above : s < y.stamp = omega (arith, each_in (λ z. z.stamp < y.stamp) p ys j o.0) in
    let fy : q y.item ≡ false = elim n.0 [ inl f ↦ f | inr le ↦ absurd (omega arith) ] in
    let r = first_is q s p ys o.1 j e t n.1 in
    (rw fy r.0, rw (fy, other s y (λ (w : y.stamp ≡ s). omega arith)) (ap (λ (zs : List Item). y.item ∷ zs) r.1))

-- the newest gets a new greatest stamp
pub touch_places : (answers : Item → Bool → Type 0) (q : Item → Bool) (test : IsTest answers q) (xs : List Place) (i last : ℕ) (d new : Place)
    → i < length xs → AreStamps last xs → IsNewest answers xs (length xs) i → last < new.stamp → new.item ≡ (get_or xs i d).item
    → (Some new.item ≡ find q (newest_first xs)) × (newest_first (set xs i new) ≡ touched q (newest_first xs))
unfolding newest_first
touch_places answers q test xs i last d new l a w g e =
    let p : Place = get_or xs i d in
    let t : q p.item ≡ true = sym (test.same _ _ (w.meets d)) in
    let n : Each (λ y. (q y.item ≡ false) ⊎ (y.stamp ≤ p.stamp)) xs =
    each_all (λ y. (q y.item ≡ false) ⊎ (y.stamp ≤ p.stamp)) xs
    (λ k z m. either (get_or xs k z) z (w.newest k z m)) in
    let f = first_is q p.stamp p (by_stamp xs) (sorted xs a.apart) (in_by_stamp p xs (in_at xs i d l)) refl t
    (each_by_stamp (λ y. (q y.item ≡ false) ⊎ (y.stamp ≤ p.stamp)) xs n) in
    let found : Some new.item ≡ find q (map item_of (by_stamp xs)) = ap (λ (x : Item). Some x) e ∙ sym f.0 in
    let r : by_stamp (set xs i new) ≡ new ∷ without_stamp p.stamp (by_stamp xs) =
    raised xs i p.stamp d new l a.apart refl (each_mono (λ z. z.stamp ≤ last) (λ z. z.stamp < new.stamp) xs (λ z m. omega arith) a.given) in
    (found, ap (map item_of) r ∙ rw (sym found, f.1) refl)
  where
    ap_le : (a b y : Place) → a ≡ b → y.stamp ≤ a.stamp → y.stamp ≤ b.stamp
    ap_le a b y s h = rw s at h

    either : (y z : Place) → answers y.item false ⊎ (y.stamp ≤ (get_or xs i z).stamp) → (q y.item ≡ false) ⊎ (y.stamp ≤ (get_or xs i d).stamp)
    either y z (inl h) = inl (sym (test.same _ _ h))
    either y z (inr h) = inr (ap_le _ _ y (get_or_default xs i z d l) h)

pub touch_none : (answers : Item → Bool → Type 0) (q : Item → Bool) (test : IsTest answers q) (xs : List Place) → NoneMeets answers xs
    → (None ≡ find q (newest_first xs)) × (newest_first xs ≡ touched q (newest_first xs))
unfolding newest_first Each
touch_none answers q test xs n =
    let f : Each (λ y. q y.item ≡ false) (by_stamp xs) =
    each_by_stamp (λ y. q y.item ≡ false) xs (each_all (λ y. q y.item ≡ false) xs (λ k d l. sym (test.same _ _ (n.fails k d l)))) in
    let a : find q (map item_of (by_stamp xs)) ≡ None = none_find (by_stamp xs) f in
    (sym a, rw a (sym (none_without (by_stamp xs) f)))
  where
    fails : (ys : List Place) → Each (λ y. q y.item ≡ false) ys → (k : ℕ) (d : Item) → k < length (map item_of ys) → q (get_or (map item_of ys) k d) ≡ false
    fails [] e k d l = absurd (omega arith)
    fails (y ∷ ys) e zero d l = e.0
    fails (y ∷ ys) e (suc k) d l = fails ys e.1 k d (omega arith)

    none_find : (ys : List Place) → Each (λ y. q y.item ≡ false) ys → find q (map item_of ys) ≡ None
    none_find ys e = find_none q (map item_of ys) (fails ys e)

    none_without : (ys : List Place) → Each (λ y. q y.item ≡ false) ys → without_first q (map item_of ys) ≡ map item_of ys
    none_without ys e = without_none q (map item_of ys) (fails ys e)

-- ---- the oldest

last_is : (s : ℕ) (p : Place) (xs : List Place) → Sorted xs → In p xs → p.stamp ≡ s → Each (λ y. s ≤ y.stamp) xs
    → xs ≡ without_stamp s xs ++ p ∷ []
unfolding Sorted In Each
last_is s p [] o i e n = absurd i
last_is s p (y ∷ []) o (inl h) e n =
    rw (not_other s y (ap (λ (z : Place). z.stamp) h ∙ e)) (ap (λ (z : Place). z ∷ []) h)
last_is s p (y ∷ (z ∷ zs)) o (inl h) e n = let ey : y.stamp ≡ s = ap (λ (z : Place). z.stamp) h ∙ e in absurd (omega (arith, o.0.0, n.1.0))
last_is s p (y ∷ ys) o (inr j) e n =
    let above : s < y.stamp = omega (arith, each_in (λ z. z.stamp < y.stamp) p ys j o.0) in
    rw (other s y (λ (w : y.stamp ≡ s). omega arith)) (ap (λ (zs : List Place). y ∷ zs) (last_is s p ys o.1 j e n.1))

-- the oldest gives way to an item with a new greatest stamp
pub fill_full : (xs : List Place) (i last : ℕ) (d new : Place) → i < length xs → AreStamps last xs → last < new.stamp
    → ((k : ℕ) (z : Place) → k < length xs → (get_or xs i z).stamp ≤ (get_or xs k z).stamp)
    → (newest_first (set xs i new) ≡ with_newest (length xs) new.item (newest_first xs))
    × ((get_or xs i d).item ∷ [] ≡ drop (length xs) (new.item ∷ newest_first xs))
unfolding newest_first
fill_full xs i last d new l a g n =
    let p : Place = get_or xs i d in
    let least : Each (λ y. p.stamp ≤ y.stamp) xs = each_all (λ y. p.stamp ≤ y.stamp) xs (λ k z m. le z (get_or xs k z) (n k z m)) in
    let f : by_stamp xs ≡ without_stamp p.stamp (by_stamp xs) ++ p ∷ [] =
    last_is p.stamp p (by_stamp xs) (sorted xs a.apart) (in_by_stamp p xs (in_at xs i d l)) refl (each_by_stamp (λ y. p.stamp ≤ y.stamp) xs least) in
    let r : by_stamp (set xs i new) ≡ new ∷ without_stamp p.stamp (by_stamp xs) =
    raised xs i p.stamp d new l a.apart refl (each_mono (λ z. z.stamp ≤ last) (λ z. z.stamp < new.stamp) xs (λ z m. omega arith) a.given) in
    let front : List Item = new.item ∷ map item_of (without_stamp p.stamp (by_stamp xs)) in
    let whole : new.item ∷ map item_of (by_stamp xs) ≡ front ++ p.item ∷ [] =
    ap (λ (ys : List Place). new.item ∷ map item_of ys) f
    ∙ ap (λ (ys : List Item). new.item ∷ ys) (map-append item_of (without_stamp p.stamp (by_stamp xs)) (p ∷ [])) in
    let long : length front ≡ length xs =
    omega (arith, length-map (without_stamp p.stamp (by_stamp xs)) item_of, ap length f, length-append (without_stamp p.stamp (by_stamp xs)) (p ∷ []), length-by_stamp xs) in (
      ap (map item_of) r ∙ sym (ap (take (length xs)) whole ∙ take_at front (p.item ∷ []) (length xs) long),
      sym (ap (drop (length xs)) whole ∙ drop_at front (p.item ∷ []) (length xs) long),
    )
  where
    le : (z y : Place) → (get_or xs i z).stamp ≤ y.stamp → (get_or xs i d).stamp ≤ y.stamp
    le z y h = let s : get_or xs i z ≡ get_or xs i d = get_or_default xs i z d l in rw s at h

-- a place is free
pub fill_free : (xs : List Place) (last width : ℕ) (new : Place) → AreStamps last xs → last < new.stamp → length xs < width
    → (newest_first (xs ++ new ∷ []) ≡ with_newest width new.item (newest_first xs)) × ([] ≡ drop width (new.item ∷ newest_first xs))
unfolding newest_first
fill_free xs last width new a g l =
    let e : by_stamp (xs ++ new ∷ []) ≡ new ∷ by_stamp xs =
    pushed xs new (each_mono (λ z. z.stamp ≤ last) (λ z. z.stamp < new.stamp) xs (λ z m. omega arith) a.given) in
    let n : length (new.item ∷ map item_of (by_stamp xs)) ≤ width = omega (arith, length-map (by_stamp xs) item_of, length-by_stamp xs) in
    (ap (map item_of) e ∙ sym (take_all width (new.item ∷ map item_of (by_stamp xs)) n), sym (drop_all width (new.item ∷ map item_of (by_stamp xs)) n))

-- ---- the stamps stay apart

apart_set : (xs : List Place) (i last : ℕ) (new : Place) → Each (λ y. y.stamp ≤ last) xs → last < new.stamp → Apart xs → Apart (set xs i new)
unfolding Each Apart
apart_set [] i last new g l a = tt
apart_set (x ∷ xs) zero last new g l a = (each_mono (λ y. y.stamp ≤ last) (λ y. y.stamp ≡ new.stamp → ⊥) xs (λ y m (e : y.stamp ≡ new.stamp). omega arith) g.1, a.1)
apart_set (x ∷ xs) (suc i) last new g l a =
    (each_set (λ y. y.stamp ≡ x.stamp → ⊥) xs i new (λ (e : new.stamp ≡ x.stamp). omega (arith, g.0)) a.0, apart_set xs i last new g.1 l a.1)

apart_push : (xs : List Place) (last : ℕ) (new : Place) → Each (λ y. y.stamp ≤ last) xs → last < new.stamp → Apart xs → Apart (xs ++ new ∷ [])
unfolding Each Apart
apart_push [] last new g l a = (tt, tt)
apart_push (x ∷ xs) last new g l a =
    (each_push (λ y. y.stamp ≡ x.stamp → ⊥) xs new (λ (e : new.stamp ≡ x.stamp). omega (arith, g.0)) a.0, apart_push xs last new g.1 l a.1)

pub stamps_set : (xs : List Place) (i last : ℕ) (new : Place) → AreStamps last xs → last < new.stamp → AreStamps new.stamp (set xs i new)
stamps_set xs i last new a l = record {
  given = each_set (λ y. y.stamp ≤ new.stamp) xs i new (omega arith) (each_mono (λ y. y.stamp ≤ last) (λ y. y.stamp ≤ new.stamp) xs (λ y m. omega arith) a.given);
  apart = apart_set xs i last new a.given l a.apart;
}

pub stamps_push : (xs : List Place) (last : ℕ) (new : Place) → AreStamps last xs → last < new.stamp → AreStamps new.stamp (xs ++ new ∷ [])
stamps_push xs last new a l = record {
  given = each_push (λ y. y.stamp ≤ new.stamp) xs new (omega arith) (each_mono (λ y. y.stamp ≤ last) (λ y. y.stamp ≤ new.stamp) xs (λ y m. omega arith) a.given);
  apart = apart_push xs last new a.given l a.apart;
}

-- ---- the steps of the list

abbrev pub no_place : Place
no_place = record { stamp = 0; item = record { tag = 0; word = 0 } }

abbrev pub stamped_at : ℕ → Item → Place
stamped_at last item = record { stamp = last + 1; item = item }

pub touch_step : (answers : Item → Bool → Type 0) (q : Item → Bool) (test : IsTest answers q) (old xs : List Place) (i last : ℕ)
    → i < length xs → AreStamps last xs → IsNewest answers xs (length xs) i → newest_first xs ≡ newest_first old
    → (Some (get_or xs i no_place).item ≡ find q (newest_first old))
    × (newest_first (set xs i (stamped_at last (get_or xs i no_place).item)) ≡ touched q (newest_first old))
touch_step answers q test old xs i last l a w e =
    let t = touch_places answers q test xs i last no_place (stamped_at last (get_or xs i no_place).item) l a w (omega arith) refl in
    (t.0 ∙ ap (find q) e, t.1 ∙ ap (touched q) e)

pub full_step : (old xs : List Place) (i last : ℕ) (item : Item) → i < length xs → length xs ≡ length old → AreStamps last xs
    → ((k : ℕ) (z : Place) → k < length xs → (get_or xs i z).stamp ≤ (get_or xs k z).stamp) → newest_first xs ≡ newest_first old
    → (newest_first (set xs i (stamped_at last item)) ≡ with_newest (length old) item (newest_first old))
    × ((get_or xs i no_place).item ∷ [] ≡ drop (length old) (item ∷ newest_first old))
full_step old xs i last item l n a least e =
    let f = fill_full xs i last no_place (stamped_at last item) l a (omega arith) least in (
      f.0 ∙ ap (λ (k : ℕ). with_newest k item (newest_first xs)) n ∙ ap (with_newest (length old) item) e,
      f.1 ∙ ap (λ (k : ℕ). drop k (item ∷ newest_first xs)) n ∙ ap (λ (ys : List Item). drop (length old) (item ∷ ys)) e,
    )

-- the place after the used ones
pub next_place : (xs rest : List Place) (len : ℕ) (p : Place) → length xs ≡ len → 0 < length rest
    → take (len + 1) (set (xs ++ rest) len p) ≡ xs ++ p ∷ []
next_place xs rest len p n some =
    let inside : len < length (xs ++ rest) = omega (arith, length-append xs rest) in
    take_more_set (xs ++ rest) len p inside ∙ ap (λ (ys : List Place). ys ++ p ∷ []) (take_at xs rest len n)

pub free_step : (old xs rest : List Place) (len last width : ℕ) (item : Item) → length xs ≡ len → 0 < length rest → len < width
    → AreStamps last xs → newest_first xs ≡ newest_first old
    → (newest_first (take (len + 1) (set (xs ++ rest) len (stamped_at last item))) ≡ with_newest width item (newest_first old))
    × ([] ≡ drop width (item ∷ newest_first old))
    × AreStamps (last + 1) (take (len + 1) (set (xs ++ rest) len (stamped_at last item)))
free_step old xs rest len last width item n some l a e =
    let p : take (len + 1) (set (xs ++ rest) len (stamped_at last item)) ≡ xs ++ stamped_at last item ∷ [] = next_place xs rest len (stamped_at last item) n some in
    let f = fill_free xs last width (stamped_at last item) a (omega arith) (omega arith) in (
      ap newest_first p ∙ f.0 ∙ ap (with_newest width item) e,
      f.1 ∙ ap (λ (ys : List Item). drop width (item ∷ ys)) e,
      rw p (stamps_push xs last (stamped_at last item) a (omega arith)),
    )

-- ---- places that go

pub purged_step : (q : Item → Bool) (last : ℕ) (xs : List Place) → AreStamps last xs → newest_first (filter (λ p. not (q p.item)) xs) ≡ purged q (newest_first xs)
unfolding newest_first
purged_step q last xs a =
    ap (map item_of) (by_stamp-filter (λ p. not (q p.item)) xs a.apart) ∙ map-filter (λ x. not (q x)) (by_stamp xs)

each_without : (P : Place → Type 0) (xs ys : List Place) (x : Place) → Each P (xs ++ x ∷ ys) → Each P (xs ++ ys)
unfolding Each
each_without P [] ys x e = e.1
each_without P (z ∷ zs) ys x e = (e.0, each_without P zs ys x e.1)

apart_without : (xs ys : List Place) (x : Place) → Apart (xs ++ x ∷ ys) → Apart (xs ++ ys)
unfolding Apart
apart_without [] ys x a = a.1
apart_without (z ∷ zs) ys x a = (each_without (λ y. y.stamp ≡ z.stamp → ⊥) zs ys x a.0, apart_without zs ys x a.1)

-- the place at i goes
pub stamps_skip : (ys : List Place) (kept i last : ℕ) (x : Place) → i < length ys
    → AreStamps last (take kept ys ++ drop i ys) → AreStamps last (take kept ys ++ drop (i + 1) ys)
stamps_skip ys kept i last x l a =
    let b : AreStamps last (take kept ys ++ get_or ys i x ∷ drop (i + 1) ys) = rw (drop_more ys i x l) at a in
    record { given = each_without (λ y. y.stamp ≤ last) _ _ _ b.given; apart = apart_without _ _ _ b.apart }

-- the place at i moves down
pub stamps_keep : (ys : List Place) (kept i last : ℕ) (x : Place) → kept ≤ i → i < length ys → x ≡ get_or ys i x
    → AreStamps last (take kept ys ++ drop i ys) → AreStamps last (take (kept + 1) (set ys kept x) ++ drop (i + 1) (set ys kept x))
stamps_keep ys kept i last x k l is a =
    let t : take (kept + 1) (set ys kept x) ≡ take kept ys ++ x ∷ [] = take_more_set ys kept x (omega arith) in
    let d : drop (i + 1) (set ys kept x) ≡ drop (i + 1) ys = drop-set-lt (i + 1) ys kept x (omega arith) in
    let r : drop i ys ≡ x ∷ drop (i + 1) ys = drop_more ys i x l ∙ ap (λ (z : Place). z ∷ drop (i + 1) ys) (sym is) in
    let s : take (kept + 1) (set ys kept x) ++ drop (i + 1) (set ys kept x) ≡ take kept ys ++ drop i ys =
    rw (t, d, r) (simp append_assoc) in
    rw s a

pub no_stamps : (last : ℕ) → AreStamps last []
unfolding Each Apart
no_stamps last = record { given = tt; apart = tt }

pub no_items : newest_first [] ≡ []
unfolding newest_first by_stamp
no_items = refl

pub newest_length : (xs : List Place) → length (newest_first xs) ≡ length xs
unfolding newest_first
newest_length xs = length-map (by_stamp xs) item_of ∙ length-by_stamp xs

pub kept_count : (len kept : ℕ) (xs ys : List Place) → kept ≤ len → len ≤ length xs → len ≤ length ys
    → (len - kept) + length (newest_first (take kept ys)) ≡ length (newest_first (take len xs))
kept_count len kept xs ys l m n =
    omega (arith, newest_length (take kept ys), newest_length (take len xs), length-take kept ys, length-take len xs)
