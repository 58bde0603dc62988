-- Marks and slots in order: bytes that are written one by one, and a place that comes to the front.
use Rattle.xl_recency.proofs.Common.{if◌then◌else◌, ◌+◌, ◌-◌, ◌<◌, ◌==◌, ◌∙◌, ◌∷◌, ◌≡◌, ◌≢◌, ◌≤◌, [], ap, AreSlots, arith, Bool, cases_lt, ext_get_or, false, find, get_or, get_or-map, get_or-remove_above, get_or-remove_below, get_or-set_other, get_or-set_same, get_or-take, get_or_default, has_tag, in_order, inl, inr, IsFirstTag, Item, item_in, item_mark, LacksTag, length, length-map, length-remove, length-take-le, List, map, mark_of, nat_lt, nat_tests, None, purged, Purges, refl, remove, set, Some, suc, sym, take, Touches, true, zero, ℕ}
use Rattle.xl_recency.proofs.ScanLemmas.{find_at, find_none, without_at, without_none}

-- one more of some items is written
pub written : {A : Type 0} (xs : List A) (at : ℕ) (x d : A) (f : ℕ → A) → at < length xs → x ≡ f at → ((k : ℕ) → k < at → get_or xs k d ≡ f k)
    → (k : ℕ) → k < at + 1 → get_or (set xs at x) k d ≡ f k
written xs at x d f l is before k m = go (k == at) refl
  where
    go : (b : Bool) → (k == at) ≡ b → get_or (set xs at x) k d ≡ f k
    go true e = let same : k ≡ at = grind (arith, nat_tests) in rw same (get_or-set_same xs at x d l ∙ is)
    go false e = let n : k ≢ at = grind (arith, nat_tests) in get_or-set_other xs at k x d n ∙ before k (omega arith)

-- those after it are as they were
pub unwritten : {A : Type 0} (xs old : List A) (at : ℕ) (x d : A) → ((k : ℕ) → at ≤ k → get_or xs k d ≡ get_or old k d)
    → (k : ℕ) → at + 1 ≤ k → get_or (set xs at x) k d ≡ get_or old k d
unwritten xs old at x d rest k m =
    let n : k ≢ at = λ e. absurd (omega (arith, m, e)) in get_or-set_other xs at k x d n ∙ rest k (omega arith)

-- ---- an item in front

module _ {A : Type 0} where
  -- up to its place the items move back
  pub front_moved : (x : A) (xs : List A) (at k : ℕ) (d : A) → at < length xs → k ≤ at → get_or (x ∷ remove xs at) k d ≡ get_or (x ∷ xs) k d
  front_moved x xs at zero d l m = refl
  front_moved x xs at (suc k) d l m = get_or-remove_below xs at d k (omega arith) l

  -- and past it they stay
  pub front_past : (x : A) (xs : List A) (at k : ℕ) (d : A) → at < length xs → at < k → get_or (x ∷ remove xs at) k d ≡ get_or xs k d
  front_past x xs at zero d l m = absurd (omega arith)
  front_past x xs at (suc k) d l m =
      let e : k + 1 ≡ suc k = omega arith in
      get_or-remove_above xs at d k (omega arith) l ∙ ap (λ (j : ℕ). get_or xs j d) e

  pub front_length : (x : A) (xs : List A) (at : ℕ) → at < length xs → length (x ∷ remove xs at) ≡ length xs
  front_length x xs at l = omega (arith, length-remove xs at l)

  -- the next item to be carried
  pub carried_more : (x : A) (xs : List A) (k : ℕ) (d : A) → get_or xs k d ≡ get_or (x ∷ xs) (k + 1) d
  carried_more x xs k d = let e : k + 1 ≡ suc k = omega arith in rw e refl

  -- the first items, where one of them comes to the front
  take_behind : (n at : ℕ) (xs : List A) → at ≤ n → take n (remove xs at) ≡ remove (take (suc n) xs) at
  take_behind zero zero [] h = refl
  take_behind zero zero (x ∷ xs) h = refl
  take_behind zero (suc at) xs h = absurd (omega arith)
  take_behind (suc n) zero [] h = refl
  take_behind (suc n) zero (x ∷ xs) h = refl
  take_behind (suc n) (suc at) [] h = refl
  take_behind (suc n) (suc at) (x ∷ xs) h = ap (λ (ys : List A). x ∷ ys) (take_behind n at xs (omega arith))

  pub take_front : (len at : ℕ) (x : A) (xs : List A) → at < len → take len (x ∷ remove xs at) ≡ x ∷ remove (take len xs) at
  take_front zero at x xs h = absurd (omega arith)
  take_front (suc n) at x xs h = ap (λ (ys : List A). x ∷ ys) (take_behind n at xs (omega arith))

pub map_remove : {A B : Type 0} (f : A → B) (xs : List A) (at : ℕ) → map f (remove xs at) ≡ remove (map f xs) at
map_remove f [] zero = refl
map_remove f [] (suc at) = refl
map_remove f (x ∷ xs) zero = refl
map_remove {A} {B} f (x ∷ xs) (suc at) = ap (λ (ys : List B). f x ∷ ys) (map_remove f xs at)

-- ---- slots

-- where the slot of a place was, before the one at `at` came to the front
abbrev pub came_from : ℕ → ℕ → ℕ
came_from at zero = at
came_from at (suc k) = if nat_lt k at then k else suc k

came_within : (n at k : ℕ) → at < n → k < n → came_from at k < n
came_within n at zero l m = l
came_within n at (suc k) l m = go (nat_lt k at) refl
  where
    go : (b : Bool) → nat_lt k at ≡ b → came_from at (suc k) < n
    go true e = rw e (omega arith)
    go false e = rw e m

came_apart : (at i j : ℕ) → came_from at i ≡ came_from at j → i ≡ j
came_apart at zero zero e = refl
came_apart at zero (suc j) e = go (nat_lt j at) refl
  where
    go : (b : Bool) → nat_lt j at ≡ b → 0 ≡ suc j
    go true f = let g : at ≡ j = rw f at e in absurd (grind (arith, nat_tests))
    go false f = let g : at ≡ suc j = rw f at e in absurd (grind (arith, nat_tests))
came_apart at (suc i) zero e = go (nat_lt i at) refl
  where
    go : (b : Bool) → nat_lt i at ≡ b → suc i ≡ 0
    go true f = let g : i ≡ at = rw f at e in absurd (grind (arith, nat_tests))
    go false f = let g : suc i ≡ at = rw f at e in absurd (grind (arith, nat_tests))
came_apart at (suc i) (suc j) e = go (nat_lt i at) (nat_lt j at) refl refl
  where
    go : (b c : Bool) → nat_lt i at ≡ b → nat_lt j at ≡ c → suc i ≡ suc j
    go true true f g = let h : i ≡ j = rw (f, g) at e in omega arith
    go true false f g = let h : i ≡ suc j = rw (f, g) at e in absurd (grind (arith, nat_tests))
    go false true f g = let h : suc i ≡ j = rw (f, g) at e in absurd (grind (arith, nat_tests))
    go false false f g = let h : suc i ≡ suc j = rw (f, g) at e in h

front_from : (xs : List ℕ) (at k : ℕ) → at < length xs → get_or (get_or xs at 0 ∷ remove xs at) k 0 ≡ get_or xs (came_from at k) 0
front_from xs at zero l = refl
front_from xs at (suc k) l = go (nat_lt k at) refl
  where
    go : (b : Bool) → nat_lt k at ≡ b → get_or (remove xs at) k 0 ≡ get_or xs (came_from at (suc k)) 0
    go true e = rw e (get_or-remove_below xs at 0 k (grind (arith, nat_tests)) l)
    go false e = rw e (front_past (get_or xs at 0) xs at (suc k) 0 l (grind (arith, nat_tests)))

pub slots_front : (n : ℕ) (slots : List ℕ) (at : ℕ) → length slots ≡ n → at < n → AreSlots n slots → AreSlots n (get_or slots at 0 ∷ remove slots at)
slots_front n slots at same l old =
    let within : at < length slots = omega arith in
    record {
      within = λ k m. rw (front_from slots at k within) (old.within (came_from at k) (came_within n at k l m));
      apart = λ i j a b e.
          came_apart at i j (old.apart (came_from at i) (came_from at j) (came_within n at i l a) (came_within n at j l b)
          (sym (front_from slots at i within) ∙ e ∙ front_from slots at j within));
    }

-- ---- items in the order of their slots

pub order_read : (items : List Item) (slots : List ℕ) (k : ℕ) → k < length slots → item_in (in_order items slots) k ≡ item_in items (get_or slots k 0)
order_read items slots k l = get_or-map (item_in items) slots k 0 (record { tag = 0; word = 0 }) l

pub order_length : (items : List Item) (slots : List ℕ) → length (in_order items slots) ≡ length slots
order_length items slots = length-map slots (item_in items)

-- a place comes to the front
pub order_front : (items : List Item) (slots : List ℕ) (at : ℕ) → at < length slots
    → in_order items (get_or slots at 0 ∷ remove slots at) ≡ item_in (in_order items slots) at ∷ remove (in_order items slots) at
order_front items slots at l =
    ap (λ (x : Item). x ∷ in_order items (remove slots at)) (sym (order_read items slots at l))
    ∙ ap (λ (xs : List Item). item_in (in_order items slots) at ∷ xs) (map_remove (item_in items) slots at)

pub marks_front : (marks : List ℕ) (xs : List Item) (at : ℕ) → at < length xs → marks ≡ map item_mark xs
    → get_or marks at 0 ∷ remove marks at ≡ map item_mark (item_in xs at ∷ remove xs at)
marks_front marks xs at l are =
    let blank : Item = record { tag = 0; word = 0 } in
    ap (λ (ms : List ℕ). get_or ms at 0 ∷ remove ms at) are
    ∙ ap (λ (m : ℕ). m ∷ remove (map item_mark xs) at) (get_or-map item_mark xs at blank 0 l)
    ∙ ap (λ (ms : List ℕ). item_mark (item_in xs at) ∷ ms) (sym (map_remove item_mark xs at))

-- an item is written in a slot that has none of these places
others_stay : (items : List Item) (slot : ℕ) (item : Item) (slots : List ℕ) → ((k : ℕ) → k < length slots → get_or slots k 0 ≢ slot)
    → in_order (set items slot item) slots ≡ in_order items slots
others_stay items slot item [] other = refl
others_stay items slot item (s ∷ slots) other =
    let blank : Item = record { tag = 0; word = 0 } in
    let n : s ≢ slot = other 0 (omega arith) in
    ap (λ (x : Item). x ∷ in_order (set items slot item) slots) (get_or-set_other items slot s item blank n)
    ∙ ap (λ (xs : List Item). item_in items s ∷ xs) (others_stay items slot item slots (λ k l. other (suc k) (omega arith)))

-- an item is put in front, in the slot of the last place
pub order_filled : (n : ℕ) (items : List Item) (slots : List ℕ) (item : Item) → 0 < n → length slots ≡ n → length items ≡ n → AreSlots n slots
    → in_order (set items (get_or slots (n - 1) 0) item) (get_or slots (n - 1) 0 ∷ remove slots (n - 1))
    ≡ item ∷ remove (in_order items slots) (n - 1)
order_filled n items slots item some same wide are =
    let blank : Item = record { tag = 0; word = 0 } in
    let last : ℕ = n - 1 in
    let below : n - 1 < n = omega arith in
    let within : n - 1 < length slots = omega arith in
    let slot : ℕ = get_or slots (n - 1) 0 in
    let inside : get_or slots (n - 1) 0 < length items = omega (arith, are.within (n - 1) below) in
    let fewer = length-remove slots (n - 1) within in
    ap (λ (x : Item). x ∷ in_order (set items slot item) (remove slots last)) (get_or-set_same items slot item blank inside)
    ∙ ap (λ (xs : List Item). item ∷ xs) (
    others_stay items slot item (remove slots last) (λ k l e.
    let before : k < n - 1 = omega (arith, l, fewer) in
    let k_is : k ≡ n - 1 = are.apart k (n - 1) (omega arith) below (sym (get_or-remove_below slots (n - 1) 0 k before within) ∙ e) in
    absurd (omega arith))
    ∙ map_remove (item_in items) slots last)

-- slots in turn
pub order_in_turn : (items : List Item) (slots : List ℕ) → length items ≡ length slots → ((k : ℕ) → k < length slots → get_or slots k 0 ≡ k)
    → in_order items slots ≡ items
order_in_turn items slots same each =
    let blank : Item = record { tag = 0; word = 0 } in
    ext_get_or blank (in_order items slots) items (order_length items slots ∙ sym same)
    (λ k l. order_read items slots k (omega (arith, order_length items slots)) ∙ ap (item_in items) (each k (omega (arith, order_length items slots))))

-- ---- the calls

-- The mark of a place is that of its item.
pub mark_read : (marks : List ℕ) (xs : List Item) (k : ℕ) → marks ≡ map item_mark xs → k < length xs → get_or marks k 0 ≡ item_mark (item_in xs k)
mark_read marks xs k are l = ap (λ (ms : List ℕ). get_or ms k 0) are ∙ get_or-map item_mark xs k (record { tag = 0; word = 0 }) 0 l

-- An item with another mark has another tag.
pub other_tag : (tag : ℕ) (i : Item) → item_mark i ≢ mark_of tag → has_tag tag i ≡ false
other_tag tag i n = go (i.tag == tag) refl
  where
    go : (b : Bool) → (i.tag == tag) ≡ b → (i.tag == tag) ≡ false
    go true e = let same : i.tag ≡ tag = grind (arith, nat_tests) in absurd (n (ap mark_of same))
    go false e = e

module _ (tag at len : ℕ) (xs : List Item) (fits : len ≤ length xs) (l : at < len) (first : IsFirstTag tag at (take len xs)) where
  inside : at < length (take len xs)
  inside = rw (length-take-le len xs fits) l

  pub found_tag : Some (item_in xs at) ≡ find (has_tag tag) (take len xs)
  found_tag =
      let blank : Item = record { tag = 0; word = 0 } in
      sym (find_at (has_tag tag) (take len xs) at blank inside first.before first.has
      ∙ ap (λ (x : Item). Some x) (get_or-take len xs at blank l))

  pub touches_tag : Touches (has_tag tag) (take len xs) (take len (item_in xs at ∷ remove xs at)) (Some (item_in xs at))
  touches_tag =
      let blank : Item = record { tag = 0; word = 0 } in
      record {
        found = found_tag;
        moved = take_front len at (item_in xs at) xs l
            ∙ rw (sym found_tag, without_at (has_tag tag) (take len xs) at blank inside first.before first.has) refl;
      }

pub lacks_find : (tag : ℕ) (xs : List Item) → LacksTag tag xs → None ≡ find (has_tag tag) xs
lacks_find tag xs lacks = sym (find_none (has_tag tag) xs (λ k d l. ap (has_tag tag) (default k d l) ∙ lacks k l))
  where
    default : (k : ℕ) (d : Item) → k < length xs → get_or xs k d ≡ item_in xs k
    default k d l = get_or_default xs k d (record { tag = 0; word = 0 }) l

pub lacks_touch : (tag : ℕ) (xs : List Item) → LacksTag tag xs → Touches (has_tag tag) xs xs None
lacks_touch tag xs lacks = record {
  found = lacks_find tag xs lacks;
  moved =
      rw (sym (lacks_find tag xs lacks))
      (sym (without_none (has_tag tag) xs (λ k d l. ap (has_tag tag) (get_or_default xs k d (record { tag = 0; word = 0 }) l) ∙ lacks k l)));
}

-- ---- the loops

-- A search goes on behind the places that have another mark.
pub tags_passed : (tag len from to : ℕ) (marks : List ℕ) (xs : List Item) → marks ≡ map item_mark xs → len ≤ length xs
    → ((k : ℕ) → k < length xs → from ≤ k → k < to → get_or marks k 0 ≢ mark_of tag)
    → ((k : ℕ) → k < from → k < len → has_tag tag (item_in xs k) ≡ false)
    → (k : ℕ) → k < to → k < len → has_tag tag (item_in xs k) ≡ false
tags_passed tag len from to marks xs are fits other before k l m =
    elim (cases_lt k from) [
      | inl below ↦ before k below m
      | inr past ↦
          let within : k < length xs = omega arith in
          other_tag tag (item_in xs k) (λ e. other k within past l (mark_read marks xs k are within ∙ e))
    ]

-- one place more has another tag
pub tag_passed : (tag at : ℕ) (xs : List Item) → has_tag tag (item_in xs at) ≡ false → ((k : ℕ) → k < at → has_tag tag (item_in xs k) ≡ false)
    → (k : ℕ) → k < at + 1 → has_tag tag (item_in xs k) ≡ false
tag_passed tag at xs here before k l =
    elim (cases_lt k at) [
      | inl below ↦ before k below
      | inr past ↦ let e : k ≡ at = omega arith in ap (λ (j : ℕ). has_tag tag (item_in xs j)) e ∙ here
    ]

-- ---- a purge

pub taken_count : (len kept : ℕ) (items news : List Item) (slots new_slots : List ℕ) → kept ≤ len → len ≤ length slots → len ≤ length new_slots
    → len - kept + length (take kept (in_order news new_slots)) ≡ length (take len (in_order items slots))
taken_count len kept items news slots new_slots few fits new_fits =
    rw (
      length-take-le len (in_order items slots) (omega (arith, order_length items slots)),
      length-take-le kept (in_order news new_slots) (omega (arith, order_length news new_slots)),
    ) (omega arith)

pub none_purged : {A : Type 0} (q : A → Bool) (xs : List A) → find q xs ≡ None → xs ≡ purged q xs
none_purged q [] e = refl
none_purged {A} q (x ∷ xs) e = go (q x) refl (none_purged q xs)
  where
    go : (b : Bool) → q x ≡ b → (find q xs ≡ None → xs ≡ purged q xs) → x ∷ xs ≡ purged q (x ∷ xs)
    go true t more = let f : Some x ≡ None = rw t at e in absurd (cc)
    go false t more = rw t (ap (λ (ys : List A). x ∷ ys) (more (rw t at e)))

pub none_purges : {A : Type 0} (q : A → Bool) (xs : List A) → None ≡ find q xs → Purges q xs xs 0
none_purges q xs e = record { kept = none_purged q xs (sym e); count = omega arith }
