-- Places by the ranks of their slots.
use Rattle.xl_curve.proofs.Common.{if◌then◌else◌, ◌++◌, ◌+◌, ◌-◌, ◌<◌, ◌==◌, ◌∙◌, ◌∷◌, ◌≡◌, ◌≢◌, ◌≤◌, [], ap, AreApart, AreRanks, AreThinned, arith, at_rank, Bool, drop, drop-set-lt, ext_get_or, false, fill_by_all, first_so, get_or, get_or-append_right, get_or-drop, get_or-map, get_or-map-range_with_len, get_or-replicate, get_or-set_other, get_or-set_same, get_or-take, get_or_append_left, HasRank, in_turn, IsFirst, IsSameOrHole, IsThinned, length, length-append, length-drop, length-map-range_with_len, length-replicate, length-set, length-take-le, List, list_all, map, moved, nat_lt, nat_tests, None, Option, range_with_len, refl, remove, replicate, same-tests, second_so, set, suc, sym, take, take-set, true, zero, ℕ}

pub each_in_range : {X Y : Type 0} (h : X → Y) (f : ℕ → X) (g : ℕ → Y) (a n : ℕ) → ((w : ℕ) → a ≤ w → w < a + n → h (f w) ≡ g w)
    → map h (map f (range_with_len a n)) ≡ map g (range_with_len a n)
each_in_range h f g a zero same = refl
each_in_range {X} {Y} h f g a (suc n) same =
    ap (λ (y : Y). y ∷ map h (map f (range_with_len (a + 1) n))) (same a (omega arith) (omega arith))
    ∙ ap (λ (ys : List Y). g a ∷ ys) (each_in_range h f g (a + 1) n (λ w l m. same w (omega arith) (omega arith)))

module _ {A : Type 0} (ranks : List ℕ) (places : List (Option A)) where
  pub turn_length : length (in_turn ranks places) ≡ 64
  unfolding in_turn
  turn_length = length-map-range_with_len (λ k. at_rank k ranks places) 0 64

  pub turn_at : (k : ℕ) → k < 64 → get_or (in_turn ranks places) k None ≡ at_rank k ranks places
  unfolding in_turn
  turn_at k l = get_or-map-range_with_len (λ j. at_rank j ranks places) 0 64 k k None l (omega arith)

-- ---- the slot of a rank

module _ {A : Type 0} where
  -- What is at a rank is in its slot.
  pub at_first : (k slot : ℕ) (ranks : List ℕ) (places : List (Option A)) → length ranks ≡ length places → slot < length ranks → IsFirst k slot ranks
      → at_rank k ranks places ≡ get_or places slot None
  at_first k slot [] places same l f = absurd (omega arith)
  at_first k slot (r ∷ ranks) [] same l f = absurd (omega arith)
  at_first k zero (r ∷ ranks) (p ∷ places) same l f = let here : r ≡ k = f.is in let t : (r == k) ≡ true = grind (arith, nat_tests) in rw t refl
  at_first k (suc slot) (r ∷ ranks) (p ∷ places) same l f =
      let other : r ≢ k = f.others 0 (omega arith) in
      let t : (r == k) ≡ false = grind (arith, nat_tests) in
      rw t (at_first k slot ranks places (omega arith) (omega arith) (record { is = f.is; others = λ j m. f.others (suc j) (omega arith) }))

  -- What is put into a slot is at no other rank.
  at_others : (k j slot : ℕ) (o : Option A) (ranks : List ℕ) (places : List (Option A)) → j ≢ k → get_or ranks slot 0 ≡ k → slot < length ranks
      → at_rank j ranks (set places slot o) ≡ at_rank j ranks places
  at_others k j slot o [] places n is l = refl
  at_others k j slot o (r ∷ ranks) [] n is l = refl
  at_others k j zero o (r ∷ ranks) (p ∷ places) n is l = let here : r ≡ k = is in let t : (r == j) ≡ false = grind (arith, nat_tests) in rw t refl
  at_others k j (suc slot) o (r ∷ ranks) (p ∷ places) n is l =
      ap (λ (x : Option A). if r == j then p else x) (at_others k j slot o ranks places n is (omega arith))

  -- A place is changed where its slot is.
  pub turn_set : (k slot : ℕ) (o : Option A) (ranks : List ℕ) (places : List (Option A)) → length ranks ≡ 64 → length places ≡ 64 → slot < 64 → k < 64
      → IsFirst k slot ranks → in_turn ranks (set places slot o) ≡ set (in_turn ranks places) k o
  turn_set k slot o ranks places r64 p64 l m f =
      ext_get_or None (in_turn ranks (set places slot o)) (set (in_turn ranks places) k o)
      (turn_length ranks (set places slot o) ∙ sym (length-set (in_turn ranks places) k o ∙ turn_length ranks places))
      (λ i b.
      let c : i < 64 = omega (arith, turn_length ranks (set places slot o)) in
      turn_at ranks (set places slot o) i c ∙ go i c (i == k) refl)
    where
      go : (i : ℕ) → i < 64 → (b : Bool) → (i == k) ≡ b → at_rank i ranks (set places slot o) ≡ get_or (set (in_turn ranks places) k o) i None
      go i c true e =
          let is : i ≡ k = grind (arith, nat_tests) in
          ap (λ (j : ℕ). at_rank j ranks (set places slot o)) is
          ∙ at_first k slot ranks (set places slot o) (omega (arith, length-set places slot o)) (omega arith) f
          ∙ get_or-set_same places slot o None (omega arith)
          ∙ sym (get_or-set_same (in_turn ranks places) k o None (omega (arith, turn_length ranks places)))
          ∙ ap (λ (j : ℕ). get_or (set (in_turn ranks places) k o) j None) (sym is)
      go i c false e =
          let n : i ≢ k = grind (arith, nat_tests) in
          at_others k i slot o ranks places n f.is (omega arith)
          ∙ sym (get_or-set_other (in_turn ranks places) k i o None n ∙ turn_at ranks places i c)

  -- What holds of each slot of a rank holds of what is at the rank.
  pub held_at : (t : Option A → Bool) (k slot : ℕ) (ranks : List ℕ) (places : List (Option A)) → length ranks ≡ length places → slot < length ranks
      → get_or ranks slot 0 ≡ k → ((s : ℕ) → s < length ranks → get_or ranks s 0 ≡ k → t (get_or places s None) ≡ true)
      → t (at_rank k ranks places) ≡ true
  held_at t k slot [] places same l is each = absurd (omega arith)
  held_at t k slot (r ∷ ranks) [] same l is each = absurd (omega arith)
  held_at t k slot (r ∷ ranks) (p ∷ places) same l is each =
      go slot l is (λ s m e. held_at t k s ranks places (omega arith) m e (λ j n h. each (suc j) (omega arith) h)) (r == k) refl
    where
      go : (s : ℕ) → s < suc (length ranks) → get_or (r ∷ ranks) s 0 ≡ k
          → ((j : ℕ) → j < length ranks → get_or ranks j 0 ≡ k → t (at_rank k ranks places) ≡ true)
          → (b : Bool) → (r == k) ≡ b → t (at_rank k (r ∷ ranks) (p ∷ places)) ≡ true
      go s m e more true b = let here : r ≡ k = grind (arith, nat_tests) in rw b (each 0 (omega arith) here)
      go zero m e more false b = let here : r ≡ k = e in absurd (grind (arith, nat_tests))
      go (suc s) m e more false b = rw b (more s (omega arith) e)

-- ---- a slot comes to the front

-- the rank that came to a rank
abbrev pub back : ℕ → ℕ → ℕ
back rank zero = rank
back rank (suc k) = if nat_lt k rank then k else suc k

moved_back : (rank here k : ℕ) → (moved rank here == k) ≡ (here == back rank k)
moved_back rank here zero = go (here == rank) (nat_lt here rank) refl refl
  where
    go : (a b : Bool) → (here == rank) ≡ a → nat_lt here rank ≡ b → (moved rank here == 0) ≡ (here == rank)
    go true b e f = rw e refl
    go false true e f = rw (e, f) (grind (arith, nat_tests))
    go false false e f = rw (e, f) (grind (arith, nat_tests))
moved_back rank here (suc k) = go (here == rank) (nat_lt here rank) (nat_lt k rank) refl refl refl
  where
    go : (a b c : Bool) → (here == rank) ≡ a → nat_lt here rank ≡ b → nat_lt k rank ≡ c → (moved rank here == suc k) ≡ (here == back rank (suc k))
    go true b true e f g = rw (e, g) (same-tests _ _ (λ t. grind (arith, nat_tests)) (λ t. grind (arith, nat_tests)))
    go true b false e f g = rw (e, g) (same-tests _ _ (λ t. grind (arith, nat_tests)) (λ t. grind (arith, nat_tests)))
    go false true true e f g = rw (e, f, g) (same-tests _ _ (λ t. grind (arith, nat_tests)) (λ t. grind (arith, nat_tests)))
    go false true false e f g = rw (e, f, g) (same-tests _ _ (λ t. grind (arith, nat_tests)) (λ t. grind (arith, nat_tests)))
    go false false true e f g = rw (e, f, g) (same-tests _ _ (λ t. grind (arith, nat_tests)) (λ t. grind (arith, nat_tests)))
    go false false false e f g = rw (e, f, g) refl

back_below : (rank k : ℕ) → rank < 64 → k < 64 → back rank k < 64
back_below rank zero l m = l
back_below rank (suc k) l m = go (nat_lt k rank) refl
  where
    go : (b : Bool) → nat_lt k rank ≡ b → back rank (suc k) < 64
    go true e = rw e (omega arith)
    go false e = rw e m

moved_there : (rank k : ℕ) → moved rank (back rank k) ≡ k
moved_there rank k =
    let same : (back rank k == back rank k) ≡ true = grind (arith, nat_tests) in
    let t : (moved rank (back rank k) == k) ≡ true = moved_back rank (back rank k) k ∙ same in
    grind (arith, nat_tests)

pub ranks_moved : (rank : ℕ) (ranks : List ℕ) → rank < 64 → length ranks ≡ 64 → AreRanks ranks → AreRanks (map (moved rank) ranks)
ranks_moved rank ranks l same are = λ k m.
    let h = are (back rank k) (back_below rank k l m) in
    record { slot = h.slot; within = h.within; is = get_or-map (moved rank) ranks h.slot 0 0 (omega (arith, h.within)) ∙ ap (moved rank) h.is ∙ moved_there rank k }

-- Slots of different ranks have different ranks afterwards.
moved_same : (rank a b : ℕ) → moved rank a ≡ moved rank b → a ≡ b
moved_same rank a b e =
    let k = moved rank b in
    let t : (moved rank a == k) ≡ true = grind (arith, nat_tests) in
    let u : (moved rank b == k) ≡ true = grind (arith, nat_tests) in
    let v : (a == back rank k) ≡ true = sym (moved_back rank a k) ∙ t in
    let w : (b == back rank k) ≡ true = sym (moved_back rank b k) ∙ u in
    let x : a ≡ back rank k = grind (arith, nat_tests) in
    let y : b ≡ back rank k = grind (arith, nat_tests) in
    x ∙ sym y

pub apart_moved : (rank : ℕ) (ranks : List ℕ) → length ranks ≡ 64 → AreApart ranks → AreApart (map (moved rank) ranks)
apart_moved rank ranks same apart = λ i j l m e.
    apart i j l m
    (moved_same rank (get_or ranks i 0) (get_or ranks j 0)
    (sym (get_or-map (moved rank) ranks i 0 0 (omega arith)) ∙ e ∙ get_or-map (moved rank) ranks j 0 0 (omega arith)))

-- A slot of a rank is the first.
pub slot_of_rank : (rank slot : ℕ) (ranks : List ℕ) → AreApart ranks → slot < 64 → get_or ranks slot 0 ≡ rank → IsFirst rank slot ranks
slot_of_rank rank slot ranks apart l is =
    record { is = is; others = λ k m h. let same : k ≡ slot = apart k slot (omega arith) l (h ∙ sym is) in omega arith }

remove_set : {A : Type 0} (xs : List A) (k : ℕ) (x : A) → remove (set xs k x) k ≡ remove xs k
remove_set {A} xs k x =
    ap (λ (ys : List A). ys ++ drop (suc k) (set xs k x)) (take-set xs k x)
    ∙ ap (λ (ys : List A). take k xs ++ ys) (drop-set-lt (suc k) xs k x (omega arith))

module _ {A : Type 0} where
  at_moved : (rank k : ℕ) (ranks : List ℕ) (places : List (Option A)) → at_rank k (map (moved rank) ranks) places ≡ at_rank (back rank k) ranks places
  at_moved rank k [] places = refl
  at_moved rank k (r ∷ ranks) [] = refl
  at_moved rank k (r ∷ ranks) (p ∷ places) =
      rw (moved_back rank r k) (ap (λ (x : Option A). if r == back rank k then p else x) (at_moved rank k ranks places))

  module _ (rank : ℕ) (ranks : List ℕ) (places : List (Option A)) (l : rank < 64) where
    -- a place behind the front
    following : (k : ℕ) → suc k < 64 → at_rank (back rank (suc k)) ranks places ≡ get_or (remove (in_turn ranks places) rank) k None
    following k m = go (nat_lt k rank) refl
      where
        taken : length (take rank (in_turn ranks places)) ≡ rank
        taken = length-take-le rank (in_turn ranks places) (omega (arith, turn_length ranks places))

        go : (b : Bool) → nat_lt k rank ≡ b → at_rank (back rank (suc k)) ranks places ≡ get_or (remove (in_turn ranks places) rank) k None
        go true e =
            let h : k < rank = grind (arith, nat_tests) in
            rw e
            (sym (get_or_append_left (take rank (in_turn ranks places)) (drop (suc rank) (in_turn ranks places)) None k (omega (arith, taken))
            ∙ get_or-take rank (in_turn ranks places) k None h ∙ turn_at ranks places k (omega arith)))
        go false e =
            let h : rank ≤ k = grind (arith, nat_tests) in
            rw e
            (sym (get_or-append_right (take rank (in_turn ranks places)) (drop (suc rank) (in_turn ranks places)) rank k None taken h
            ∙ get_or-drop (suc rank) (in_turn ranks places) (k - rank) None
            ∙ ap (λ (j : ℕ). get_or (in_turn ranks places) j None) (omega arith)
            ∙ turn_at ranks places (suc k) m))

    removed_length : length (remove (in_turn ranks places) rank) ≡ 63
    removed_length =
        let n = turn_length ranks places in
        omega (arith, length-append (take rank (in_turn ranks places)) (drop (suc rank) (in_turn ranks places)), length-take-le rank (in_turn ranks places) (omega (arith, n)), length-drop (suc rank) (in_turn ranks places), n)

    -- The place of a rank comes in front.
    pub turn_moved : in_turn (map (moved rank) ranks) places ≡ at_rank rank ranks places ∷ remove (in_turn ranks places) rank
    turn_moved =
        ext_get_or None (in_turn (map (moved rank) ranks) places) (at_rank rank ranks places ∷ remove (in_turn ranks places) rank)
        (omega (arith, turn_length (map (moved rank) ranks) places, removed_length))
        (λ i b. let c : i < 64 = omega (arith, turn_length (map (moved rank) ranks) places) in turn_at (map (moved rank) ranks) places i c ∙ at_moved rank i ranks places ∙ each i c)
      where
        each : (i : ℕ) → i < 64 → at_rank (back rank i) ranks places ≡ get_or (at_rank rank ranks places ∷ remove (in_turn ranks places) rank) i None
        each zero c = refl
        each (suc i) c = following i c

  -- The place of a slot is filled, and comes in front.
  pub turn_filled : (rank slot : ℕ) (o : Option A) (ranks : List ℕ) (places : List (Option A)) → length ranks ≡ 64 → length places ≡ 64 → slot < 64 → rank < 64
      → IsFirst rank slot ranks → in_turn (map (moved rank) ranks) (set places slot o) ≡ o ∷ remove (in_turn ranks places) rank
  turn_filled rank slot o ranks places r64 p64 l m f =
      turn_moved rank ranks (set places slot o) m
      ∙ ap (λ (x : Option A). x ∷ remove (in_turn ranks (set places slot o)) rank)
      (at_first rank slot ranks (set places slot o) (omega (arith, length-set places slot o)) (omega arith) f ∙ get_or-set_same places slot o None (omega arith))
      ∙ ap (λ (xs : List (Option A)). o ∷ remove xs rank) (turn_set rank slot o ranks places r64 p64 l m f)
      ∙ ap (λ (xs : List (Option A)). o ∷ xs) (remove_set (in_turn ranks places) rank o)

-- ---- all places

module _ {A : Type 0} (f : Option A → Option A) (hole : f None ≡ None) where
  at_mapped : (k : ℕ) (ranks : List ℕ) (places : List (Option A)) → f (at_rank k ranks places) ≡ at_rank k ranks (map f places)
  at_mapped k [] places = hole
  at_mapped k (r ∷ ranks) [] = hole
  at_mapped k (r ∷ ranks) (p ∷ places) = go (r == k) refl (at_mapped k ranks places)
    where
      go : (b : Bool) → (r == k) ≡ b → f (at_rank k ranks places) ≡ at_rank k ranks (map f places)
          → f (at_rank k (r ∷ ranks) (p ∷ places)) ≡ at_rank k (r ∷ ranks) (map f (p ∷ places))
      go true e more = rw e refl
      go false e more = rw e more

  pub turn_mapped : (ranks : List ℕ) (places : List (Option A)) → map f (in_turn ranks places) ≡ in_turn ranks (map f places)
  unfolding in_turn
  turn_mapped ranks places =
      each_in_range f (λ (k : ℕ). at_rank k ranks places) (λ (k : ℕ). at_rank k ranks (map f places)) 0 64 (λ k l m. at_mapped k ranks places)

all_in_range : {A : Type 0} (t : A → Bool) (f g : ℕ → A) (a n : ℕ) → ((k : ℕ) → t (f k) ≡ true → t (g k) ≡ true)
    → list_all t (map f (range_with_len a n)) ≡ true → list_all t (map g (range_with_len a n)) ≡ true
all_in_range t f g a zero each h = refl
all_in_range t f g a (suc n) each h =
    rw (each a (first_so (t (f a)) (list_all t (map f (range_with_len (a + 1) n))) h))
    (all_in_range t f g (a + 1) n each (second_so (t (f a)) (list_all t (map f (range_with_len (a + 1) n))) h))

module _ {A : Type 0} where
  at_empty : (k : ℕ) (ranks : List ℕ) → at_rank {A = A} k ranks [] ≡ None
  at_empty k [] = refl
  at_empty k (r ∷ ranks) = refl

  at_thinned : (k : ℕ) (ranks : List ℕ) (old new : List (Option A)) → AreThinned old new → IsSameOrHole (at_rank k ranks old) (at_rank k ranks new)
  at_thinned k [] old new thinned = λ t hole held. held
  at_thinned k (r ∷ ranks) [] [] thinned = λ t hole held. held
  at_thinned k (r ∷ ranks) (o ∷ old) [] thinned = λ t hole held. hole
  at_thinned k (r ∷ ranks) [] (n ∷ new) thinned = go (r == k) refl (at_thinned k ranks [] new (λ s. thinned (suc s)))
    where
      go : (b : Bool) → (r == k) ≡ b → IsSameOrHole (at_rank {A = A} k ranks []) (at_rank k ranks new) → IsSameOrHole None (at_rank k (r ∷ ranks) (n ∷ new))
      go true e more = rw e (thinned 0)
      go false e more = rw e (λ t hole held. more t hole (rw (at_empty k ranks) hole))
  at_thinned k (r ∷ ranks) (o ∷ old) (n ∷ new) thinned = go (r == k) refl (at_thinned k ranks old new (λ s. thinned (suc s)))
    where
      go : (b : Bool) → (r == k) ≡ b → IsSameOrHole (at_rank k ranks old) (at_rank k ranks new)
          → IsSameOrHole (at_rank k (r ∷ ranks) (o ∷ old)) (at_rank k (r ∷ ranks) (n ∷ new))
      go true e more = rw e (thinned 0)
      go false e more = rw e more

  pub turn_thinned : (ranks : List ℕ) (old new : List (Option A)) → AreThinned old new → IsThinned (in_turn ranks old) (in_turn ranks new)
  unfolding in_turn
  turn_thinned ranks old new thinned = λ t hole.
      all_in_range t (λ (k : ℕ). at_rank k ranks old) (λ (k : ℕ). at_rank k ranks new) 0 64 (λ k. at_thinned k ranks old new thinned t hole)

  at_none : {B : Type 0} (f : B → Option A) (b : B) → f b ≡ None → (k n : ℕ) (ranks : List ℕ) → at_rank k ranks (map f (replicate n b)) ≡ None
  at_none f b e k n [] = refl
  at_none f b e k zero (r ∷ ranks) = refl
  at_none f b e k (suc n) (r ∷ ranks) = go (r == k) refl (at_none f b e k n ranks)
    where
      go : (c : Bool) → (r == k) ≡ c → at_rank k ranks (map f (replicate n b)) ≡ None → at_rank k (r ∷ ranks) (map f (replicate (suc n) b)) ≡ None
      go true t more = rw t e
      go false t more = rw t more

  pub turn_none : {B : Type 0} (f : B → Option A) (b : B) → f b ≡ None → (n : ℕ) (ranks : List ℕ) → in_turn ranks (map f (replicate n b)) ≡ replicate 64 None
  unfolding in_turn
  turn_none f b e n ranks =
      let hole : Option A = None in
      sym (fill_by_all (λ (k : ℕ). at_rank k ranks (map f (replicate n b))) (replicate 64 hole) 64 hole (length-replicate 64 hole)
      (λ k l. get_or-replicate 64 k hole hole l ∙ sym (at_none f b e k n ranks)))

-- ---- the loops over ranks

pub rank_written : (ranks : List ℕ) (at : ℕ) → at < length ranks → ((k : ℕ) → k < at → get_or ranks k 0 ≡ k) → (k : ℕ) → k < at + 1 → get_or (set ranks at at) k 0 ≡ k
rank_written ranks at l before k m = go (k == at) refl
  where
    go : (b : Bool) → (k == at) ≡ b → get_or (set ranks at at) k 0 ≡ k
    go true e = let is : k ≡ at = grind (arith, nat_tests) in rw is (get_or-set_same ranks at at 0 l)
    go false e = let n : k ≢ at = grind (arith, nat_tests) in get_or-set_other ranks at k at 0 n ∙ before k (omega arith)

-- A rank that a slot has is not passed.
pub slot_below : (ranks : List ℕ) (rank first : ℕ) → HasRank ranks rank → ((k : ℕ) → k < first → get_or ranks k 0 ≢ rank) → first < 64
slot_below ranks rank first has passed = go (nat_lt has.slot first) refl
  where
    go : (b : Bool) → nat_lt has.slot first ≡ b → first < 64
    go true e = let l : has.slot < first = grind (arith, nat_tests) in absurd (passed has.slot l has.is)
    go false e = let l : first ≤ has.slot = grind (arith, nat_tests) in omega (arith, has.within)
