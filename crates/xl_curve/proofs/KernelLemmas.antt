-- The steps of the loops over places.
use Rattle.xl_curve.proofs.Common.{◌++◌, ◌+◌, ◌-◌, ◌<◌, ◌==◌, ◌∙◌, ◌∷◌, ◌≡◌, ◌≢◌, ◌≤◌, [], ap, append_assoc, AreMarks, AreThinned, arith, Bool, distance, drop, drop-set, drop_all, drop_more, false, first_so, further, gap, get_or, get_or-map, get_or-set_other, get_or-set_same, get_or_default, gives_way, IfSome, in_turn, is_leaf, is_vacant, IsFirst, IsGap, IsNamed, IsNeither, IsSameOrHole, IsStack, Leaf, leaf_in, length, length-map, length-take-le, List, map, map-set, map_over_more, mark_of, mark_unless, nat_tests, None, not, Option, Order, Place, place_of, place_without, places_of, refl, same_leaf, same_words, set, shifted, Some, suc, sym, take, take-append-drop, take-set, take_all, take_at, take_more, true, vacated, zero, ℕ}
use Rattle.std.proofs.Math.Seq.{drop-append_seam}
use Rattle.xl_curve.proofs.PlaceLemmas.{same_parts}
use Rattle.xl_curve.proofs.RankLemmas.{at_first, held_at, turn_at, turn_length}

append_nil : {A : Type 0} (xs : List A) → xs ++ [] ≡ xs
append_nil [] = refl
append_nil {A} (x ∷ xs) = ap (λ (ys : List A). x ∷ ys) (append_nil xs)

pub solid_place : (p : Place) → is_vacant p ≡ false → place_of p ≡ Some (leaf_in p)
unfolding place_of
solid_place p e = rw e refl

pub vacant_place : (p : Place) → is_vacant p ≡ true → place_of p ≡ None
unfolding place_of
vacant_place p e = rw e refl

further_more : (n : ℕ) (d : Option ℕ) → further n (further 1 d) ≡ further (n + 1) d
further_more n None = refl
further_more n (Some d) = ap (λ (k : ℕ). Some k) (omega arith)

pub further_none : (d : Option ℕ) → further 0 d ≡ d
further_none None = refl
further_none (Some d) = ap (λ (k : ℕ). Some k) (omega arith)

-- a hole is written
pub hole_written : (ps : List Place) (at : ℕ) (p : Place) → is_vacant p ≡ true → places_of (set ps at p) ≡ set (places_of ps) at None
hole_written ps at p e = map-set place_of ps at p ∙ ap (set (places_of ps) at) (vacant_place p e)

-- what is read at a place
pub read : (ps : List Place) (at : ℕ) (d : Place) → at < length ps → get_or (places_of ps) at None ≡ place_of (get_or ps at d)
read ps at d l = get_or-map place_of ps at d None l

-- ---- a place is vacated

-- What is in the place is kept by a search for another item.
abbrev pub is_other : {A : Type 0} → (A → Bool) → Option A → Bool
is_other q None = true
is_other q (Some x) = not (q x)

-- A place that isn't the leaf's is passed, a hole too.
pub other_place : (q : Leaf → Bool) (p : Place) → q (leaf_in p) ≡ false → is_other q (place_of p) ≡ true
other_place q p e = go (is_vacant p) refl
  where
    go : (b : Bool) → is_vacant p ≡ b → is_other q (place_of p) ≡ true
    go true t = rw (vacant_place p t) refl
    go false t = rw (solid_place p t, e) refl

module _ {A : Type 0} (q : A → Bool) where
  vacated_past : (o : Option A) (ps : List (Option A)) → is_other q o ≡ true → vacated q (o ∷ ps) ≡ o ∷ vacated q ps
  vacated_past None ps e = refl
  vacated_past (Some x) ps e = go (q x) refl
    where
      go : (b : Bool) → q x ≡ b → vacated q (Some x ∷ ps) ≡ Some x ∷ vacated q ps
      go true t = let w : false ≡ true = rw t at e in absurd (cc)
      go false t = rw t refl

  distance_past : (o : Option A) (ps : List (Option A)) → is_other q o ≡ true → distance q (o ∷ ps) ≡ further 1 (distance q ps)
  distance_past None ps e = refl
  distance_past (Some x) ps e = go (q x) refl
    where
      go : (b : Bool) → q x ≡ b → distance q (Some x ∷ ps) ≡ further 1 (distance q ps)
      go true t = let w : false ≡ true = rw t at e in absurd (cc)
      go false t = rw t refl

  pub pass_places : (ps : List (Option A)) (at : ℕ) → at < length ps → is_other q (get_or ps at None) ≡ true
      → take at ps ++ vacated q (drop at ps) ≡ take (at + 1) ps ++ vacated q (drop (at + 1) ps)
  pass_places ps at l e =
      ap (λ (xs : List (Option A)). take at ps ++ vacated q xs) (drop_more ps at None l)
      ∙ ap (λ (xs : List (Option A)). take at ps ++ xs) (vacated_past (get_or ps at None) (drop (at + 1) ps) e)
      ∙ sym (append_assoc (take at ps) (get_or ps at None ∷ []) (vacated q (drop (at + 1) ps)))
      ∙ ap (λ (xs : List (Option A)). xs ++ vacated q (drop (at + 1) ps)) (sym (take_more ps at None l))

  pub pass_distance : (ps : List (Option A)) (at : ℕ) → at < length ps → is_other q (get_or ps at None) ≡ true
      → further at (distance q (drop at ps)) ≡ further (at + 1) (distance q (drop (at + 1) ps))
  pass_distance ps at l e =
      ap (λ (xs : List (Option A)). further at (distance q xs)) (drop_more ps at None l)
      ∙ ap (further at) (distance_past (get_or ps at None) (drop (at + 1) ps) e)
      ∙ further_more at (distance q (drop (at + 1) ps))

  pub pass_all : (ps : List (Option A)) (n from to : ℕ) → from + n ≡ to → to ≤ length ps
      → ((k : ℕ) → from ≤ k → k < to → is_other q (get_or ps k None) ≡ true)
      → (take from ps ++ vacated q (drop from ps) ≡ take to ps ++ vacated q (drop to ps)) × (further from (distance q (drop from ps)) ≡ further to (distance q (drop to ps)))
  pass_all ps zero from to e l other =
      let same : from ≡ to = omega arith in
      (ap (λ (k : ℕ). take k ps ++ vacated q (drop k ps)) same, ap (λ (k : ℕ). further k (distance q (drop k ps))) same)
  pass_all ps (suc n) from to e l other =
      let more = pass_all ps n (from + 1) to (omega arith) l (λ k a b. other k (omega arith) b) in
      let o = other from (omega arith) (omega arith) in
      (pass_places ps from (omega arith) o ∙ more.0, pass_distance ps from (omega arith) o ∙ more.1)

  pub left : (ps : List (Option A)) (at : ℕ) (x : A) → at < length ps → get_or ps at None ≡ Some x → q x ≡ true
      → set ps at None ≡ take at ps ++ vacated q (drop at ps)
  left ps at x l e t =
      let here : vacated q (drop at ps) ≡ None ∷ drop (at + 1) ps =
      ap (vacated q) (drop_more ps at None l ∙ ap (λ (o : Option A). o ∷ drop (at + 1) ps) e) ∙ rw t refl in
      sym (take-append-drop at (set ps at None))
      ∙ ap (λ (xs : List (Option A)). xs ++ drop at (set ps at None)) (take-set ps at None)
      ∙ ap (λ (xs : List (Option A)). take at ps ++ xs) (drop-set ps at None l ∙ sym here)

  pub left_at : (ps : List (Option A)) (at : ℕ) (x : A) → at < length ps → get_or ps at None ≡ Some x → q x ≡ true
      → Some at ≡ further at (distance q (drop at ps))
  left_at ps at x l e t =
      sym (ap (λ (xs : List (Option A)). further at (distance q xs)) (drop_more ps at None l ∙ ap (λ (o : Option A). o ∷ drop (at + 1) ps) e)
      ∙ rw t (ap (λ (k : ℕ). Some k) (omega arith)))

  pub none_left : (ps : List (Option A)) (at : ℕ) → length ps ≤ at → ps ≡ take at ps ++ vacated q (drop at ps)
  none_left ps at l =
      sym (take-append-drop at ps)
      ∙ ap (λ (xs : List (Option A)). take at ps ++ xs) (drop_all at ps l ∙ sym (ap (vacated q) (drop_all at ps l)))

  pub none_at : (ps : List (Option A)) (at : ℕ) → length ps ≤ at → None ≡ further at (distance q (drop at ps))
  none_at ps at l = sym (ap (λ (xs : List (Option A)). further at (distance q xs)) (drop_all at ps l))

-- ---- a gap

pub hole_stays : (q : Leaf → Bool) (p : Place) → is_vacant p ≡ true → false ≡ gives_way q (place_of p)
hole_stays q p e = rw (vacant_place p e) refl

pub solid_gives : (q : Leaf → Bool) (p : Place) → is_vacant p ≡ false → not (q (leaf_in p)) ≡ gives_way q (place_of p)
solid_gives q p e = rw (solid_place p e) refl

module _ {A : Type 0} (q : A → Bool) where
  gap_past : (o : Option A) (ps : List (Option A)) → gives_way q o ≡ true → gap q (o ∷ ps) ≡ further 1 (gap q ps)
  gap_past None ps e = absurd (cc)
  gap_past (Some x) ps e = go (q x) refl
    where
      go : (b : Bool) → q x ≡ b → gap q (Some x ∷ ps) ≡ further 1 (gap q ps)
      go true t = let w : false ≡ true = rw t at e in absurd (cc)
      go false t = rw t refl

  gap_here : (o : Option A) (ps : List (Option A)) → gives_way q o ≡ false → gap q (o ∷ ps) ≡ Some 0
  gap_here None ps e = refl
  gap_here (Some x) ps e = go (q x) refl
    where
      go : (b : Bool) → q x ≡ b → gap q (Some x ∷ ps) ≡ Some 0
      go true t = rw t refl
      go false t = let w : true ≡ false = rw t at e in absurd (cc)

  pub pass_gap : (ps : List (Option A)) (at : ℕ) → at < length ps → gives_way q (get_or ps at None) ≡ true
      → further at (gap q (drop at ps)) ≡ further (at + 1) (gap q (drop (at + 1) ps))
  pass_gap ps at l e =
      ap (λ (xs : List (Option A)). further at (gap q xs)) (drop_more ps at None l)
      ∙ ap (further at) (gap_past (get_or ps at None) (drop (at + 1) ps) e)
      ∙ further_more at (gap q (drop (at + 1) ps))

  pub gap_found : (ps : List (Option A)) (at : ℕ) → at < length ps → gives_way q (get_or ps at None) ≡ false
      → Some at ≡ further at (gap q (drop at ps))
  gap_found ps at l e =
      sym (ap (λ (xs : List (Option A)). further at (gap q xs)) (drop_more ps at None l)
      ∙ ap (further at) (gap_here (get_or ps at None) (drop (at + 1) ps) e) ∙ ap (λ (k : ℕ). Some k) (omega arith))

  pub no_gap : (ps : List (Option A)) (at : ℕ) → length ps ≤ at → None ≡ further at (gap q (drop at ps))
  no_gap ps at l = sym (ap (λ (xs : List (Option A)). further at (gap q xs)) (drop_all at ps l))

  some_suc : (o : Option ℕ) (n : ℕ) → further 1 o ≡ Some (suc n) → o ≡ Some n
  some_suc None n e = absurd (cc)
  some_suc (Some d) n e = let h : 1 + d ≡ suc n = cc in ap (λ (k : ℕ). Some k) (omega arith)

  never_zero : (o : Option ℕ) → further 1 o ≡ Some 0 → ⊥
  never_zero None e = cc
  never_zero (Some d) e = let h : 1 + d ≡ 0 = cc in omega arith

  stays_none : (o : Option ℕ) → further 1 o ≡ None → o ≡ None
  stays_none None e = refl
  stays_none (Some d) e = absurd (cc)

  further_suc : (n : ℕ) (d : Option ℕ) → further 1 (further n d) ≡ further (suc n) d
  further_suc n None = refl
  further_suc n (Some d) = ap (λ (k : ℕ). Some k) (omega arith)

  -- The gap is at a place that there is.
  pub gap_below : (ps : List (Option A)) (at : ℕ) → gap q ps ≡ Some at → at < length ps
  gap_below [] at e = absurd (cc)
  gap_below (None ∷ ps) at e = let h : 0 ≡ at = cc in omega arith
  gap_below (Some y ∷ ps) at e = go (q y) refl at e (gap_below ps)
    where
      go : (b : Bool) → q y ≡ b → (n : ℕ) → gap q (Some y ∷ ps) ≡ Some n → ((k : ℕ) → gap q ps ≡ Some k → k < length ps) → n < suc (length ps)
      go b t zero f more = omega arith
      go true t (suc n) f more = let h : Some 0 ≡ Some (suc n) = rw t at f in let k : 0 ≡ suc n = cc in absurd (omega arith)
      go false t (suc n) f more = omega (arith, more n (some_suc (gap q ps) n (rw t at f)))

  -- An item comes in front, as far as a hole.
  abbrev pub HoleClosed : A → List (Option A) → ℕ → Type 0
  HoleClosed x ps at =
      (shifted q x ps ≡ Some x ∷ take at ps ++ vacated q (drop (suc at) ps)) × (distance q ps ≡ further (suc at) (distance q (drop (suc at) ps)))

  pub hole_closed : (x : A) (ps : List (Option A)) (at : ℕ) → gap q ps ≡ Some at → get_or ps at None ≡ None → HoleClosed x ps at
  hole_closed x [] at e h = absurd (cc)
  hole_closed x (None ∷ ps) zero e h = (refl, refl)
  hole_closed x (None ∷ ps) (suc at) e h = let k : 0 ≡ suc at = cc in absurd (omega arith)
  hole_closed x (Some y ∷ ps) at e h = go (q y) refl at e h (hole_closed y ps)
    where
      go : (b : Bool) → q y ≡ b → (n : ℕ) → gap q (Some y ∷ ps) ≡ Some n → get_or (Some y ∷ ps) n None ≡ None
          → ((k : ℕ) → gap q ps ≡ Some k → get_or ps k None ≡ None → HoleClosed y ps k) → HoleClosed x (Some y ∷ ps) n
      go b t zero f i more = let k : Some y ≡ None = i in absurd (cc)
      go true t (suc n) f i more = let g : Some 0 ≡ Some (suc n) = rw t at f in let k : 0 ≡ suc n = cc in absurd (omega arith)
      go false t (suc n) f i more =
          let m = more n (some_suc (gap q ps) n (rw t at f)) i in
          rw t (ap (λ (xs : List (Option A)). Some x ∷ xs) m.0, ap (further 1) m.1 ∙ further_suc (suc n) (distance q (drop (suc n) ps)))

  -- As far as its own place, which has an item that meets the test.
  abbrev pub OwnClosed : A → List (Option A) → ℕ → A → Type 0
  OwnClosed x ps at z = (shifted q x ps ≡ Some x ∷ take at ps ++ drop (suc at) ps) × (distance q ps ≡ Some at) × (q z ≡ true)

  pub own_closed : (x : A) (ps : List (Option A)) (at : ℕ) (z : A) → gap q ps ≡ Some at → get_or ps at None ≡ Some z → OwnClosed x ps at z
  own_closed x [] at z e h = absurd (cc)
  own_closed x (None ∷ ps) zero z e h = absurd (cc)
  own_closed x (None ∷ ps) (suc at) z e h = let k : 0 ≡ suc at = cc in absurd (omega arith)
  own_closed x (Some y ∷ ps) at z e h = go (q y) refl at e h (λ k. own_closed y ps k z)
    where
      go : (b : Bool) → q y ≡ b → (n : ℕ) → gap q (Some y ∷ ps) ≡ Some n → get_or (Some y ∷ ps) n None ≡ Some z
          → ((k : ℕ) → gap q ps ≡ Some k → get_or ps k None ≡ Some z → OwnClosed y ps k z) → OwnClosed x (Some y ∷ ps) n z
      go true t zero f i more = let s : z ≡ y = cc in let own : q z ≡ true = ap q s ∙ t in rw t (refl, refl, own)
      go true t (suc n) f i more = let g : Some 0 ≡ Some (suc n) = rw t at f in let k : 0 ≡ suc n = cc in absurd (omega arith)
      go false t zero f i more = absurd (never_zero (gap q ps) (rw t at f))
      go false t (suc n) f i more =
          let m = more n (some_suc (gap q ps) n (rw t at f)) i in
          rw t (ap (λ (xs : List (Option A)). Some x ∷ xs) m.0, ap (further 1) m.1 ∙ ap (λ (k : ℕ). Some k) (omega arith), m.2)

  -- There is no hole, and the item is in no place.
  pub all_give_way : (x : A) (ps : List (Option A)) → gap q ps ≡ None → (shifted q x ps ≡ Some x ∷ ps) × (distance q ps ≡ None)
  all_give_way x [] e = (refl, refl)
  all_give_way x (None ∷ ps) e = absurd (cc)
  all_give_way x (Some y ∷ ps) e = go (q y) refl (all_give_way y ps)
    where
      go : (b : Bool) → q y ≡ b → (gap q ps ≡ None → (shifted q y ps ≡ Some y ∷ ps) × (distance q ps ≡ None))
          → (shifted q x (Some y ∷ ps) ≡ Some x ∷ Some y ∷ ps) × (distance q (Some y ∷ ps) ≡ None)
      go true t more = let g : Some 0 ≡ None = rw t at e in absurd (cc)
      go false t more =
          let m = more (stays_none (gap q ps) (rw t at e)) in
          rw t (ap (λ (xs : List (Option A)). Some x ∷ xs) m.0, ap (further 1) m.1)

-- ---- places move on

module _ {A : Type 0} (x : A) (xs ys : List A) (n : ℕ) (same : length xs ≡ n) where
  pub front_taken : take (n + 1) (x ∷ xs ++ ys) ≡ x ∷ xs
  front_taken = let e : n + 1 ≡ suc n = omega arith in ap (λ (k : ℕ). take k (x ∷ xs ++ ys)) e ∙ ap (λ (zs : List A). x ∷ zs) (take_at xs ys n same)

  pub front_dropped : drop (n + 1) (x ∷ xs ++ ys) ≡ ys
  front_dropped = let e : n + 1 ≡ suc n = omega arith in ap (λ (k : ℕ). drop k (x ∷ xs ++ ys)) e ∙ ap (λ (k : ℕ). drop k (xs ++ ys)) (sym same) ∙ drop-append_seam xs ys

-- The first place that is a hole is filled, and after it the leaf leaves a hole.
pub hole_filled : (q : Leaf → Bool) (leaf : Leaf) (old front new : List (Option Leaf)) (at : ℕ)
    → gap q old ≡ Some at → get_or old at None ≡ None
    → front ≡ Some leaf ∷ take at old ++ drop (suc at) old
    → new ≡ take (at + 1) front ++ vacated q (drop (at + 1) front)
    → new ≡ shifted q leaf old
hole_filled q leaf old front new at e h f n =
    let same : length (take at old) ≡ at = length-take-le at old (omega (arith, gap_below q old at e)) in
    n
    ∙ ap (λ (xs : List (Option Leaf)). take (at + 1) xs ++ vacated q (drop (at + 1) xs)) f
    ∙ ap (λ (xs : List (Option Leaf)). xs ++ vacated q (drop (at + 1) (Some leaf ∷ take at old ++ drop (suc at) old))) (front_taken (Some leaf) (take at old) (drop (suc at) old) at same)
    ∙ ap (λ (xs : List (Option Leaf)). Some leaf ∷ take at old ++ vacated q xs) (front_dropped (Some leaf) (take at old) (drop (suc at) old) at same)
    ∙ sym (hole_closed q leaf old at e h).0

pub hole_distance : (q : Leaf → Bool) (leaf : Leaf) (old front : List (Option Leaf)) (at : ℕ)
    → gap q old ≡ Some at → get_or old at None ≡ None
    → front ≡ Some leaf ∷ take at old ++ drop (suc at) old
    → further (at + 1) (distance q (drop (at + 1) front)) ≡ distance q old
hole_distance q leaf old front at e h f =
    let same : length (take at old) ≡ at = length-take-le at old (omega (arith, gap_below q old at e)) in
    ap (λ (xs : List (Option Leaf)). further (at + 1) (distance q (drop (at + 1) xs))) f
    ∙ ap (λ (xs : List (Option Leaf)). further (at + 1) (distance q xs)) (front_dropped (Some leaf) (take at old) (drop (suc at) old) at same)
    ∙ ap (λ (k : ℕ). further k (distance q (drop (suc at) old))) (omega arith)
    ∙ sym (hole_closed q leaf old at e h).1

-- A slot that was found for a rank is the first of its own.
pub first_own : (rank slot : ℕ) (ranks : List ℕ) → IsFirst rank slot ranks → IsFirst (get_or ranks slot 0) slot ranks
first_own rank slot ranks f = record { is = refl; others = λ k m h. f.others k m (h ∙ f.is) }

pub gap_there : (q : Leaf → Bool) (rank slot : ℕ) (ranks : List ℕ) (slots : List Place) → slot < 64 → rank < 64 → IsFirst rank slot ranks
    → gap q (in_turn ranks (places_of slots)) ≡ Some rank → IsGap q slot ranks slots
gap_there q rank slot ranks slots within below f g =
    record { within = within; below = omega (arith, f.is); first = first_own rank slot ranks f; is = g ∙ ap (λ (k : ℕ). Some k) (sym f.is) }

-- There is no gap, and the last place goes.
pub last_goes : (q : Leaf → Bool) (leaf : Leaf) (old new : List (Option Leaf)) (n : ℕ) → length old ≡ n → 0 < n → gap q old ≡ None
    → new ≡ Some leaf ∷ take (n - 1) old ++ drop (suc (n - 1)) old → new ≡ take n (shifted q leaf old)
last_goes q leaf old new n same some e f =
    f
    ∙ ap (λ (xs : List (Option Leaf)). Some leaf ∷ take (n - 1) old ++ xs) (drop_all (suc (n - 1)) old (omega arith))
    ∙ ap (λ (xs : List (Option Leaf)). Some leaf ∷ xs) (append_nil (take (n - 1) old))
    ∙ ap (λ (k : ℕ). take k (Some leaf ∷ old)) (let k : suc (n - 1) ≡ n = omega arith in k)
    ∙ ap (take n) (sym (all_give_way q leaf old e).0)

-- ---- marks

-- Places of the same leaf have the same mark.
pub same_marks : (leaf p : Place) → is_vacant leaf ≡ false → is_vacant p ≡ false → same_leaf (leaf_in leaf) (leaf_in p) ≡ true → mark_of p ≡ mark_of leaf
same_marks leaf p solid filled f =
    let t : (p.tag == leaf.tag) ≡ true = first_so (p.tag == leaf.tag) (same_words leaf.word p.word) (sym (same_parts leaf p) ∙ f) in
    let same : p.tag ≡ leaf.tag = grind (arith, nat_tests) in
    ap (λ (b : Bool). mark_unless b p.tag) filled ∙ ap (λ (n : ℕ). mark_unless false n) same ∙ sym (ap (λ (b : Bool). mark_unless b leaf.tag) solid)

-- A place with another mark than a leaf's has another leaf.
marked_other : (leaf p : Place) → is_vacant leaf ≡ false → is_vacant p ≡ false → mark_of p ≢ mark_of leaf → same_leaf (leaf_in leaf) (leaf_in p) ≡ false
marked_other leaf p solid filled other = go (same_leaf (leaf_in leaf) (leaf_in p)) refl
  where
    go : (s : Bool) → same_leaf (leaf_in leaf) (leaf_in p) ≡ s → same_leaf (leaf_in leaf) (leaf_in p) ≡ false
    go false f = f
    go true f = absurd (other (same_marks leaf p solid filled f))

-- A place with another mark than a leaf's and a hole's gives way to the leaf.
other_gives : (leaf p : Place) → is_vacant leaf ≡ false → IsNeither (mark_of leaf) 255 (mark_of p) → gives_way (same_leaf (leaf_in leaf)) (place_of p) ≡ true
other_gives leaf p solid other = go (is_vacant p) refl
  where
    go : (v : Bool) → is_vacant p ≡ v → gives_way (same_leaf (leaf_in leaf)) (place_of p) ≡ true
    go true e = absurd (other.1 (ap (λ (b : Bool). mark_unless b p.tag) e))
    go false e = rw (solid_place p e, marked_other leaf p solid e other.0) refl

-- One with another mark than the leaf's is passed.
other_passed : (leaf p : Place) → is_vacant leaf ≡ false → mark_of p ≢ mark_of leaf → is_other (same_leaf (leaf_in leaf)) (place_of p) ≡ true
other_passed leaf p solid other = go (is_vacant p) refl
  where
    go : (v : Bool) → is_vacant p ≡ v → is_other (same_leaf (leaf_in leaf)) (place_of p) ≡ true
    go true e = rw (vacant_place p e) refl
    go false e = rw (solid_place p e, marked_other leaf p solid e other) refl

-- Places that give way are passed.
pass_gaps : {A : Type 0} (q : A → Bool) (ps : List (Option A)) (n from to : ℕ) → from + n ≡ to → to ≤ length ps
    → ((k : ℕ) → from ≤ k → k < to → gives_way q (get_or ps k None) ≡ true) → further from (gap q (drop from ps)) ≡ further to (gap q (drop to ps))
pass_gaps q ps zero from to e l gives = ap (λ (k : ℕ). further k (gap q (drop k ps))) (let same : from ≡ to = omega arith in same)
pass_gaps q ps (suc n) from to e l gives =
    pass_gap q ps from (omega arith) (gives from (omega arith) (omega arith))
    ∙ pass_gaps q ps n (from + 1) to (omega arith) l (λ k a b. gives k (omega arith) b)

module _ (marks : List ℕ) (places : List Place) (are : AreMarks marks places) where
  -- the mark of a place
  pub mark_read : (k : ℕ) (d : Place) → k < length places → get_or marks k 0 ≡ mark_of (get_or places k d)
  mark_read k d l = ap (λ (ms : List ℕ). get_or ms k 0) are ∙ get_or-map mark_of places k d 0 l

  pub mark_written : (at mark : ℕ) (p : Place) → mark ≡ mark_of p → AreMarks (set marks at mark) (set places at p)
  mark_written at mark p is =
      ap (λ (m : ℕ). set marks at m) is ∙ ap (λ (ms : List ℕ). set ms at (mark_of p)) are ∙ sym (map-set mark_of places at p)

module _ (marks ranks : List ℕ) (slots : List Place) (kept : IsStack marks ranks slots) (r64 : length ranks ≡ 64) (s64 : length slots ≡ 64) where
  abbrev all : List (Option Leaf)
  all = in_turn ranks (places_of slots)

  p64 : length (places_of slots) ≡ 64
  p64 = length-map slots place_of ∙ s64

  -- What is at the rank of a slot.
  pub at_slot : (rank slot : ℕ) (d : Place) → rank < 64 → slot < 64 → IsFirst rank slot ranks → get_or all rank None ≡ place_of (get_or slots slot d)
  at_slot rank slot d l m f =
      turn_at ranks (places_of slots) rank l ∙ at_first rank slot ranks (places_of slots) (omega (arith, p64)) (omega arith) f ∙ read slots slot d (omega arith)

  -- What holds of the slots of these ranks holds of the places there.
  held_from : (t : Option Leaf → Bool) (from to : ℕ) → to ≤ 64
      → ((s : ℕ) (d : Place) → s < 64 → from ≤ get_or ranks s 0 → get_or ranks s 0 < to → t (place_of (get_or slots s d)) ≡ true)
      → (k : ℕ) → from ≤ k → k < to → t (get_or all k None) ≡ true
  held_from t from to small each k a b =
      let h = kept.ranked k (omega arith) in
      rw (turn_at ranks (places_of slots) k (omega arith))
      (held_at t k h.slot ranks (places_of slots) (omega (arith, p64)) (omega (arith, h.within)) h.is
      (λ s l is.
      let d : Place = record { tag = 0; word = 0 } in
      rw (read slots s d (omega arith)) (each s d (omega arith) (omega arith) (omega arith))))

  -- Places with other marks than a leaf's and a hole's are passed on the way to the gap.
  pub gaps_passed : (leaf : Place) (from to : ℕ) → is_vacant leaf ≡ false → from ≤ to → to ≤ 64
      → ((s : ℕ) → s < 64 → from ≤ get_or ranks s 0 → get_or ranks s 0 < to → IsNeither (mark_of leaf) 255 (get_or marks s 0))
      → further from (gap (same_leaf (leaf_in leaf)) (drop from all)) ≡ further to (gap (same_leaf (leaf_in leaf)) (drop to all))
  gaps_passed leaf from to solid l m others =
      pass_gaps (same_leaf (leaf_in leaf)) all (to - from) from to (omega arith) (omega (arith, turn_length ranks (places_of slots)))
      (held_from (gives_way (same_leaf (leaf_in leaf))) from to m
      (λ s d n a b.
      let inside : s < length slots = omega arith in
      let other : IsNeither (mark_of leaf) 255 (mark_of (get_or slots s d)) = rw (mark_read marks slots kept.marked s d inside) at (others s n a b) in
      other_gives leaf (get_or slots s d) solid other))

  -- Places with other marks than a leaf's are passed on the way to the leaf.
  pub places_passed : (leaf : Place) (from to : ℕ) → is_vacant leaf ≡ false → from ≤ to → to ≤ 64
      → ((s : ℕ) → s < 64 → from ≤ get_or ranks s 0 → get_or ranks s 0 < to → get_or marks s 0 ≢ mark_of leaf)
      → (take from all ++ vacated (same_leaf (leaf_in leaf)) (drop from all) ≡ take to all ++ vacated (same_leaf (leaf_in leaf)) (drop to all))
      × (further from (distance (same_leaf (leaf_in leaf)) (drop from all)) ≡ further to (distance (same_leaf (leaf_in leaf)) (drop to all)))
  places_passed leaf from to solid l m others =
      pass_all (same_leaf (leaf_in leaf)) all (to - from) from to (omega arith) (omega (arith, turn_length ranks (places_of slots)))
      (held_from (is_other (same_leaf (leaf_in leaf))) from to m
      (λ s d n a b.
      let inside : s < length slots = omega arith in
      let other : mark_of (get_or slots s d) ≢ mark_of leaf = rw (mark_read marks slots kept.marked s d inside) at (others s n a b) in
      other_passed leaf (get_or slots s d) solid other))

-- ---- what passes a test leaves a hole

-- one place more is purged
pub purged_more : (f : Option Leaf → Option Leaf) (ps ls : List Place) (at : ℕ) (p d : Place) → at < length ls → length ls ≡ length ps
    → places_of ls ≡ map f (take at (places_of ps)) ++ drop at (places_of ps) → place_of p ≡ f (place_of (get_or ls at d))
    → places_of (set ls at p) ≡ map f (take (at + 1) (places_of ps)) ++ drop (at + 1) (places_of ps)
purged_more f ps ls at p d l same so is =
    let m : at < length (places_of ps) = rw (length-map ps place_of) (omega arith) in
    let o : Option Leaf = get_or (places_of ls) at None in
    let r : o ≡ place_of (get_or ls at d) = read ls at d l in
    map-set place_of ls at p
    ∙ ap (set (places_of ls) at) (is ∙ ap f (sym r))
    ∙ map_over_more f (places_of ps) (places_of ls) at o m so (get_or_default (places_of ls) at None o (rw (length-map ls place_of) l))

-- one slot more is as it was, or a hole
pub thinned_more : (old : List (Option Leaf)) (ls : List Place) (at : ℕ) (p d : Place) → at < length ls → AreThinned old (places_of ls)
    → IsSameOrHole (place_of (get_or ls at d)) (place_of p) → AreThinned old (places_of (set ls at p))
thinned_more old ls at p d l thinned goes = λ s t hole held. rw (map-set place_of ls at p) (go s (s == at) refl t hole held)
  where
    go : (s : ℕ) (b : Bool) → (s == at) ≡ b → IsSameOrHole (get_or old s None) (get_or (set (places_of ls) at (place_of p)) s None)
    go s true e = λ t hole held.
        let is : s ≡ at = grind (arith, nat_tests) in
        rw (is, get_or-set_same (places_of ls) at (place_of p) None (rw (length-map ls place_of) l))
        (goes t hole (rw (← read ls at d l, ← is) (thinned s t hole held)))
    go s false e = let n : s ≢ at = grind (arith, nat_tests) in rw (get_or-set_other (places_of ls) at s (place_of p) None n) (thinned s)

-- ---- the distance

distance_step : {A : Type 0} (q : A → Bool) (ps : List (Option A)) (d : ℕ) → ((k : ℕ) → distance q ps ≡ Some k → k < length ps)
    → further 1 (distance q ps) ≡ Some d → d < suc (length ps)
distance_step q ps d below e = go (distance q ps) refl e
  where
    go : (o : Option ℕ) → distance q ps ≡ o → further 1 o ≡ Some d → d < suc (length ps)
    go None is f = absurd (cc)
    go (Some k) is f = let h : 1 + k ≡ d = cc in omega (arith, below k is)

pub distance_below : {A : Type 0} (q : A → Bool) (ps : List (Option A)) (d : ℕ) → distance q ps ≡ Some d → d < length ps
distance_below q [] d e = absurd (cc)
distance_below q (None ∷ ps) d e = distance_step q ps d (distance_below q ps) e
distance_below q (Some x ∷ ps) d e = go (q x) refl (distance_step q ps d (distance_below q ps))
  where
    go : (b : Bool) → q x ≡ b → (further 1 (distance q ps) ≡ Some d → d < suc (length ps)) → d < suc (length ps)
    go true t more = let h : 0 ≡ d = let f : Some 0 ≡ Some d = rw t at e in cc in omega arith
    go false t more = more (rw t at e)

pub some_below : {A : Type 0} (o : Option ℕ) (q : A → Bool) (ps : List (Option A)) (n : ℕ) → o ≡ distance q ps → length ps ≤ n → IfSome o (λ d. d < n)
some_below None q ps n e l = tt
some_below (Some d) q ps n e l = omega (arith, distance_below q ps d (sym e))

-- ---- a place without its leaf

pub without_hole : (q : Leaf → Bool) (p : Place) → is_vacant p ≡ true → place_of p ≡ place_without q (place_of p)
without_hole q p vacant = rw (vacant_place p vacant) refl

pub without_met : (q : Leaf → Bool) (p hole : Place) → is_vacant hole ≡ true → is_vacant p ≡ false → q (leaf_in p) ≡ true → place_of hole ≡ place_without q (place_of p)
without_met q p hole vacant solid t = rw (vacant_place hole vacant, solid_place p solid, t) refl

pub without_kept : (q : Leaf → Bool) (p : Place) → is_vacant p ≡ false → q (leaf_in p) ≡ false → place_of p ≡ place_without q (place_of p)
without_kept q p solid f = rw (solid_place p solid, f) refl

-- A place with a name's tag has a leaf of the name, one with another tag has none.
pub named_goes : (space first : ℕ) (o : Order) (named p hole : Place) → IsNamed space first o named → is_vacant hole ≡ true → (p.tag == named.tag) ≡ true
    → place_of hole ≡ place_without (is_leaf space first o) (place_of p)
named_goes space first o named p hole n vacant t =
    let same : p.tag ≡ named.tag = grind (arith, nat_tests) in
    without_met (is_leaf space first o) p hole vacant (rw same n.solid) (n.named p ∙ t)

pub named_stays : (space first : ℕ) (o : Order) (named p : Place) → IsNamed space first o named → (p.tag == named.tag) ≡ false
    → place_of p ≡ place_without (is_leaf space first o) (place_of p)
named_stays space first o named p n f = go (is_vacant p) refl
  where
    go : (v : Bool) → is_vacant p ≡ v → place_of p ≡ place_without (is_leaf space first o) (place_of p)
    go true e = without_hole (is_leaf space first o) p e
    go false e = without_kept (is_leaf space first o) p e (n.named p ∙ f)

-- A place with another mark than a name's has another leaf than the name's.
unnamed : (space first : ℕ) (o : Order) (named p : Place) → IsNamed space first o named → mark_of p ≢ mark_of named
    → place_without (is_leaf space first o) (place_of p) ≡ place_of p
unnamed space first o named p n other = go (p.tag == named.tag) refl
  where
    go : (s : Bool) → (p.tag == named.tag) ≡ s → place_without (is_leaf space first o) (place_of p) ≡ place_of p
    go false f = sym (named_stays space first o named p n f)
    go true t =
        let same : p.tag ≡ named.tag = grind (arith, nat_tests) in
        absurd (other (ap (λ (k : ℕ). mark_unless (k == 18446744073709551615) k) same))

pub turned : (b : Bool) → not b ≡ true → b ≡ false
turned true e = absurd (cc)
turned false e = refl

-- Where all marks are other ones, no leaf of the name is removed.
pub none_named : (space first : ℕ) (o : Order) (named : Place) (marks : List ℕ) (places : List Place) → IsNamed space first o named → AreMarks marks places
    → ((k : ℕ) → k < length places → get_or marks k 0 ≢ mark_of named) → map (place_without (is_leaf space first o)) (places_of places) ≡ places_of places
none_named space first o named marks places n are others = go places (λ k l. rw are at (others k l))
  where
    go : (ps : List Place) → ((k : ℕ) → k < length ps → get_or (map mark_of ps) k 0 ≢ mark_of named) → map (place_without (is_leaf space first o)) (places_of ps) ≡ places_of ps
    go [] h = refl
    go (p ∷ ps) h =
        ap (λ (x : Option Leaf). x ∷ map (place_without (is_leaf space first o)) (places_of ps)) (unnamed space first o named p n (h zero (omega arith)))
        ∙ ap (λ (xs : List (Option Leaf)). place_of p ∷ xs) (go ps (λ k l. h (suc k) (omega arith)))

-- all places were purged
pub all_purged : (f : Option Leaf → Option Leaf) (ps ls : List (Option Leaf)) (at : ℕ) → length ps ≤ at
    → ls ≡ map f (take at ps) ++ drop at ps → ls ≡ map f ps
all_purged f ps ls at l is =
    is
    ∙ ap (λ (xs : List (Option Leaf)). map f xs ++ drop at ps) (take_all at ps l)
    ∙ ap (λ (xs : List (Option Leaf)). map f ps ++ xs) (drop_all at ps l)
    ∙ append_nil (map f ps)
