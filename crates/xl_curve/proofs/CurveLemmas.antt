-- What a change of one set's list of places is for the points of all widths.
use Rattle.xl_curve.proofs.Common.{◌%◌, ◌++◌, ◌+◌, ◌-◌, ◌<◌, ◌^◌, ◌∙◌, ◌∷◌, ◌≡◌, ◌≤◌, [], ap, arith, array_filled, Bool, counted, curve_accessed, curve_missed, curve_of, curve_without, distance, drop, false, find, found_same, get_or, get_or-map, get_or-map-range_with_len, held, HitCurve, hits_at, hits_below, hits_of, IfSome, is_some, IsCurve, Leaf, length, length-map, length-set, List, looked_for, map, map-range_with_len_more, map-set, nat_lt, nat_tests, None, opening_curve, opening_point, Option, Order, pages_of, place_without, Point, point_accessed, point_at, point_without, purged, range_with_len, refl, removed, replicate, same_leaf, set, set_of, shifted, Some, spec_of_width, subst, suc, sum, sym, take, take-append-le, take-set-le, take_all, take_more_set, takes_order, touched, true, with_front, with_newest, zero, ℕ}
use Rattle.std.proofs.lemmas.List.Sums.{sum_by-cons, sum_by_more}
use Rattle.xl_model.specs.Base.{plus}
use Rattle.xl_curve.proofs.RankLemmas.{each_in_range}
use Rattle.xl_curve.proofs.SetLemmas.{front_kept, removed_kept}
use Rattle.xl_curve.proofs.StackLemmas.{distance_held, filled_held, purged_held, taken_held, touched_held, within}
use Rattle.xl_model.specs.declared.address.Order.TheVariants as order

-- ---- hits

-- One more where the test holds.
abbrev pub raised : Bool → ℕ → ℕ
raised true n = plus n 1
raised false n = n

sum_set : (counts : List ℕ) (d w v : ℕ) → d < length counts → d < w → sum (take w (set counts d v)) + get_or counts d 0 ≡ sum (take w counts) + v
sum_set [] d w v l m = absurd (omega arith)
sum_set (c ∷ counts) d zero v l m = absurd (omega arith)
sum_set (c ∷ counts) zero (suc w) v l m = omega (arith, sum_by-cons (λ (n : ℕ). n) v (take w counts), sum_by-cons (λ (n : ℕ). n) c (take w counts))
sum_set (c ∷ counts) (suc d) (suc w) v l m =
    omega (arith, sum_set counts d w v (omega arith) (omega arith), sum_by-cons (λ (n : ℕ). n) c (take w (set counts d v)), sum_by-cons (λ (n : ℕ). n) c (take w counts))

pub hits_counted : (counts : List ℕ) (o : Option ℕ) (w : ℕ) → IfSome o (λ d. d < length counts)
    → sum (take w (counted o counts)) % 2 ^ 64 ≡ raised (within o w) (sum (take w counts) % 2 ^ 64)
hits_counted counts None w l = refl
hits_counted counts (Some d) w l = go (nat_lt d w) refl
  where
    go : (b : Bool) → nat_lt d w ≡ b → sum (take w (set counts d (plus (get_or counts d 0) 1))) % 2 ^ 64 ≡ raised b (sum (take w counts) % 2 ^ 64)
    go true t =
        let m : d < w = grind (arith, nat_tests) in
        omega (arith, sum_set counts d w (plus (get_or counts d 0) 1) l m)
    go false t =
        let m : w ≤ d = grind (arith, nat_tests) in
        ap (λ (xs : List ℕ). sum xs % 2 ^ 64) (take-set-le w counts d (plus (get_or counts d 0) 1) m)

-- ---- a look-up at one width

-- A point of this width.
abbrev pub point : ℕ → ℕ → List (List Leaf) → ℕ → Point
point sets width lists hits = record { array = record { spec = spec_of_width sets width; sets = lists }; hits = hits }

pub same_point : (width sets more : ℕ) (lists others : List (List Leaf)) (hits count : ℕ) → sets ≡ more → lists ≡ others → hits ≡ count
    → point sets width lists hits ≡ point more width others count
same_point width sets more lists others hits count a b c =
    ap (λ (n : ℕ). point n width lists hits) a
    ∙ ap (λ (xs : List (List Leaf)). point more width xs hits) b
    ∙ ap (λ (n : ℕ). point more width others n) c

takes_each : (sets width : ℕ) (o : Order) → takes_order (spec_of_width sets width) o ≡ true
takes_each sets width order.K4 = refl
takes_each sets width order.M2 = refl
takes_each sets width order.G1 = refl

filled_each : (sets width : ℕ) (lists : List (List Leaf)) (leaf : Leaf) (hits : ℕ)
    → (let p : Point = record { array = array_filled leaf (record { spec = spec_of_width sets width; sets = lists }); hits = hits } in p)
    ≡ point sets width (set lists (set_of sets leaf) (with_newest width leaf (get_or lists (set_of sets leaf) []))) hits
unfolding array_filled
filled_each sets width lists leaf hits = rw (takes_each sets width leaf.order) refl

module _ (stacks : List (List (Option Leaf))) (counts : List ℕ) (leaf : Leaf) (width : ℕ)
    (few : width ≤ 64) (inside : set_of (length stacks) leaf < length stacks) where
  abbrev places : List (Option Leaf)
  places = get_or stacks (set_of (length stacks) leaf) []

  -- the list of the leaf's set
  list_at : get_or (map (held width) stacks) (set_of (length stacks) leaf) [] ≡ held width places
  list_at = get_or-map (held width) stacks (set_of (length stacks) leaf) [] [] inside

  -- the lists after the list of places is brought up to date
  lists_after : (xs : List Leaf) → held width (shifted (same_leaf leaf) leaf places) ≡ xs
      → map (held width) (with_front (set_of (length stacks) leaf) leaf stacks) ≡ set (map (held width) stacks) (set_of (length stacks) leaf) xs
  lists_after xs is =
      map-set (held width) stacks (set_of (length stacks) leaf) (take 64 (shifted (same_leaf leaf) leaf places))
      ∙ ap (set (map (held width) stacks) (set_of (length stacks) leaf)) (taken_held width 64 (shifted (same_leaf leaf) leaf places) few ∙ is)

  -- An array that holds the leaf is hit, and touches it.
  hit_point : (y : Leaf) → find (same_leaf leaf) (held width places) ≡ Some y → IfSome (distance (same_leaf leaf) places) (λ d. d < length counts)
      → point (length stacks) width (set (map (held width) stacks) (set_of (length stacks) leaf) (touched (same_leaf leaf) (held width places))) (plus (sum (take width counts) % 2 ^ 64) 1)
      ≡ point_at (with_front (set_of (length stacks) leaf) leaf stacks) (counted (distance (same_leaf leaf) places) counts) width
  hit_point y e bounded =
      let f : find (same_leaf leaf) (held width places) ≡ Some leaf = e ∙ ap (λ (z : Leaf). Some z) (found_same leaf (held width places) y e) in
      let near : within (distance (same_leaf leaf) places) width ≡ true = sym (distance_held (same_leaf leaf) width places) ∙ ap (λ (o : Option Leaf). is_some o) e in
      same_point width (length stacks) (length (with_front (set_of (length stacks) leaf) leaf stacks)) _ _ _ _
      (sym (length-set stacks (set_of (length stacks) leaf) (take 64 (shifted (same_leaf leaf) leaf places))))
      (sym (lists_after (touched (same_leaf leaf) (held width places)) (touched_held (same_leaf leaf) leaf width places f)))
      (sym (hits_counted counts (distance (same_leaf leaf) places) width bounded ∙ ap (λ (b : Bool). raised b (sum (take width counts) % 2 ^ 64)) near))

  -- One that doesn't is filled.
  miss_point : find (same_leaf leaf) (held width places) ≡ None → IfSome (distance (same_leaf leaf) places) (λ d. d < length counts)
      → point (length stacks) width (set (map (held width) stacks) (set_of (length stacks) leaf) (with_newest width leaf (held width places))) (sum (take width counts) % 2 ^ 64)
      ≡ point_at (with_front (set_of (length stacks) leaf) leaf stacks) (counted (distance (same_leaf leaf) places) counts) width
  miss_point e bounded =
      let far : within (distance (same_leaf leaf) places) width ≡ false = sym (distance_held (same_leaf leaf) width places) ∙ ap (λ (o : Option Leaf). is_some o) e in
      same_point width (length stacks) (length (with_front (set_of (length stacks) leaf) leaf stacks)) _ _ _ _
      (sym (length-set stacks (set_of (length stacks) leaf) (take 64 (shifted (same_leaf leaf) leaf places))))
      (sym (lists_after (with_newest width leaf (held width places)) (filled_held (same_leaf leaf) leaf width places e)))
      (sym (hits_counted counts (distance (same_leaf leaf) places) width bounded ∙ ap (λ (b : Bool). raised b (sum (take width counts) % 2 ^ 64)) far))

  pub accessed_point : IfSome (distance (same_leaf leaf) places) (λ d. d < length counts)
      → point_accessed leaf (point_at stacks counts width)
      ≡ point_at (with_front (set_of (length stacks) leaf) leaf stacks) (counted (distance (same_leaf leaf) places) counts) width
  accessed_point bounded = rw list_at (go (find (same_leaf leaf) (held width places)) refl)
    where
      go : (o : Option Leaf) → find (same_leaf leaf) (held width places) ≡ o
          → looked_for o leaf (point_at stacks counts width)
          ≡ point_at (with_front (set_of (length stacks) leaf) leaf stacks) (counted (distance (same_leaf leaf) places) counts) width
      go (Some y) e = rw list_at (hit_point y e bounded)
      go None e = filled_each (length stacks) width (map (held width) stacks) leaf (sum (take width counts) % 2 ^ 64) ∙ rw list_at (miss_point e bounded)

-- ---- the whole curve

pub accessed_curve : (stacks : List (List (Option Leaf))) (counts : List ℕ) (lookups : ℕ) (leaf : Leaf) → set_of (length stacks) leaf < length stacks
    → IfSome (distance (same_leaf leaf) (get_or stacks (set_of (length stacks) leaf) [])) (λ d. d < length counts)
    → curve_of (with_front (set_of (length stacks) leaf) leaf stacks) (counted (distance (same_leaf leaf) (get_or stacks (set_of (length stacks) leaf) [])) counts) (plus lookups 1)
    ≡ curve_accessed leaf (curve_of stacks counts lookups)
unfolding curve_of curve_accessed
accessed_curve stacks counts lookups leaf inside bounded =
    ap (λ (points : List Point). let c : HitCurve = record { points = points; lookups = plus lookups 1 } in c)
    (sym (each_in_range (point_accessed leaf) (point_at stacks counts)
    (point_at (with_front (set_of (length stacks) leaf) leaf stacks) (counted (distance (same_leaf leaf) (get_or stacks (set_of (length stacks) leaf) [])) counts))
    1 64 (λ w l m. accessed_point stacks counts leaf w (omega arith) inside bounded)))

-- The same, by the result of each step.
pub accessed_by : (stacks new : List (List (Option Leaf))) (counts more : List ℕ) (lookups set : ℕ) (leaf : Leaf) (o : Option ℕ)
    → set ≡ set_of (length stacks) leaf → set < length stacks → new ≡ with_front set leaf stacks
    → o ≡ distance (same_leaf leaf) (get_or stacks set []) → IfSome o (λ d. d < length counts) → more ≡ counted o counts
    → curve_of new more (plus lookups 1) ≡ curve_accessed leaf (curve_of stacks counts lookups)
accessed_by stacks new counts more lookups set leaf o s inside n d below m =
    let inside_is : set_of (length stacks) leaf < length stacks = rw s at inside in
    let n_is : new ≡ with_front (set_of (length stacks) leaf) leaf stacks = rw s at n in
    let d_is : o ≡ distance (same_leaf leaf) (get_or stacks (set_of (length stacks) leaf) []) = rw s at d in
    let m_is : more ≡ counted (distance (same_leaf leaf) (get_or stacks (set_of (length stacks) leaf) [])) counts = m ∙ ap (λ (k : Option ℕ). counted k counts) d_is in
    ap (λ (xs : List (List (Option Leaf))). curve_of xs more (plus lookups 1)) n_is
    ∙ ap (λ (xs : List ℕ). curve_of (with_front (set_of (length stacks) leaf) leaf stacks) xs (plus lookups 1)) m_is
    ∙ accessed_curve stacks counts lookups leaf inside_is (subst (λ (k : Option ℕ). IfSome k (λ j. j < length counts)) d_is below)

-- a slice of all items that is written back
pub written : {A : Type 0} (n : ℕ) (new old : List A) → length new ≡ n → take n (new ++ drop (length new) old) ≡ new
written n new old e = take-append-le n new (drop (length new) old) (omega arith) ∙ take_all n new (omega arith)

-- Each leaf is in its set then too.
pub accessed_kept : (stacks new : List (List (Option Leaf))) (len set : ℕ) (leaf : Leaf) → IsCurve stacks → length stacks ≡ len → length new ≡ len
    → set ≡ set_of (length stacks) leaf → set < length stacks → leaf.first % pages_of leaf.order ≡ 0
    → new ≡ with_front set leaf stacks → IsCurve (take len (new ++ drop (length new) stacks))
accessed_kept stacks new len set leaf kept same count s inside aligned is =
    rw (written len new stacks count) (front_kept stacks new set leaf (same_leaf leaf) kept inside s aligned is)

pub missed_curve : (stacks : List (List (Option Leaf))) (counts : List ℕ) (lookups : ℕ)
    → curve_of stacks counts (plus lookups 1) ≡ curve_missed (curve_of stacks counts lookups)
unfolding curve_of curve_missed
missed_curve stacks counts lookups = refl

lists_purged : (q : Leaf → Bool) (w : ℕ) (stacks : List (List (Option Leaf))) → map (purged q) (map (held w) stacks) ≡ map (held w) (map (map (place_without q)) stacks)
lists_purged q w [] = refl
lists_purged q w (s ∷ stacks) =
    ap (λ (xs : List Leaf). xs ∷ map (purged q) (map (held w) stacks)) (sym (purged_held q w s))
    ∙ ap (λ (xs : List (List Leaf)). held w (map (place_without q) s) ∷ xs) (lists_purged q w stacks)

-- The leaves that pass a test leave holes in each list of places.
pub purged_curve : (stacks new : List (List (Option Leaf))) (counts : List ℕ) (lookups : ℕ) (q : Leaf → Bool) → new ≡ map (map (place_without q)) stacks
    → curve_of new counts lookups ≡ curve_without q (curve_of stacks counts lookups)
unfolding curve_of curve_without
purged_curve stacks new counts lookups q is =
    ap (λ (points : List Point). let c : HitCurve = record { points = points; lookups = lookups } in c)
    (sym (each_in_range (point_without q) (point_at stacks counts) (point_at new counts) 1 64
    (λ w l m. same_point w (length stacks) (length new) _ _ _ _
    (sym (ap (λ (xs : List (List (Option Leaf))). length xs) is ∙ length-map stacks (map (place_without q))))
    (lists_purged q w stacks ∙ sym (ap (λ (xs : List (List (Option Leaf))). map (held w) xs) is)) refl)))

module _ (stacks new : List (List (Option Leaf))) (len : ℕ) (q : Leaf → Bool) (same : length stacks ≡ len) (is : new ≡ removed q stacks) where
  all_written : take len (new ++ drop (length new) stacks) ≡ new
  all_written = written len new stacks (ap (λ (xs : List (List (Option Leaf))). length xs) is ∙ length-map stacks (map (place_without q)) ∙ same)

  -- The same, where the lists of places are written back.
  pub purged_by : (counts : List ℕ) (lookups : ℕ) → curve_of (take len (new ++ drop (length new) stacks)) counts lookups ≡ curve_without q (curve_of stacks counts lookups)
  purged_by counts lookups = rw all_written (purged_curve stacks new counts lookups q is)

  pub purged_kept : IsCurve stacks → IsCurve (take len (new ++ drop (length new) stacks))
  purged_kept kept = rw all_written (removed_kept stacks new q kept is)

hits_of_points : (stacks : List (List (Option Leaf))) (counts : List ℕ)
    → map hits_of (map (point_at stacks counts) (range_with_len 1 64)) ≡ map (hits_below counts) (range_with_len 1 64)
hits_of_points stacks counts = each_in_range hits_of (point_at stacks counts) (hits_below counts) 1 64 (λ w l m. refl)

pub all_hits_known : (stacks : List (List (Option Leaf))) (counts : List ℕ) (lookups : ℕ)
    → map (hits_below counts) (range_with_len 1 64) ≡ map hits_of (curve_of stacks counts lookups).points
unfolding curve_of
all_hits_known stacks counts lookups = sym (hits_of_points stacks counts)

-- One count more.
pub one_more : (counts : List ℕ) (at total : ℕ) → at < length counts → total ≡ hits_below counts at
    → (total + get_or counts at 0) % 2 ^ 64 ≡ hits_below counts (at + 1)
one_more counts at total l t = omega (arith, sum_by_more (λ (n : ℕ). n) counts at 0 l)

pub filled_more : (f : ℕ → ℕ) (xs : List ℕ) (at y : ℕ) → at < length xs → take at xs ≡ map f (range_with_len 1 at) → y ≡ f (at + 1)
    → take (at + 1) (set xs at y) ≡ map f (range_with_len 1 (at + 1))
filled_more f xs at y l filled is =
    take_more_set xs at y l
    ∙ ap (λ (zs : List ℕ). zs ++ y ∷ []) filled
    ∙ ap (λ (n : ℕ). map f (range_with_len 1 at) ++ n ∷ []) is
    ∙ sym (map-range_with_len_more f 1 at (at + 1) (omega arith))

pub hits_known : (stacks : List (List (Option Leaf))) (counts : List ℕ) (lookups width : ℕ) → 0 < width → width ≤ 64
    → sum (take width counts) % 2 ^ 64 ≡ hits_at width (curve_of stacks counts lookups)
unfolding curve_of hits_at
hits_known stacks counts lookups width some few =
    sym (ap (λ (xs : List ℕ). get_or xs (width - 1) 0) (hits_of_points stacks counts)
    ∙ get_or-map-range_with_len (λ w. sum (take w counts) % 2 ^ 64) 1 64 (width - 1) width 0 (omega arith) (omega arith))

pub lookups_known : (stacks : List (List (Option Leaf))) (counts : List ℕ) (lookups : ℕ) → lookups ≡ (curve_of stacks counts lookups).lookups
unfolding curve_of
lookups_known stacks counts lookups = refl

-- ---- an empty curve

size : (n : ℕ) (xs : List (Option Leaf)) → length (replicate n xs) ≡ n
size zero xs = refl
size (suc n) xs = rw (size n xs) refl

only_holes : (w n : ℕ) → held {A = Leaf} w (replicate n None) ≡ []
only_holes zero n = refl
only_holes (suc w) zero = refl
only_holes (suc w) (suc n) = only_holes w n

no_lists : (w n : ℕ) (xs : List (Option Leaf)) → held w xs ≡ [] → map (held w) (replicate n xs) ≡ replicate n []
no_lists w zero xs e = refl
no_lists w (suc n) xs e = rw e (ap (λ (z : List (List Leaf)). [] ∷ z) (no_lists w n xs e))

no_hits : (w n : ℕ) → sum (take w (replicate n 0)) ≡ 0
no_hits zero n = refl
no_hits (suc w) zero = refl
no_hits (suc w) (suc n) = omega (arith, sum_by-cons (λ (k : ℕ). k) 0 (take w (replicate n 0)), no_hits w n)

pub opened_curve : (stacks : List (List (Option Leaf))) (sets : ℕ) (holes : List (Option Leaf)) → ((w : ℕ) → held w holes ≡ []) → stacks ≡ replicate sets holes
    → curve_of stacks (replicate 64 0) 0 ≡ opening_curve sets
unfolding curve_of opening_curve
opened_curve stacks sets holes empty is =
    ap (λ (points : List Point). let c : HitCurve = record { points = points; lookups = 0 } in c)
    (same_each (point_at stacks (replicate 64 0)) (opening_point sets) 1 64
    (λ w. same_point w (length stacks) sets _ _ _ _ (ap (λ (xs : List (List (Option Leaf))). length xs) is ∙ size sets holes)
    (ap (λ (xs : List (List (Option Leaf))). map (held w) xs) is ∙ no_lists w sets holes (empty w)) (ap (λ (k : ℕ). k % 2 ^ 64) (no_hits w 64))))
  where
    same_each : (f g : ℕ → Point) (a n : ℕ) → ((w : ℕ) → f w ≡ g w) → map f (range_with_len a n) ≡ map g (range_with_len a n)
    same_each f g a zero same = refl
    same_each f g a (suc n) same =
        ap (λ (y : Point). y ∷ map f (range_with_len (a + 1) n)) (same a) ∙ ap (λ (ys : List Point). g a ∷ ys) (same_each f g (a + 1) n same)

pub holes_held : (w : ℕ) → held {A = Leaf} w (replicate 64 None) ≡ []
holes_held w = only_holes w 64
