-- A leaf of 4 KiB that is touched or filled is in front of its set.
use Rattle.xl_array.proofs.Common.{◌%◌, ◌*◌, ◌/◌, ◌<◌, ◌∙◌, ◌∷◌, ◌≡◌, [], ap, arith, Bool, false, find, get_or, length, List, None, Option, refl, set, Some, subst, suc, sym, take, true, zero, ℕ}
unfoldable use Rattle.xl_model.specs.Tlb.{array_filled, array_hit, array_touched}
use Rattle.xl_model.specs.Tlb.{covers_as, filled_where, first_found, found_as, set_at, set_number, takes_order, TlbArray, where_taken}
use Rattle.std.proofs.lemmas.List.{get_or-set_same, set-get_or}
use Rattle.xl_array.specs.Touches.{IsFrontHit, IsTouch}
use Rattle.xl_model.specs.declared.leaf.Leaf.{Leaf}
use Rattle.std.proofs.lemmas.Bool.Decides.{nat_tests}
use Rattle.xl_model.specs.LeafWords.{small_leaf}
use Rattle.xl_model.specs.declared.row.TlbSpec.{TlbSpec}
use Rattle.xl_model.specs.Recency.{touched, with_newest, without_first}
use Rattle.xl_array.specs.Hits.{word_touched}
use Rattle.xl_model.specs.declared.address.Order.TheVariants as order

-- what was touched is in front, and a touch of it moves nothing
meets : (p : Leaf → Bool) (xs : List Leaf) (x : Leaf) → find p xs ≡ Some x → p x ≡ true
meets p [] x e = cc
meets p (y ∷ xs) x e = go (p y) refl (λ h. meets p xs x h)
  where
    go : (b : Bool) → p y ≡ b → (find p xs ≡ Some x → p x ≡ true) → p x ≡ true
    go true t more = let v : Some y ≡ Some x = rw t at e in let w : y ≡ x = cc in ap p (sym w) ∙ t
    go false t more = more (rw t at e)

front_of : (p : Leaf → Bool) (xs : List Leaf) (x : Leaf) → Some x ≡ find p xs → touched p xs ≡ x ∷ without_first p xs
front_of p xs x e = rw (← e) refl

front_found : (p : Leaf → Bool) (x : Leaf) (xs : List Leaf) → p x ≡ true → Some x ≡ find p (x ∷ xs)
front_found p x xs t = rw t refl

front_stays : (p : Leaf → Bool) (x : Leaf) (xs : List Leaf) → p x ≡ true → touched p (x ∷ xs) ≡ x ∷ xs
front_stays p x xs t = rw t refl

-- a set in which a leaf was found is there
set_there : (p : Leaf → Bool) (x : Leaf) (sets : List (List Leaf)) (k : ℕ) (ys : List Leaf) → Some x ≡ find p (get_or sets k []) → get_or (set sets k ys) k [] ≡ ys
set_there p x [] zero ys e = cc
set_there p x [] (suc k) ys e = cc
set_there p x (s ∷ sets) zero ys e = refl
set_there p x (s ∷ sets) (suc k) ys e = set_there p x sets k ys e

where_found : (b : Bool) (o : Option Leaf) (x : Leaf) → Some x ≡ where_taken b o → (b ≡ true) × (Some x ≡ o)
where_found true o x e = (refl, e)
where_found false o x e = cc

module _ (space page word : ℕ) where
  -- the array after a touch
  touch_front : (a : TlbArray) → Some (small_leaf space page word) ≡ found_as a space page order.K4 → IsFrontHit space page word (word_touched space page order.K4 word a)
  unfolding array_touched
  touch_front a e =
      let p : Leaf → Bool = covers_as space page order.K4 in
      let x : Leaf = small_leaf space page word in
      let k : ℕ = set_number a.spec order.K4 page in
      let old : List Leaf = set_at a order.K4 page in
      let f = where_found (takes_order a.spec order.K4) (find p old) x e in
      let found : Some x ≡ find p old = f.1 in
      let met : p x ≡ true = meets p old x (sym found) in
      let now : get_or (set a.sets k (touched p old)) k [] ≡ x ∷ without_first p old = set_there p x a.sets k (touched p old) found ∙ front_of p old x found in
      record {
        found = rw (f.0, now) (front_found p x (without_first p old) met);
        stays = rw now (front_stays p x (without_first p old) met);
      }

  pub hit_front : (a new : TlbArray) → IsTouch space page word a new → IsFrontHit space page word new
  hit_front a new hit = subst (IsFrontHit space page word) (sym hit.moved) (touch_front a hit.found)

  -- a leaf in front is touched, and nothing moves
  pub front_touch : (a : TlbArray) → IsFrontHit space page word a → IsTouch space page word a a
  unfolding array_touched
  front_touch a hit = record {
    found = hit.found;
    moved = ap (λ (z : List (List Leaf)). record a { sets = z }) (sym (set-get_or a.sets (set_number a.spec order.K4 page) []) ∙ ap (λ (z : List Leaf). set a.sets (set_number a.spec order.K4 page) z) (sym hit.stays));
  }

pub array_found : (a : TlbArray) (space page : ℕ) (leaf : Leaf) → Some leaf ≡ found_as a space page order.K4 → Some leaf ≡ array_hit a space page
unfolding array_hit
array_found a space page leaf e = rw (← e) refl

-- a larger leaf is found, where there is none of 4 KiB
pub large_found : (a : TlbArray) (space page : ℕ) (leaf : Leaf) → None ≡ found_as a space page order.K4 → Some leaf ≡ first_found (found_as a space page order.M2) (found_as a space page order.G1) → Some leaf ≡ array_hit a space page
unfolding array_hit
large_found a space page leaf none e = rw (← none) e

-- a leaf of 4 KiB that is filled is in front
small_covers : (space page word : ℕ) → covers_as space page order.K4 (small_leaf space page word) ≡ true
small_covers space page word = grind (arith, nat_tests)

small_set : (spec : TlbSpec) (page : ℕ) → set_number spec order.K4 (page / 1 * 1) ≡ set_number spec order.K4 page
small_set spec page = ap (λ (n : ℕ). n / 1 % spec.sets) (omega arith)

front_kept : (width : ℕ) (x : Leaf) (xs : List Leaf) → 0 < width → (ys : List Leaf) × (with_newest width x xs ≡ x ∷ ys)
front_kept zero x xs some = absurd (omega arith)
front_kept (suc n) x xs some = (take n xs, refl)

fill_taken : (space page word : ℕ) (a : TlbArray) → set_number a.spec order.K4 page < length a.sets → 0 < a.spec.width → takes_order a.spec order.K4 ≡ true
    → IsFrontHit space page word (filled_where true (small_leaf space page word) a)
fill_taken space page word a within some takes =
    let p : Leaf → Bool = covers_as space page order.K4 in
    let x : Leaf = small_leaf space page word in
    let k : ℕ = set_number a.spec order.K4 page in
    let j : ℕ = set_number a.spec order.K4 (page / 1 * 1) in
    let same : j ≡ k = small_set a.spec page in
    let list : List Leaf = with_newest a.spec.width x (get_or a.sets j []) in
    let f = front_kept a.spec.width x (get_or a.sets j []) some in
    let now : get_or (set a.sets j list) k [] ≡ x ∷ f.0 =
    ap (λ (n : ℕ). get_or (set a.sets n list) k []) same ∙ get_or-set_same a.sets k list [] within ∙ f.1 in
    record {
      found = rw (takes, now) (front_found p x f.0 (small_covers space page word));
      stays = rw now (front_stays p x f.0 (small_covers space page word));
    }

pub fill_front : (space page word : ℕ) (a : TlbArray) → set_number a.spec order.K4 page < length a.sets → 0 < a.spec.width → takes_order a.spec order.K4 ≡ true
    → IsFrontHit space page word (array_filled (small_leaf space page word) a)
unfolding array_filled
fill_front space page word a within some takes =
    subst (λ (b : Bool). IsFrontHit space page word (filled_where b (small_leaf space page word) a)) (sym takes) (fill_taken space page word a within some takes)
