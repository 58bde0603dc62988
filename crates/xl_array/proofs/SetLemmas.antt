-- Arrays keep their leaves placed; what a change of one set of items is for the leaves.
use Rattle.xl_array.proofs.Common.{◌/◌, ◌<◌, ◌==◌, ◌∙◌, ◌∷◌, ◌≡◌, ◌≢◌, [], ap, arith, Bool, false, find, get_or, get_or-map, is_in_set, IsArray, Item, Leaf, leaves_of, List, list_all, map, mod-lt, nat_tests, None, Option, Order, pages_of, refl, set, set_number, Some, suc, sym, take, TlbSpec, true, zero, ℕ}
use Rattle.std.proofs.lemmas.List.{get_or-set_other, get_or-set_same, length-set, map-set}
use Rattle.xl_model.specs.Recency.{in_front, purged, touched, with_newest, without_first}

-- the set of a page is one of the array's
pub below_sets : (spec : TlbSpec) (o : Order) (page set : ℕ) → 0 < spec.sets → set ≡ set_number spec o page → set < spec.sets
below_sets spec o page set some e = rw e (mod-lt (page / pages_of o) some)

-- a change of one set of items, as one of the leaves
pub view_set : (g : List Item → List Item) (h : List Leaf → List Leaf) → ((xs : List Item) → h (leaves_of xs) ≡ leaves_of (g xs))
    → (sets : List (List Item)) (k : ℕ) → map leaves_of (set sets k (g (get_or sets k []))) ≡ set (map leaves_of sets) k (h (get_or (map leaves_of sets) k []))
view_set g h agree sets k =
    map-set leaves_of sets k (g (get_or sets k []))
    ∙ ap (λ (z : List Leaf). set (map leaves_of sets) k z) (sym (agree (get_or sets k [])) ∙ ap h (sym (get_or-map leaves_of sets k [])))

module _ {A : Type 0} (p : A → Bool) where
  pub all_found : (q : A → Bool) (xs : List A) (x : A) → find q xs ≡ Some x → list_all p xs ≡ true → p x ≡ true
  all_found q [] x e h = cc
  all_found q (y ∷ xs) x e h = go (q y) (p y) refl refl (λ k l. all_found q xs x k l)
    where
      go : (b c : Bool) → q y ≡ b → p y ≡ c → (find q xs ≡ Some x → list_all p xs ≡ true → p x ≡ true) → p x ≡ true
      go true true t u more = let v : Some y ≡ Some x = rw t at e in let w : y ≡ x = cc in ap p (sym w) ∙ u
      go b false t u more = let v : false ≡ true = rw u at h in cc
      go false true t u more = more (rw t at e) (rw u at h)

  pub all_without : (q : A → Bool) (xs : List A) → list_all p xs ≡ true → list_all p (without_first q xs) ≡ true
  all_without q [] h = refl
  all_without q (y ∷ xs) h = go (q y) (p y) refl refl (λ k. all_without q xs k)
    where
      go : (b c : Bool) → q y ≡ b → p y ≡ c → (list_all p xs ≡ true → list_all p (without_first q xs) ≡ true) → list_all p (without_first q (y ∷ xs)) ≡ true
      go b false t u more = let v : false ≡ true = rw u at h in cc
      go true true t u more = rw t (rw u at h)
      go false true t u more = rw (t, u) (more (rw u at h))

  pub all_touched : (q : A → Bool) (xs : List A) → list_all p xs ≡ true → list_all p (touched q xs) ≡ true
  all_touched q xs h = go (find q xs) refl
    where
      go : (o : Option A) → find q xs ≡ o → list_all p (in_front o (without_first q xs)) ≡ true
      go None e = all_without q xs h
      go (Some x) e = rw (all_found q xs x e h) (all_without q xs h)

  pub all_taken : (n : ℕ) (xs : List A) → list_all p xs ≡ true → list_all p (take n xs) ≡ true
  all_taken zero xs h = refl
  all_taken (suc n) [] h = refl
  all_taken (suc n) (y ∷ xs) h = go (p y) refl (λ k. all_taken n xs k)
    where
      go : (c : Bool) → p y ≡ c → (list_all p xs ≡ true → list_all p (take n xs) ≡ true) → list_all p (take (suc n) (y ∷ xs)) ≡ true
      go false u more = let v : false ≡ true = rw u at h in cc
      go true u more = rw u (more (rw u at h))

  pub all_purged : (q : A → Bool) (xs : List A) → list_all p xs ≡ true → list_all p (purged q xs) ≡ true
  all_purged q [] h = refl
  all_purged q (y ∷ xs) h = go (q y) (p y) refl refl (λ k. all_purged q xs k)
    where
      go : (b c : Bool) → q y ≡ b → p y ≡ c → (list_all p xs ≡ true → list_all p (purged q xs) ≡ true) → list_all p (purged q (y ∷ xs)) ≡ true
      go b false t u more = let v : false ≡ true = rw u at h in cc
      go true true t u more = rw t (more (rw u at h))
      go false true t u more = rw (t, u) (more (rw u at h))

-- one set changes, and its leaves are still placed
pub kept_set : (spec : TlbSpec) (sets : List (List Leaf)) (width k : ℕ) (new : List Leaf) → IsArray spec sets width → k < spec.sets
    → list_all (is_in_set spec k) new ≡ true → IsArray spec (set sets k new) width
kept_set spec sets width k new kept within placed = record {
  some = kept.some;
  count = length-set sets k new ∙ kept.count;
  same_width = kept.same_width;
  some_ways = kept.some_ways;
  most = kept.most;
  placed = λ j. go j (j == k) refl;
}
  where
    go : (j : ℕ) (b : Bool) → (j == k) ≡ b → list_all (is_in_set spec j) (get_or (set sets k new) j []) ≡ true
    go j true t =
        let e : j ≡ k = grind (arith, nat_tests) in
        rw (e, get_or-set_same sets k new [] (omega (arith, kept.count))) placed
    go j false t =
        let n : j ≢ k = λ e. absurd (grind (arith, nat_tests)) in
        rw (get_or-set_other sets k j new [] n) (kept.placed j)

pub kept_touched : (spec : TlbSpec) (sets : List (List Leaf)) (width k : ℕ) (q : Leaf → Bool) → IsArray spec sets width → k < spec.sets
    → IsArray spec (set sets k (touched q (get_or sets k []))) width
kept_touched spec sets width k q kept within = kept_set spec sets width k (touched q (get_or sets k [])) kept within (all_touched (is_in_set spec k) q (get_or sets k []) (kept.placed k))

pub kept_filled : (spec : TlbSpec) (sets : List (List Leaf)) (width : ℕ) (leaf : Leaf) → IsArray spec sets width
    → IsArray spec (set sets (set_number spec leaf.order leaf.first) (with_newest spec.width leaf (get_or sets (set_number spec leaf.order leaf.first) []))) width
kept_filled spec sets width leaf kept =
    let k : ℕ = set_number spec leaf.order leaf.first in
    kept_set spec sets width k (with_newest spec.width leaf (get_or sets k [])) kept (omega (arith, kept.some))
    (all_taken (is_in_set spec k) spec.width (leaf ∷ get_or sets k []) (rw (same k) (kept.placed k)))
  where
    same : (k : ℕ) → (k == k) ≡ true
    same k = grind (arith, nat_tests)
