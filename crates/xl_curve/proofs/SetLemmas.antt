-- Each leaf is in its own set, so that what is looked for in one set is in no other.
use Rattle.xl_curve.proofs.Common.{◌%◌, ◌&&◌, ◌+◌, ◌/◌, ◌<◌, ◌==◌, ◌||◌, ◌∙◌, ◌∷◌, ◌≡◌, ◌≤◌, [], ap, arith, Bool, covers, covers_as, false, first_so, get_or, get_or-set_other, get_or-set_same, get_or_default, hole_where, is_leaf, is_placed, IsCurve, IsThinned, Leaf, length, length-map, length-set, List, list_all, map, nat_tests, None, Option, Order, orders-same, pages_of, place_without, refl, removed, same_order, second_so, set, set_of, shifted, Some, subst, suc, sym, take, true, vacated, with_removed, zero, ℕ}
use Rattle.std.proofs.Math.ListN.{get_or-map}
use Rattle.xl_model.specs.declared.address.Order.TheVariants as order

-- ---- places that all pass a test

module _ {A : Type 0} (t : Option A → Bool) (hole : t None ≡ true) (q : A → Bool) where
  all_vacated : (ps : List (Option A)) → list_all t ps ≡ true → list_all t (vacated q ps) ≡ true
  all_vacated [] h = refl
  all_vacated (None ∷ ps) h = rw hole (all_vacated ps (second_so (t None) (list_all t ps) h))
  all_vacated (Some x ∷ ps) h = go (q x) refl (all_vacated ps (second_so (t (Some x)) (list_all t ps) h))
    where
      go : (b : Bool) → q x ≡ b → list_all t (vacated q ps) ≡ true → list_all t (vacated q (Some x ∷ ps)) ≡ true
      go true e more = rw (e, hole) (second_so (t (Some x)) (list_all t ps) h)
      go false e more = rw (e, first_so (t (Some x)) (list_all t ps) h) more

  pub all_shifted : (x : A) (ps : List (Option A)) → t (Some x) ≡ true → list_all t ps ≡ true → list_all t (shifted q x ps) ≡ true
  all_shifted x [] own h = rw own refl
  all_shifted x (None ∷ ps) own h = rw own (all_vacated ps (second_so (t None) (list_all t ps) h))
  all_shifted x (Some y ∷ ps) own h =
      go (q y) refl (all_shifted y ps (first_so (t (Some y)) (list_all t ps) h) (second_so (t (Some y)) (list_all t ps) h))
    where
      go : (b : Bool) → q y ≡ b → list_all t (shifted q y ps) ≡ true → list_all t (shifted q x (Some y ∷ ps)) ≡ true
      go true e more = rw (e, own) (second_so (t (Some y)) (list_all t ps) h)
      go false e more = rw (e, own) more

  pub all_without : (ps : List (Option A)) → list_all t ps ≡ true → list_all t (map (place_without q) ps) ≡ true
  all_without [] h = refl
  all_without (None ∷ ps) h = rw hole (all_without ps (second_so (t None) (list_all t ps) h))
  all_without (Some x ∷ ps) h = go (q x) refl (all_without ps (second_so (t (Some x)) (list_all t ps) h))
    where
      go : (b : Bool) → q x ≡ b → list_all t (map (place_without q) ps) ≡ true
          → list_all t (hole_where (q x) x ∷ map (place_without q) ps) ≡ true
      go true e more = rw (e, hole) more
      go false e more = rw (e, first_so (t (Some x)) (list_all t ps) h) more

all_taken : {A : Type 0} (t : A → Bool) (n : ℕ) (xs : List A) → list_all t xs ≡ true → list_all t (take n xs) ≡ true
all_taken t zero xs h = refl
all_taken t (suc n) [] h = refl
all_taken t (suc n) (x ∷ xs) h = rw (first_so (t x) (list_all t xs) h) (all_taken t n xs (second_so (t x) (list_all t xs) h))

-- ---- empty sets

-- ---- a set is changed

set_kept : (stacks : List (List (Option Leaf))) (k : ℕ) (new : List (Option Leaf)) → k < length stacks → IsCurve stacks
    → list_all (is_placed (length stacks) k) new ≡ true → IsCurve (set stacks k new)
set_kept stacks k new l kept h = record {
  some = rw (length-set stacks k new) kept.some;
  most = rw (length-set stacks k new) kept.most;
  placed = λ j. rw (length-set stacks k new) (go j (j == k) refl);
}
  where
    go : (j : ℕ) (b : Bool) → (j == k) ≡ b → list_all (is_placed (length stacks) j) (get_or (set stacks k new) j []) ≡ true
    go j true e =
        let same : k ≡ j = grind (arith, nat_tests) in
        subst (λ (n : ℕ). list_all (is_placed (length stacks) n) (get_or (set stacks k new) n []) ≡ true) same
        (rw (get_or-set_same stacks k new [] l) h)
    go j false e = rw (get_or-set_other stacks k j new [] (λ same. let d : (j == k) ≡ true = grind (arith, nat_tests) in let w : true ≡ false = sym d ∙ e in absurd (cc))) (kept.placed j)

own_set : (sets k : ℕ) (leaf : Leaf) → k ≡ set_of sets leaf → leaf.first % pages_of leaf.order ≡ 0 → is_placed sets k (Some leaf) ≡ true
own_set sets k leaf e aligned =
    let a : (set_of sets leaf == k) ≡ true = grind (arith, nat_tests) in
    let b : (leaf.first % pages_of leaf.order == 0) ≡ true = grind (arith, nat_tests) in
    rw (a, b) refl

-- A leaf comes in front in its set.
pub front_kept : (stacks new : List (List (Option Leaf))) (k : ℕ) (leaf : Leaf) (q : Leaf → Bool) → IsCurve stacks → k < length stacks
    → k ≡ set_of (length stacks) leaf → leaf.first % pages_of leaf.order ≡ 0
    → new ≡ set stacks k (take 64 (shifted q leaf (get_or stacks k []))) → IsCurve new
front_kept stacks new k leaf q kept l e aligned is =
    rw is (set_kept stacks k (take 64 (shifted q leaf (get_or stacks k []))) l kept
    (all_taken (is_placed (length stacks) k) 64 (shifted q leaf (get_or stacks k []))
    (all_shifted (is_placed (length stacks) k) refl q leaf (get_or stacks k []) (own_set (length stacks) k leaf e aligned) (kept.placed k))))

-- The leaves that pass a test are removed.
pub removed_kept : (stacks new : List (List (Option Leaf))) (q : Leaf → Bool) → IsCurve stacks → new ≡ removed q stacks → IsCurve new
removed_kept stacks new q kept is = rw is (record {
  some = rw (length-map stacks (map (place_without q))) kept.some;
  most = rw (length-map stacks (map (place_without q))) kept.most;
  placed = λ k. rw (length-map stacks (map (place_without q)), get_or-map (map (place_without q)) stacks k [])
      (all_without (is_placed (length stacks) k) refl q (get_or stacks k []) (kept.placed k));
})

-- Some leaves of a set are removed.
pub thinned_kept : (stacks : List (List (Option Leaf))) (k : ℕ) (old new : List (Option Leaf)) → k < length stacks → old ≡ get_or stacks k old → IsCurve stacks
    → IsThinned old new → IsCurve (set stacks k new)
thinned_kept stacks k old new l is kept thinned =
    set_kept stacks k new l kept
    (thinned (is_placed (length stacks) k) refl
    (rw (is ∙ get_or_default stacks k old [] l) (kept.placed k)))

-- ---- a set is looked at alone

elsewhere : (t : Option Leaf → Bool) (q : Leaf → Bool) (ps : List (Option Leaf)) → list_all t ps ≡ true → ((x : Leaf) → t (Some x) ≡ true → q x ≡ false)
    → map (place_without q) ps ≡ ps
elsewhere t q [] h apart = refl
elsewhere t q (None ∷ ps) h apart = ap (λ (xs : List (Option Leaf)). None ∷ xs) (elsewhere t q ps (second_so (t None) (list_all t ps) h) apart)
elsewhere t q (Some x ∷ ps) h apart =
    rw (apart x (first_so (t (Some x)) (list_all t ps) h))
    (ap (λ (xs : List (Option Leaf)). Some x ∷ xs) (elsewhere t q ps (second_so (t (Some x)) (list_all t ps) h) apart))

none_there : {A : Type 0} (f : A → A) (d : A) (xs : List A) → ((j : ℕ) → f (get_or xs j d) ≡ get_or xs j d) → xs ≡ map f xs
none_there f d [] h = refl
none_there {A} f d (x ∷ xs) h = rw (h zero) (ap (λ (zs : List A). x ∷ zs) (none_there f d xs (λ j. h (suc j))))

one_there : {A : Type 0} (f : A → A) (d : A) (xs : List A) (k : ℕ) → ((j : ℕ) → (j ≡ k → ⊥) → f (get_or xs j d) ≡ get_or xs j d)
    → set xs k (f (get_or xs k d)) ≡ map f xs
one_there f d [] k h = refl
one_there {A} f d (x ∷ xs) zero h = ap (λ (zs : List A). f x ∷ zs) (none_there f d xs (λ j. h (suc j) (λ e. absurd (omega arith))))
one_there {A} f d (x ∷ xs) (suc k) h =
    rw (h zero (λ e. absurd (omega arith))) (ap (λ (zs : List A). x ∷ zs) (one_there f d xs k (λ j n. h (suc j) (λ e. n (omega arith)))))

-- Where all leaves that pass a test have one set, a removal that looks at that set removes them
-- from all.
removed_there : (stacks new : List (List (Option Leaf))) (k : ℕ) (q : Leaf → Bool) → IsCurve stacks
    → ((x : Leaf) → x.first % pages_of x.order ≡ 0 → q x ≡ true → set_of (length stacks) x ≡ k)
    → new ≡ with_removed q k stacks → new ≡ removed q stacks
removed_there stacks new k q kept there is =
    is ∙ one_there (map (place_without q)) [] stacks k (λ j n. elsewhere (is_placed (length stacks) j) q (get_or stacks j []) (kept.placed j) (λ x placed. apart j n x placed (q x) refl))
  where
    apart : (j : ℕ) → (j ≡ k → ⊥) → (x : Leaf) → is_placed (length stacks) j (Some x) ≡ true → (b : Bool) → q x ≡ b → q x ≡ false
    apart j n x placed true t =
        let a : (set_of (length stacks) x == j) ≡ true = first_so (set_of (length stacks) x == j) (x.first % pages_of x.order == 0) placed in
        let b : (x.first % pages_of x.order == 0) ≡ true = second_so (set_of (length stacks) x == j) (x.first % pages_of x.order == 0) placed in
        let e : set_of (length stacks) x ≡ j = grind (arith, nat_tests) in
        let aligned : x.first % pages_of x.order ≡ 0 = grind (arith, nat_tests) in
        absurd (n (sym e ∙ there x aligned t))
    apart j n x placed false t = t

-- The set of the leaf of a name.
pub named_removed : (stacks new : List (List (Option Leaf))) (k space first : ℕ) (o : Order) → IsCurve stacks → k ≡ first / pages_of o % length stacks
    → new ≡ with_removed (is_leaf space first o) k stacks → new ≡ removed (is_leaf space first o) stacks
named_removed stacks new k space first o kept e is =
    removed_there stacks new k (is_leaf space first o) kept (λ x aligned t.
    let r : ((x.first == first) && same_order x.order o) ≡ true = second_so (x.space == space) ((x.first == first) && same_order x.order o) t in
    let f : (x.first == first) ≡ true = first_so (x.first == first) (same_order x.order o) r in
    let first_is : x.first ≡ first = grind (arith, nat_tests) in
    let order_is : x.order ≡ o = orders-same x.order o (second_so (x.first == first) (same_order x.order o) r) in
    rw (first_is, order_is) (sym e)) is

block : (first page : ℕ) (o : Order) → first % pages_of o ≡ 0 → first ≤ page → page < first + pages_of o → first / pages_of o ≡ page / pages_of o
block first page order.K4 aligned l m = omega arith
block first page order.M2 aligned l m = omega arith
block first page order.G1 aligned l m = omega arith

-- The set of the leaf of an order that covers a page.
covering_set : (sets k space page : ℕ) (o : Order) (x : Leaf) → k ≡ page / pages_of o % sets → x.first % pages_of x.order ≡ 0
    → covers_as space page o x ≡ true → set_of sets x ≡ k
covering_set sets k space page o x e aligned t =
    let order_is : x.order ≡ o = orders-same x.order o (first_so (same_order x.order o) (covers space page x) t) in
    let c : covers space page x ≡ true = second_so (same_order x.order o) (covers space page x) t in
    let low : x.first ≤ page = grind (arith, nat_tests) in
    let high : page < x.first + pages_of x.order = grind (arith, nat_tests) in
    ap (λ (n : ℕ). n % sets) (block x.first page x.order aligned low high ∙ ap (λ (w : Order). page / pages_of w) order_is) ∙ sym e

pub covering_removed : (stacks new : List (List (Option Leaf))) (k space page : ℕ) (o : Order) → IsCurve stacks → k ≡ page / pages_of o % length stacks
    → new ≡ with_removed (covers_as space page o) k stacks → new ≡ removed (covers_as space page o) stacks
covering_removed stacks new k space page o kept e is =
    removed_there stacks new k (covers_as space page o) kept (λ x aligned t. covering_set (length stacks) k space page o x e aligned t) is

pub anywhere_removed : (stacks new : List (List (Option Leaf))) (k page : ℕ) (o : Order) → IsCurve stacks → k ≡ page / pages_of o % length stacks
    → new ≡ with_removed (λ x. covers_as x.space page o x) k stacks → new ≡ removed (λ x. covers_as x.space page o x) stacks
anywhere_removed stacks new k page o kept e is =
    removed_there stacks new k (λ x. covers_as x.space page o x) kept (λ x aligned t. covering_set (length stacks) k x.space page o x e aligned t) is

-- ---- one order after another

module _ (p q r w : Leaf → Bool) (any : (x : Leaf) → w x ≡ (p x || (q x || r x))) where
  place_in_turn : (o : Option Leaf) → place_without r (place_without q (place_without p o)) ≡ place_without w o
  place_in_turn None = refl
  place_in_turn (Some x) = go (p x) (q x) (r x) refl refl refl
    where
      go : (a b c : Bool) → p x ≡ a → q x ≡ b → r x ≡ c → place_without r (place_without q (place_without p (Some x))) ≡ place_without w (Some x)
      go true b c t u v = let k : w x ≡ true = any x ∙ rw t refl in rw (t, k) refl
      go false true c t u v = let k : w x ≡ true = any x ∙ rw (t, u) refl in rw (t, u, k) refl
      go false false true t u v = let k : w x ≡ true = any x ∙ rw (t, u, v) refl in rw (t, u, v, k) refl
      go false false false t u v = let k : w x ≡ false = any x ∙ rw (t, u, v) refl in rw (t, u, v, k) refl

  places_in_turn : (ps : List (Option Leaf)) → map (place_without r) (map (place_without q) (map (place_without p) ps)) ≡ map (place_without w) ps
  places_in_turn [] = refl
  places_in_turn (o ∷ ps) = rw (place_in_turn o) (ap (λ (xs : List (Option Leaf)). place_without w o ∷ xs) (places_in_turn ps))

  pub removed_in_turn : (stacks : List (List (Option Leaf))) → removed r (removed q (removed p stacks)) ≡ removed w stacks
  removed_in_turn [] = refl
  removed_in_turn (s ∷ stacks) = rw (places_in_turn s) (ap (λ (xs : List (List (Option Leaf))). map (place_without w) s ∷ xs) (removed_in_turn stacks))
