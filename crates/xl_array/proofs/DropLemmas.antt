-- What a drop takes from the items, as from the leaves.
use Rattle.xl_array.proofs.Common.{◌%◌, ◌+◌, ◌/◌, ◌<◌, ◌||◌, ◌∙◌, ◌∷◌, ◌≡◌, [], ap, arith, array_without, Bool, covers, covers_as, false, get_or, get_or-map, has_block, has_tag, is_in_set, IsArray, Item, Leaf, leaves_in_sets, leaves_of, List, map, refl, set, set_number, suc, sym, TlbArray, true, zero, ℕ}
use Rattle.xl_recency.specs.Lists.{items_in}
unfoldable use Rattle.xl_array.specs.Coding.{leaf_of, tag_of}
use Rattle.std.proofs.lemmas.List.{length-map}
use Rattle.std.specs.List.{list_all}
use Rattle.std.proofs.lemmas.Bool.Decides.{nat_tests}
use Rattle.xl_model.specs.declared.address.Order.{Order}
use Rattle.xl_model.specs.Recency.{purged}
use Rattle.xl_model.specs.declared.row.TlbSpec.{TlbSpec}
use Rattle.xl_array.proofs.FillLemmas.{hit_set}
use Rattle.xl_array.proofs.LookLemmas.{array_of}
use Rattle.xl_list_lemmas.proofs.RecencyLemmas.{purged-map}
use Rattle.xl_array.proofs.SetLemmas.{all_purged}
use Rattle.xl_array.proofs.TagLemmas.{block_tag, leaf_tagged}
use Rattle.xl_model.specs.declared.address.Order.TheVariants as order

pub or_false : (b : Bool) → (b || false) ≡ b
or_false true = refl
or_false false = refl

pub counted_items : (sets : List (List Item)) → leaves_in_sets (map leaves_of sets) ≡ items_in sets
counted_items [] = refl
counted_items (s ∷ sets) = rw (length-map s leaf_of, counted_items sets) refl

pub left_over : (n : ℕ) (sets new : List (List Item)) → n + items_in new ≡ items_in sets → n + leaves_in_sets (map leaves_of new) ≡ leaves_in_sets (map leaves_of sets)
left_over n sets new e = rw (counted_items sets, counted_items new) e

kept_purged : (spec : TlbSpec) (sets : List (List Leaf)) (width : ℕ) (p : Leaf → Bool) → IsArray spec sets width → IsArray spec (map (purged p) sets) width
kept_purged spec sets width p kept = record {
  some = kept.some;
  count = length-map sets (purged p) ∙ kept.count;
  same_width = kept.same_width;
  some_ways = kept.some_ways;
  most = kept.most;
  placed = λ k. rw (get_or-map (purged p) sets k []) (all_purged (is_in_set spec k) p (get_or sets k []) (kept.placed k));
}

each_purged : (p : Leaf → Bool) (q : Item → Bool) → ((x : Item) → q x ≡ p (leaf_of x)) → (sets : List (List Item)) → map (purged p) (map leaves_of sets) ≡ map leaves_of (map (purged q) sets)
each_purged p q same [] = refl
each_purged p q same (s ∷ sets) = rw (purged-map leaf_of p q same s) (ap (λ (z : List (List Leaf)). leaves_of (purged q s) ∷ z) (each_purged p q same sets))

module _ (spec : TlbSpec) (sets new : List (List Item)) (p : Leaf → Bool) (q : Item → Bool) (same : (x : Item) → q x ≡ p (leaf_of x)) (is : new ≡ map (purged q) sets) where
  dropped : map leaves_of new ≡ map (purged p) (map leaves_of sets)
  dropped = ap (λ (z : List (List Item)). map leaves_of z) is ∙ sym (each_purged p q same sets)

  pub drop_array : array_of spec new ≡ array_without p (array_of spec sets)
  drop_array = ap (λ (z : List (List Leaf)). let a : TlbArray = record { spec = spec; sets = z } in a) dropped

  pub drop_kept : (width : ℕ) → IsArray spec (map leaves_of sets) width → IsArray spec (map leaves_of new) width
  drop_kept width kept = rw dropped (kept_purged spec (map leaves_of sets) width p kept)

-- other sets have no such item
elsewhere : (t : Leaf → Bool) (q : Item → Bool) (xs : List Item) → list_all t (leaves_of xs) ≡ true → ((x : Item) → t (leaf_of x) ≡ true → q x ≡ false) → purged q xs ≡ xs
elsewhere t q [] h apart = refl
elsewhere t q (x ∷ xs) h apart = go (t (leaf_of x)) refl (λ k. elsewhere t q xs k apart)
  where
    go : (b : Bool) → t (leaf_of x) ≡ b → (list_all t (leaves_of xs) ≡ true → purged q xs ≡ xs) → purged q (x ∷ xs) ≡ x ∷ xs
    go false e more = let v : false ≡ true = rw e at h in cc
    go true e more = rw (apart x e) (ap (λ (z : List Item). x ∷ z) (more (rw e at h)))

none_there : {A : Type 0} (q : A → Bool) (sets : List (List A)) → ((j : ℕ) → purged q (get_or sets j []) ≡ get_or sets j []) → sets ≡ map (purged q) sets
none_there q [] h = refl
none_there {A} q (s ∷ sets) h = rw (h zero) (ap (λ (z : List (List A)). s ∷ z) (none_there q sets (λ j. h (suc j))))

one_set : {A : Type 0} (q : A → Bool) (sets : List (List A)) (k : ℕ) → ((j : ℕ) → (j ≡ k → ⊥) → purged q (get_or sets j []) ≡ get_or sets j [])
    → set sets k (purged q (get_or sets k [])) ≡ map (purged q) sets
one_set q [] k h = refl
one_set {A} q (s ∷ sets) zero h = ap (λ (z : List (List A)). purged q s ∷ z) (none_there q sets (λ j. h (suc j) (λ e. absurd (omega arith))))
one_set {A} q (s ∷ sets) (suc k) h =
    rw (h zero (λ e. absurd (omega arith))) (ap (λ (z : List (List A)). s ∷ z) (one_set q sets k (λ j n. h (suc j) (λ e. n (omega arith)))))

-- a drop that looks at the one set of such items drops them from all sets
pub drop_there : (spec : TlbSpec) (sets new : List (List Item)) (width k : ℕ) (q : Item → Bool) → IsArray spec (map leaves_of sets) width
    → ((x : Item) → q x ≡ true → set_number spec (leaf_of x).order (leaf_of x).first ≡ k)
    → new ≡ set sets k (purged q (get_or sets k [])) → new ≡ map (purged q) sets
drop_there spec sets new width k q kept there is =
    is ∙ one_set q sets k (λ j n. elsewhere (is_in_set spec j) q (get_or sets j []) (rw (get_or-map leaves_of sets j []) at (kept.placed j)) (λ x placed. apart j n x placed (q x) refl))
  where
    apart : (j : ℕ) → (j ≡ k → ⊥) → (x : Item) → is_in_set spec j (leaf_of x) ≡ true → (b : Bool) → q x ≡ b → q x ≡ false
    apart j n x placed true t =
        let e : set_number spec (leaf_of x).order (leaf_of x).first ≡ j = grind (arith, nat_tests) in
        absurd (n (sym e ∙ there x t))
    apart j n x placed false t = t

-- the set of an item with this tag
pub tag_there : (spec : TlbSpec) (space page : ℕ) (o : Order) → space < 64 → (x : Item) → has_tag (tag_of space page o) x ≡ true
    → set_number spec (leaf_of x).order (leaf_of x).first ≡ set_number spec o page
tag_there spec space page o small x t =
    let e : x.tag ≡ tag_of space page o = grind (arith, nat_tests) in
    rw (leaf_tagged x space page o small e) (sym (hit_set spec page o))

-- the same, of an item of whatever space
pub block_there : (spec : TlbSpec) (page : ℕ) (o : Order) → (x : Item) → has_block (tag_of 0 page o) x ≡ true
    → set_number spec (leaf_of x).order (leaf_of x).first ≡ set_number spec o page
block_there spec page o x t = tag_there spec (x.tag / 3 % 64) page o (omega arith) x (block_tag x page o ∙ t)

-- three drops in turn drop what passes any of their tests
module _ (p q r w : Leaf → Bool) (any : (x : Leaf) → w x ≡ (p x || (q x || r x))) where
  in_turn : (xs : List Leaf) → purged r (purged q (purged p xs)) ≡ purged w xs
  in_turn [] = refl
  in_turn (x ∷ xs) = go (p x) (q x) (r x) refl refl refl (in_turn xs)
    where
      go : (a b c : Bool) → p x ≡ a → q x ≡ b → r x ≡ c → purged r (purged q (purged p xs)) ≡ purged w xs → purged r (purged q (purged p (x ∷ xs))) ≡ purged w (x ∷ xs)
      go true b c t u v more = let k : w x ≡ true = any x ∙ ap (λ (z : Bool). z || (q x || r x)) t in rw (t, k) more
      go false true c t u v more = let k : w x ≡ true = any x ∙ rw (t, u) refl in rw (t, u, k) more
      go false false true t u v more = let k : w x ≡ true = any x ∙ rw (t, u, v) refl in rw (t, u, v, k) more
      go false false false t u v more = let k : w x ≡ false = any x ∙ rw (t, u, v) refl in rw (t, u, v, k) (ap (λ (z : List Leaf). x ∷ z) more)

  sets_in_turn : (sets : List (List Leaf)) → map (purged r) (map (purged q) (map (purged p) sets)) ≡ map (purged w) sets
  sets_in_turn [] = refl
  sets_in_turn (s ∷ sets) = rw (in_turn s) (ap (λ (z : List (List Leaf)). purged w s ∷ z) (sets_in_turn sets))

  pub array_in_turn : (a : TlbArray) → array_without r (array_without q (array_without p a)) ≡ array_without w a
  array_in_turn a = ap (λ (z : List (List Leaf)). let a : TlbArray = record a { sets = z } in a) (sets_in_turn a.sets)

-- each leaf that covers the page has one of the orders
pub each_order : (space page : ℕ) (x : Leaf) → covers space page x ≡ (covers_as space page order.K4 x || (covers_as space page order.M2 x || covers_as space page order.G1 x))
each_order space page x = go x.order refl
  where
    go : (o : Order) → x.order ≡ o → covers space page x ≡ (covers_as space page order.K4 x || (covers_as space page order.M2 x || covers_as space page order.G1 x))
    go order.K4 e = rw e (sym (or_false _))
    go order.M2 e = rw e (sym (or_false _))
    go order.G1 e = rw e refl
