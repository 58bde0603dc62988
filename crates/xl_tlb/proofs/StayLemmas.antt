-- Leaves in front that stay there where one set of the first array changes.
use Rattle.xl_tlb.proofs.Common.{◌%◌, ◌/◌, ◌∙◌, ◌∷◌, ◌≡◌, ◌≢◌, [], alone_at, Answer, answer_of, ap, arith, array_filled, array_touched, Bool, covers_as, false, filled_where, find, first_in, FrontsStay, get_or, get_or-set_other, IsFront, IsFrontHit, IsKept, IsTouch, Kind, Leaf, leaf_replied, List, looked_arrays, None, Option, refl, set_at, set_number, small_leaf, Some, subst, sym, takes_order, tlb_looked, TlbArray, TlbSpec, TlbState, true, where_taken, with_set, ℕ}
use Rattle.std.proofs.Math.Nat.{mod-mod_of_dvd}
use Rattle.std.proofs.lemmas.Nat.Gcd.{dvd_of_mod-eq-zero}
use Rattle.xl_array.proofs.FillLemmas.{hit_set}
use Rattle.xl_model.specs.Recency.{touched}
use Rattle.xl_model.specs.declared.address.Order.TheVariants as order

-- an array that is another but for one set
pub record OtherSets (k : ℕ) (a b : TlbArray) : Type 0 where
  pub same_spec : b.spec ≡ a.spec
  pub same_sets : (j : ℕ) → j ≢ k → get_or b.sets j [] ≡ get_or a.sets j []

set_others : (a : TlbArray) (k : ℕ) (items : List Leaf) → OtherSets k a (with_set a k items)
set_others a k items = record { same_spec = refl; same_sets = λ j n. get_or-set_other a.sets k j items [] n }

pub touched_others : (space page : ℕ) (leaf : Leaf) (a : TlbArray) → OtherSets (set_number a.spec leaf.order page) a (array_touched space page leaf a)
unfolding array_touched
touched_others space page leaf a = set_others a _ _

pub filled_others : (leaf : Leaf) (a : TlbArray) → OtherSets (set_number a.spec leaf.order leaf.first) a (array_filled leaf a)
unfolding array_filled
filled_others leaf a = go (takes_order a.spec leaf.order)
  where
    go : (b : Bool) → OtherSets (set_number a.spec leaf.order leaf.first) a (filled_where b leaf a)
    go true = set_others a _ _
    go false = record { same_spec = refl; same_sets = λ j n. refl }

-- numbers that are apart by their last three bits are apart by a multiple of eight
apart : (n x y : ℕ) → n % 8 ≡ 0 → (x % 8 ≡ y % 8 → ⊥) → x % n ≢ y % n
apart n x y e d same =
    let eights = dvd_of_mod-eq-zero 8 e in
    d (sym (mod-mod_of_dvd 8 x eights) ∙ ap (λ (z : ℕ). z % 8) same ∙ mod-mod_of_dvd 8 y eights)

module _ (space page word : ℕ) where
  hit_stays : (k : ℕ) (a b : TlbArray) → OtherSets k a b → set_number a.spec order.K4 page ≢ k → IsFrontHit space page word a → IsFrontHit space page word b
  hit_stays k a b o n hit =
      let p : Leaf → Bool = covers_as space page order.K4 in
      let here : set_at b order.K4 page ≡ set_at a order.K4 page =
      ap (λ (z : TlbSpec). get_or b.sets (set_number z order.K4 page) []) o.same_spec ∙ o.same_sets (set_number a.spec order.K4 page) n in
      record {
        found = hit.found ∙ ap (λ (z : List Leaf). where_taken (takes_order a.spec order.K4) (find p z)) (sym here)
            ∙ ap (λ (z : TlbSpec). where_taken (takes_order z order.K4) (find p (set_at b order.K4 page))) (sym o.same_spec);
        stays = ap (touched p) here ∙ hit.stays ∙ sym here;
      }

-- one array of which another set changed
pub alone_stays : (page : ℕ) (a b : TlbArray) → a.spec.sets % 8 ≡ 0 → OtherSets (set_number a.spec order.K4 page) a b → FrontsStay (page % 8) (a ∷ []) (b ∷ [])
alone_stays page a b eights o space other word d front =
    let one : page / 1 ≡ page = omega arith in
    let two : other / 1 ≡ other = omega arith in
    let n : other / 1 % a.spec.sets ≢ page / 1 % a.spec.sets = rw (one, two) (apart a.spec.sets other page eights d) in
    hit_stays space other word (set_number a.spec order.K4 page) a b o n front

-- a look that no array answers leaves all
pub look_none : (kind : Kind) (space page : ℕ) (t : TlbState) → None ≡ leaf_replied (answer_of kind t.arrays space page) → (tlb_looked kind space page t).arrays ≡ t.arrays
unfolding tlb_looked
look_none kind space page t e = go (answer_of kind t.arrays space page) refl
  where
    go : (o : Option Answer) → answer_of kind t.arrays space page ≡ o → looked_arrays kind (answer_of kind t.arrays space page) space page t.arrays ≡ t.arrays
    go None u = rw u refl
    go (Some x) u = let v : None ≡ Some x.leaf = rw u at e in cc

module _ (space page word : ℕ) where
  pub touch_others : (a new : TlbArray) → IsTouch space page word a new → OtherSets (set_number a.spec order.K4 page) a new
  touch_others a new t = subst (OtherSets (set_number a.spec order.K4 page) a) (sym t.moved) (touched_others space page (small_leaf space page word) a)

  pub fill_others : (a new : TlbArray) → new ≡ array_filled (small_leaf space page word) a → OtherSets (set_number a.spec order.K4 page) a new
  fill_others a new e =
      subst (OtherSets (set_number a.spec order.K4 page) a) (sym e)
      (subst (λ (n : ℕ). OtherSets n a (array_filled (small_leaf space page word) a)) (sym (hit_set a.spec page order.K4)) (filled_others (small_leaf space page word) a))

-- what is known of the first array of a kind after a leaf came to its front
pub kept_at : (split : Bool) (k : Kind) (space page word : ℕ) (a new : TlbArray) (old after : List TlbArray) → alone_at (first_in split k) old ≡ a ∷ [] → alone_at (first_in split k) after ≡ new ∷ []
    → ((j : Kind) → (first_in split j ≡ first_in split k → ⊥) → alone_at (first_in split j) after ≡ alone_at (first_in split j) old) → IsFrontHit space page word new → OtherSets (set_number a.spec order.K4 page) a new
    → IsKept split k space page word old after
kept_at split k space page word a new old after e f others hit o = record {
  front = subst (IsFront space page word) (sym f) hit;
  stays = λ eights. rw (e, f) (alone_stays page a new (rw e at eights) o);
  others = others;
}
