-- A leaf with which the arrays answer is held by one of them, and covers the page. For the machine too.
use Rattle.xl_model_lemmas.proofs.Common.{◌∷◌, ◌≡◌, [], Answer, answer_of, answered_by, array_hit, asked, Bool, covers, covers_as, false, find, find-In, find-passes, first_found, found_as, Held, In, inl, inr, InSets, Kind, Leaf, List, None, Option, Order, refl, same_order, second_so, serves_kind, set_at, set_number, slice_index_or, Some, subst, suc, takes_order, TlbArray, true, where_taken, zero, ℕ}
use Rattle.xl_model.specs.declared.address.Order.TheVariants as order

pub get-In : (leaf : Leaf) (sets : List (List Leaf)) (i : ℕ) → In leaf (slice_index_or sets i []) → InSets leaf sets
get-In leaf [] i h = absurd h
get-In leaf (s ∷ sets) zero h = inl h
get-In leaf (s ∷ sets) (suc i) h = inr (get-In leaf sets i h)

-- what one array finds
pub record IsHit (a : TlbArray) (space page : ℕ) (leaf : Leaf) : Type 0 where
  pub held : InSets leaf a.sets
  pub covering : covers space page leaf ≡ true

found-is : (a : TlbArray) (space page : ℕ) (o : Order) (leaf : Leaf) → found_as a space page o ≡ Some leaf → IsHit a space page leaf
found-is a space page o leaf h = go (takes_order a.spec o) h
  where
    go : (b : Bool) → where_taken b (find (covers_as space page o) (set_at a o page)) ≡ Some leaf → IsHit a space page leaf
    go true k = record {
      held = get-In leaf a.sets (set_number a.spec o page) (find-In (covers_as space page o) leaf (set_at a o page) k);
      covering = second_so (same_order leaf.order o) (covers space page leaf) (find-passes (covers_as space page o) leaf (set_at a o page) k);
    }
    go false k = absurd (cc)

first-is : (a : TlbArray) (space page : ℕ) (leaf : Leaf) (x y : Option Leaf) → (x ≡ Some leaf → IsHit a space page leaf) → (y ≡ Some leaf → IsHit a space page leaf)
    → first_found x y ≡ Some leaf → IsHit a space page leaf
first-is a space page leaf None y f g h = g h
first-is a space page leaf (Some z) y f g h = f h

pub hit-is : (a : TlbArray) (space page : ℕ) (leaf : Leaf) → array_hit a space page ≡ Some leaf → IsHit a space page leaf
unfolding array_hit
hit-is a space page leaf h =
    first-is a space page leaf (found_as a space page order.K4) (first_found (found_as a space page order.M2) (found_as a space page order.G1))
    (found-is a space page order.K4 leaf)
    (first-is a space page leaf (found_as a space page order.M2) (found_as a space page order.G1)
    (found-is a space page order.M2 leaf) (found-is a space page order.G1 leaf)) h

-- the leaf in an array that a kind of access hits, where it serves the kind
taken-is : (taken : Bool) (found : Option Leaf) (leaf : Leaf) → where_taken taken found ≡ Some leaf → found ≡ Some leaf
taken-is true found leaf h = h
taken-is false found leaf h = absurd (cc)

pub asked-is : (kind : Kind) (a : TlbArray) (space page : ℕ) (leaf : Leaf) → asked kind a space page ≡ Some leaf → array_hit a space page ≡ Some leaf
asked-is kind a space page leaf h = taken-is (serves_kind kind a) (array_hit a space page) leaf h

-- what all arrays answer
pub answer-held : (kind : Kind) (arrays : List TlbArray) (space page : ℕ) (answer : Answer) → answer_of kind arrays space page ≡ Some answer → Held answer.leaf arrays
answer-held kind [] space page answer h = absurd (cc)
answer-held kind (a ∷ arrays) space page answer h = go (asked kind a space page) refl h (λ k. answer-held kind arrays space page answer k)
  where
    go : (o : Option Leaf) → asked kind a space page ≡ o → answered_by o a.spec.level (answer_of kind arrays space page) ≡ Some answer
        → (answer_of kind arrays space page ≡ Some answer → Held answer.leaf arrays) → Held answer.leaf (a ∷ arrays)
    go None is k next = inr (next k)
    go (Some leaf) is k next =
        let same : leaf ≡ answer.leaf = cc in
        inl (subst (λ (z : Leaf). InSets z a.sets) same (hit-is a space page leaf (asked-is kind a space page leaf is)).held)

pub answer-covers : (kind : Kind) (arrays : List TlbArray) (space page : ℕ) (answer : Answer) → answer_of kind arrays space page ≡ Some answer → covers space page answer.leaf ≡ true
answer-covers kind [] space page answer h = absurd (cc)
answer-covers kind (a ∷ arrays) space page answer h = go (asked kind a space page) refl h (λ k. answer-covers kind arrays space page answer k)
  where
    go : (o : Option Leaf) → asked kind a space page ≡ o → answered_by o a.spec.level (answer_of kind arrays space page) ≡ Some answer
        → (answer_of kind arrays space page ≡ Some answer → covers space page answer.leaf ≡ true) → covers space page answer.leaf ≡ true
    go None is k next = next k
    go (Some leaf) is k next =
        let same : leaf ≡ answer.leaf = cc in
        subst (λ (z : Leaf). covers space page z ≡ true) same (hit-is a space page leaf (asked-is kind a space page leaf is)).covering
