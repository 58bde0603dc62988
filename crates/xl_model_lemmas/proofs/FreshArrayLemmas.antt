-- Leaves of TLB arrays: touched, filled, purged.
use Rattle.xl_model_lemmas.proofs.Common.{◌&&◌, ◌∙◌, ◌∷◌, ◌≡◌, ◌⊎◌, [], Answer, answer_of, array_filled, array_touched, array_without, arrays_filled, arrays_hit, arrays_without, ArraysFresh, asked, Bool, Change, changed, cond, covers_as, eq-eqb, false, filled_below, filled_for, filled_where, Held, In, inl, inr, InSets, is_purged, IsMapping, IsSound, Kind, Leaf, List, map, nat_lt, newest-In, None, old_leaf, opening_array, opening_arrays, Option, Order, purged-In, refl, replicate, Row, same_order, serves_kind, set_at, set_number, slice_set, Some, subst, suc, sym, takes_order, TlbArray, touched-In, touched_or, true, zero, ℕ}
use Rattle.xl_model.specs.Recency.{purged, touched, with_newest}
use Rattle.xl_model.specs.RowRun.{arrays_after}
use Rattle.xl_model.specs.declared.row.Purge.{Purge}
use Rattle.xl_model.specs.declared.row.TlbSpec.{TlbSpec}
use Rattle.xl_model_lemmas.proofs.ChangeLemmas.{stays-changed}
use Rattle.xl_model_lemmas.proofs.HitLemmas.{answer-held, get-In}
use Rattle.xl_model.specs.declared.row.Purge.TheVariants as purge

-- sets
pub set-In : (leaf : Leaf) (sets : List (List Leaf)) (i : ℕ) (v : List Leaf) → InSets leaf (slice_set sets i v) → In leaf v ⊎ InSets leaf sets
set-In leaf [] i v h = inr h
set-In leaf (s ∷ sets) zero v (inl j) = inl j
set-In leaf (s ∷ sets) zero v (inr j) = inr (inr j)
set-In leaf (s ∷ sets) (suc i) v (inl j) = inr (inl j)
set-In leaf (s ∷ sets) (suc i) v (inr j) = elim (set-In leaf sets i v j) [ inl k ↦ inl k | inr k ↦ inr (inr k) ]

pub purged-sets : (p : Leaf → Bool) (leaf : Leaf) (sets : List (List Leaf)) → InSets leaf (map (purged p) sets) → InSets leaf sets × (p leaf ≡ false)
purged-sets p leaf [] h = absurd h
purged-sets p leaf (s ∷ sets) (inl i) = let k = purged-In p leaf s i in (inl k.0, k.1)
purged-sets p leaf (s ∷ sets) (inr i) = let k = purged-sets p leaf sets i in (inr k.0, k.1)

-- one array
pub touched-sets : (space page : ℕ) (hit leaf : Leaf) (a : TlbArray) → InSets leaf (array_touched space page hit a).sets → InSets leaf a.sets
unfolding array_touched
touched-sets space page hit leaf a i =
    elim (set-In leaf a.sets (set_number a.spec hit.order page) (touched (covers_as space page hit.order) (set_at a hit.order page)) i) [
      | inl j ↦ get-In leaf a.sets (set_number a.spec hit.order page) (touched-In (covers_as space page hit.order) leaf (set_at a hit.order page) j)
      | inr j ↦ j
    ]

pub filled-by : (b : Bool) (new leaf : Leaf) (a : TlbArray) → InSets leaf (filled_where b new a).sets → (leaf ≡ new) ⊎ InSets leaf a.sets
filled-by false new leaf a i = inr i
filled-by true new leaf a i =
    elim (set-In leaf a.sets (set_number a.spec new.order new.first) (with_newest a.spec.width new (set_at a new.order new.first)) i) [
      | inl j ↦ elim (newest-In a.spec.width leaf new (set_at a new.order new.first) j) [
        | inl e ↦ inl e
        | inr k ↦ inr (get-In leaf a.sets (set_number a.spec new.order new.first) k)
      ]
      | inr j ↦ inr j
    ]

pub filled-sets : (new leaf : Leaf) (a : TlbArray) → InSets leaf (array_filled new a).sets → (leaf ≡ new) ⊎ InSets leaf a.sets
unfolding array_filled
filled-sets new leaf a i = filled-by (takes_order a.spec new.order) new leaf a i

-- all arrays
-- a hit moves leaves, and fills arrays before with the leaf that answered; a walk fills those that serve the access
filled-if : (b : Bool) (new leaf : Leaf) (a : TlbArray) → InSets leaf (cond b (array_filled new a) a).sets → (leaf ≡ new) ⊎ InSets leaf a.sets
filled-if true new leaf a i = filled-sets new leaf a i
filled-if false new leaf a i = inr i

below-sets : (kind : Kind) (level : ℕ) (new leaf : Leaf) (a : TlbArray) → InSets leaf (filled_below kind level new a).sets → (leaf ≡ new) ⊎ InSets leaf a.sets
below-sets kind level new leaf a i = filled-if (serves_kind kind a && nat_lt a.spec.level level) new leaf a i

hit-held : (kind : Kind) (answer : Answer) (space page : ℕ) (leaf : Leaf) (arrays : List TlbArray) → Held leaf (arrays_hit kind answer space page arrays)
    → (leaf ≡ answer.leaf) ⊎ Held leaf arrays
unfolding arrays_hit
hit-held kind answer space page leaf [] h = absurd h
hit-held kind answer space page leaf (a ∷ arrays) h = go (asked kind a space page) h (λ k. hit-held kind answer space page leaf arrays k)
  where
    go : (o : Option Leaf)
        → Held leaf (touched_or o space page a arrays (filled_below kind answer.level answer.leaf a ∷ arrays_hit kind answer space page arrays))
        → (Held leaf (arrays_hit kind answer space page arrays) → (leaf ≡ answer.leaf) ⊎ Held leaf arrays) → (leaf ≡ answer.leaf) ⊎ Held leaf (a ∷ arrays)
    go (Some hit) k next = elim k [ inl i ↦ inr (inl (touched-sets space page hit leaf a i)) | inr j ↦ inr (inr j) ]
    go None k next = elim k [
      | inl i ↦ elim (below-sets kind answer.level answer.leaf leaf a i) [ inl e ↦ inl e | inr l ↦ inr (inl l) ]
      | inr j ↦ elim (next j) [ inl e ↦ inl e | inr l ↦ inr (inr l) ]
    ]

pub hit-fresh : (kind : Kind) (arrays : List TlbArray) (leaves : List Leaf) (space page : ℕ) (answer : Answer) → ArraysFresh arrays leaves
    → answer_of kind arrays space page ≡ Some answer → ArraysFresh (arrays_hit kind answer space page arrays) leaves
hit-fresh kind arrays leaves space page answer fresh is leaf h =
    elim (hit-held kind answer space page leaf arrays h) [
      | inl e ↦ let P : Leaf → Type 0 = λ z. In z leaves in subst P (sym e) (fresh answer.leaf (answer-held kind arrays space page answer is))
      | inr k ↦ fresh leaf k
    ]

filled-held : (kind : Kind) (new leaf : Leaf) (arrays : List TlbArray) → Held leaf (map (filled_for kind new) arrays) → (leaf ≡ new) ⊎ Held leaf arrays
filled-held kind new leaf [] h = absurd h
filled-held kind new leaf (a ∷ arrays) (inl i) = elim (filled-if (serves_kind kind a) new leaf a i) [ inl e ↦ inl e | inr k ↦ inr (inl k) ]
filled-held kind new leaf (a ∷ arrays) (inr i) = elim (filled-held kind new leaf arrays i) [ inl e ↦ inl e | inr k ↦ inr (inr k) ]

pub filled-fresh : (kind : Kind) (arrays : List TlbArray) (leaves : List Leaf) (new : Leaf) → ArraysFresh arrays leaves → In new leaves
    → ArraysFresh (arrays_filled kind new arrays) leaves
unfolding arrays_filled
filled-fresh kind arrays leaves new fresh i leaf h =
    elim (filled-held kind new leaf arrays h) [
      | inl e ↦ let P : Leaf → Type 0 = λ z. In z leaves in subst P (sym e) i
      | inr k ↦ fresh leaf k
    ]

without-held : (p : Leaf → Bool) (leaf : Leaf) (arrays : List TlbArray) → Held leaf (map (array_without p) arrays) → Held leaf arrays × (p leaf ≡ false)
without-held p leaf [] h = absurd h
without-held p leaf (a ∷ arrays) (inl i) = let k = purged-sets p leaf a.sets i in (inl k.0, k.1)
without-held p leaf (a ∷ arrays) (inr i) = let k = without-held p leaf arrays i in (inr k.0, k.1)

pub without-fresh : (p : Leaf → Bool) (arrays : List TlbArray) (leaves : List Leaf) → ArraysFresh arrays leaves → ArraysFresh (arrays_without p arrays) leaves
unfolding arrays_without
without-fresh p arrays leaves fresh leaf h = fresh leaf (without-held p leaf arrays h).0

-- every purge takes the old leaf itself
takes-old : (kind : Purge) (old : Leaf) → is_purged kind old old ≡ true
takes-old purge.Page old = rw (eq-eqb old.space old.space refl, eq-eqb old.first old.first refl) (same-level old.order)
  where
    same-level : (o : Order) → same_order o o ≡ true
    same-level o = eq-eqb _ _ refl
takes-old purge.Space old = eq-eqb old.space old.space refl
takes-old purge.All old = refl

purged-other : (kind : Purge) (old leaf : Leaf) → is_purged kind old leaf ≡ false → leaf ≡ old → ⊥
purged-other kind old leaf h e =
    let f : is_purged kind old old ≡ false = subst (λ (z : Leaf). is_purged kind old z ≡ false) e h in
    let t : is_purged kind old old ≡ true = takes-old kind old in
    let k : false ≡ true = sym f ∙ t in
    absurd (cc)

after-held : (kind : Purge) (old : Option Leaf) (leaf : Leaf) (arrays : List TlbArray) → Held leaf (arrays_after kind old arrays)
    → Held leaf arrays × ((y : Leaf) → old ≡ Some y → leaf ≡ y → ⊥)
unfolding arrays_without
after-held kind None leaf arrays h = (h, λ y e. absurd (cc))
after-held kind (Some old) leaf arrays h =
    let k = without-held (is_purged kind old) leaf arrays h in
    (k.0, λ y e same. let f : old ≡ y = cc in purged-other kind old leaf k.1 (same ∙ sym f))

-- after a sound change the arrays hold leaves of the new mapping alone
pub changed-fresh : (row : Row) (c : Change) (arrays : List TlbArray) (leaves : List Leaf) → IsMapping row leaves → IsSound row leaves c
    → ArraysFresh arrays leaves → ArraysFresh (arrays_after row.purge (old_leaf c leaves) arrays) (changed c leaves)
changed-fresh row c arrays leaves m s fresh leaf h =
    let k = after-held row.purge (old_leaf c leaves) leaf arrays h in
    stays-changed row leaves c leaf m s (fresh leaf k.0) k.1

pub opening-sets : (leaf : Leaf) (n : ℕ) → InSets leaf (replicate n []) → ⊥
opening-sets leaf zero h = h
opening-sets leaf (suc n) (inl i) = i
opening-sets leaf (suc n) (inr i) = opening-sets leaf n i

opening-held : (leaf : Leaf) (specs : List TlbSpec) → Held leaf (map opening_array specs) → ⊥
opening-held leaf [] h = h
opening-held leaf (spec ∷ specs) (inl i) = opening-sets leaf spec.sets i
opening-held leaf (spec ∷ specs) (inr i) = opening-held leaf specs i

pub opening-fresh : (specs : List TlbSpec) (leaves : List Leaf) → ArraysFresh (opening_arrays specs) leaves
unfolding opening_arrays
opening-fresh specs leaves leaf h = absurd (opening-held leaf specs h)
