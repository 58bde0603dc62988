-- A pool of frames through a change: a block is taken for a new leaf, or given back for one that
-- goes.
use Rattle.xl_model_lemmas.proofs.Common.{◌+◌, ◌<◌, ◌∙◌, ◌≡◌, ◌≤◌, any-false, any-In, ap, arith, Bool, Change, changed, false, holds_frames, In, In-any, inl, inr, Insert, IsFree, IsFreeOf, IsMapping, IsPoolOf, Leaf, leaf_key, leaf_named, length, List, list_any, marked, nat_lt, nat_tests, new_leaf, none-any, not, old_leaf, Order, pages_of, Protect, refl, Relocate, Remove, Row, same-tests, slice_index_or, Some, subst, sym, true, with_leaf, without_leaf, without_old, ℕ}
use Rattle.xl_frames.proofs.MarkLemmas.{length-marked, marked_above, marked_below, marked_inside}
use Rattle.xl_model_lemmas.proofs.InsertionLemmas.{In-with, In-without, same-place, with-In, without-In, without-other}
use Rattle.xl_model_lemmas.proofs.MappingLemmas.{named-In}
use Rattle.xl_model_lemmas.proofs.PoolLemmas.{no-leaf}

-- a block that is taken for a leaf
taken-each : (leaf : Leaf) (leaves : List Leaf) (f : ℕ) → IsFreeOf (pages_of leaf.order) leaf.frame leaves → leaf.frame ≤ f → f < leaf.frame + pages_of leaf.order
    → list_any (holds_frames f 1) (with_leaf leaf leaves) ≡ true
taken-each leaf leaves f free low high = In-any (holds_frames f 1) leaf (with_leaf leaf leaves) (In-with leaf leaves) (grind (arith, nat_tests))

other-each : (leaf : Leaf) (leaves : List Leaf) (f : ℕ) → (leaf.frame ≤ f → f < leaf.frame + pages_of leaf.order → ⊥) → ((x : Leaf) → In x leaves → In x (with_leaf leaf leaves))
    → list_any (holds_frames f 1) (with_leaf leaf leaves) ≡ list_any (holds_frames f 1) leaves
other-each leaf leaves f other keeps = go (list_any (holds_frames f 1) leaves) refl
  where
    apart : holds_frames f 1 leaf ≡ true → ⊥
    apart h = other (grind (arith, nat_tests)) (grind (arith, nat_tests))

    go : (b : Bool) → list_any (holds_frames f 1) leaves ≡ b → list_any (holds_frames f 1) (with_leaf leaf leaves) ≡ list_any (holds_frames f 1) leaves
    go true t = let found = any-In (holds_frames f 1) leaves t in In-any (holds_frames f 1) found.0 (with_leaf leaf leaves) (keeps found.0 found.1) found.2 ∙ sym t
    go false t =
        no-leaf f (with_leaf leaf leaves) (λ x i. elim (with-In x leaf leaves i) [
          | inl e ↦ let P : Leaf → Type 0 = λ z. holds_frames f 1 z ≡ false in subst P (sym e) (none (holds_frames f 1 leaf) refl)
          | inr j ↦ any-false (holds_frames f 1) x leaves t j
        ]) ∙ sym t
      where
        none : (b : Bool) → holds_frames f 1 leaf ≡ b → holds_frames f 1 leaf ≡ false
        none true u = absurd (apart u)
        none false u = u

pub pool-taken : (frames : ℕ) (leaf : Leaf) (leaves : List Leaf) (pool : List Bool) → IsPoolOf frames leaves pool → leaf.frame + pages_of leaf.order ≤ frames
    → IsFreeOf (pages_of leaf.order) leaf.frame leaves → ((x : Leaf) → In x leaves → In x (with_leaf leaf leaves))
    → IsPoolOf frames (with_leaf leaf leaves) (marked pool leaf.frame (pages_of leaf.order) false)
pool-taken frames leaf leaves pool tie fits free keeps = record {
  size = length-marked pool leaf.frame (pages_of leaf.order) false (omega (arith, tie.size)) ∙ tie.size;
  each = λ f below.
      elim (nat_lt f leaf.frame) as (λ b. nat_lt f leaf.frame ≡ b → slice_index_or (marked pool leaf.frame (pages_of leaf.order) false) f false ≡ not (list_any (holds_frames f 1) (with_leaf leaf leaves))) [
        | true ↦ λ t.
            let low : f < leaf.frame = grind (arith, nat_tests) in
            marked_below pool leaf.frame (pages_of leaf.order) f false false (omega (arith, tie.size)) low
            ∙ tie.each f below ∙ ap not (sym (other-each leaf leaves f (λ a b. omega arith) keeps))
        | false ↦ λ t.
            let low : leaf.frame ≤ f = grind (arith, nat_tests) in
            elim (nat_lt f (leaf.frame + pages_of leaf.order)) as (λ b. nat_lt f (leaf.frame + pages_of leaf.order) ≡ b → slice_index_or (marked pool leaf.frame (pages_of leaf.order) false) f false ≡ not (list_any (holds_frames f 1) (with_leaf leaf leaves))) [
              | true ↦ λ u.
                  let high : f < leaf.frame + pages_of leaf.order = grind (arith, nat_tests) in
                  marked_inside pool leaf.frame (pages_of leaf.order) f false false (omega (arith, tie.size)) low high
                  ∙ sym (ap not (taken-each leaf leaves f free low high))
              | false ↦ λ u.
                  let past : leaf.frame + pages_of leaf.order ≤ f = grind (arith, nat_tests) in
                  marked_above pool leaf.frame (pages_of leaf.order) f false false (omega (arith, tie.size)) past
                  ∙ tie.each f below ∙ ap not (sym (other-each leaf leaves f (λ a b. omega arith) keeps))
            ] refl
      ] refl;
}

-- a block that is taken and given back
pub pool-given : (frames at size : ℕ) (leaves : List Leaf) (pool : List Bool) → IsPoolOf frames leaves pool → at + size ≤ frames → IsFree pool at size
    → IsPoolOf frames leaves (marked (marked pool at size false) at size true)
pool-given frames at size leaves pool tie fits free =
    let once : length (marked pool at size false) ≡ length pool = length-marked pool at size false (omega (arith, tie.size)) in
    let room : at + size ≤ length (marked pool at size false) = omega (arith, tie.size) in
    record {
      size = length-marked (marked pool at size false) at size true room ∙ once ∙ tie.size;
      each = λ f below. same f ∙ tie.each f below;
    }
  where
    first : at + size ≤ length pool
    first = omega (arith, tie.size)

    second : at + size ≤ length (marked pool at size false)
    second = let once : length (marked pool at size false) ≡ length pool = length-marked pool at size false first in omega arith

    same : (f : ℕ) → slice_index_or (marked (marked pool at size false) at size true) f false ≡ slice_index_or pool f false
    same f =
        elim (nat_lt f at) as (λ b. nat_lt f at ≡ b → slice_index_or (marked (marked pool at size false) at size true) f false ≡ slice_index_or pool f false) [
          | true ↦ λ t. let low : f < at = grind (arith, nat_tests) in
              marked_below (marked pool at size false) at size f true false second low ∙ marked_below pool at size f false false first low
          | false ↦ λ t.
              let low : at ≤ f = grind (arith, nat_tests) in
              elim (nat_lt f (at + size)) as (λ b. nat_lt f (at + size) ≡ b → slice_index_or (marked (marked pool at size false) at size true) f false ≡ slice_index_or pool f false) [
                | true ↦ λ u. let high : f < at + size = grind (arith, nat_tests) in
                    marked_inside (marked pool at size false) at size f true false second low high ∙ sym (free.each f low high)
                | false ↦ λ u. let past : at + size ≤ f = grind (arith, nat_tests) in
                    marked_above (marked pool at size false) at size f true false second past ∙ marked_above pool at size f false false first past
              ] refl
        ] refl

-- the old leaf of a change is one of the leaves
pub old-In : (c : Change) (leaves : List Leaf) (old : Leaf) → old_leaf c leaves ≡ Some old → In old leaves
old-In (Insert leaf) leaves old h = absurd (cc)
old-In (Remove space first o) leaves old h = named-In space first o old leaves h
old-In (Protect space first o perm) leaves old h = named-In space first o old leaves h
old-In (Relocate space first to o) leaves old h = named-In space first o old leaves h

pub new-In : (c : Change) (leaves : List Leaf) (new : Leaf) → new_leaf c leaves ≡ Some new → In new (changed c leaves)
unfolding changed
new-In c leaves new h = rw h (In-with new (without_old (old_leaf c leaves) leaves))

-- the block of a leaf that goes is free again
removed-is : (space first : ℕ) (o : Order) (leaves : List Leaf) (old : Leaf) → leaf_named space first o leaves ≡ Some old
    → changed (Remove space first o) leaves ≡ without_leaf old.space old.first leaves
unfolding changed
removed-is space first o leaves old named = rw named refl

gone-inside : (row : Row) (leaves : List Leaf) (old : Leaf) (f : ℕ) → IsMapping row leaves → In old leaves → holds_frames f 1 old ≡ true
    → list_any (holds_frames f 1) (without_leaf old.space old.first leaves) ≡ false
gone-inside row leaves old f m i h =
    none-any (holds_frames f 1) (without_leaf old.space old.first leaves) (λ z j. not-holds z j (holds_frames f 1 z) refl)
  where
    not-holds : (z : Leaf) → In z (without_leaf old.space old.first leaves) → (b : Bool) → holds_frames f 1 z ≡ b → holds_frames f 1 z ≡ false
    not-holds z j true t =
        let same : z ≡ old = m.frames z old f (without-In z old.space old.first leaves j) i t h in
        absurd (without-other z old.space old.first leaves j (ap leaf_key same))
    not-holds z j false t = t

gone-outside : (row : Row) (leaves : List Leaf) (old : Leaf) (f : ℕ) → IsMapping row leaves → In old leaves → holds_frames f 1 old ≡ false
    → list_any (holds_frames f 1) (without_leaf old.space old.first leaves) ≡ list_any (holds_frames f 1) leaves
gone-outside row leaves old f m i h = same-tests _ _
    (λ t. let x = any-In (holds_frames f 1) (without_leaf old.space old.first leaves) t in In-any (holds_frames f 1) x.0 leaves (without-In x.0 old.space old.first leaves x.1) x.2)
    (λ t. let x = any-In (holds_frames f 1) leaves t in
    In-any (holds_frames f 1) x.0 (without_leaf old.space old.first leaves)
    (In-without x.0 old.space old.first leaves x.1 (λ e.
    let k : true ≡ false = sym (subst (λ (z : Leaf). holds_frames f 1 z ≡ true) (same-place x.0 old leaves m.sorted x.1 i e) x.2) ∙ h in
    absurd (cc))) x.2)

pub pool-removed : (row : Row) (space first : ℕ) (o : Order) (leaves : List Leaf) (old : Leaf) (pool : List Bool) → IsMapping row leaves
    → leaf_named space first o leaves ≡ Some old → IsPoolOf row.frames leaves pool
    → IsPoolOf row.frames (changed (Remove space first o) leaves) (marked pool old.frame (pages_of old.order) true)
pool-removed row space first o leaves old pool m named tie =
    subst (λ (xs : List Leaf). IsPoolOf row.frames xs (marked pool old.frame (pages_of old.order) true)) (sym (removed-is space first o leaves old named)) (record {
      size = length-marked pool old.frame (pages_of old.order) true fits ∙ tie.size;
      each = λ f below. go f below (holds_frames f 1 old) refl;
    })
  where
    i : In old leaves
    i = named-In space first o old leaves named

    fits : old.frame + pages_of old.order ≤ length pool
    fits = let a = (m.valid old i).frames_in in let b = tie.size in omega arith

    apart : (f : ℕ) → holds_frames f 1 old ≡ false → slice_index_or (marked pool old.frame (pages_of old.order) true) f false ≡ slice_index_or pool f false
    apart f h =
        elim (nat_lt f old.frame) as (λ b. nat_lt f old.frame ≡ b → slice_index_or (marked pool old.frame (pages_of old.order) true) f false ≡ slice_index_or pool f false) [
          | true ↦ λ t. let low : f < old.frame = grind (arith, nat_tests) in marked_below pool old.frame (pages_of old.order) f true false fits low
          | false ↦ λ t. let high : old.frame + pages_of old.order ≤ f = grind (arith, nat_tests) in marked_above pool old.frame (pages_of old.order) f true false fits high
        ] refl

    go : (f : ℕ) → f < row.frames → (b : Bool) → holds_frames f 1 old ≡ b
        → slice_index_or (marked pool old.frame (pages_of old.order) true) f false ≡ not (list_any (holds_frames f 1) (without_leaf old.space old.first leaves))
    go f below true h =
        let low : old.frame ≤ f = grind (arith, nat_tests) in
        let high : f < old.frame + pages_of old.order = grind (arith, nat_tests) in
        marked_inside pool old.frame (pages_of old.order) f true false fits low high ∙ sym (ap not (gone-inside row leaves old f m i h))
    go f below false h = apart f h ∙ tie.each f below ∙ ap not (sym (gone-outside row leaves old f m i h))
