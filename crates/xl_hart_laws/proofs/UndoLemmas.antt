-- A request undone: the mapping is the one before its command.
use Rattle.xl_hart_laws.proofs.Common.{◌*◌, ◌+◌, ◌==◌, ◌^◌, ◌∙◌, ◌≡◌, ap, at_page, Change, changed, In, Insert, IsKnown, IsMapping, IsSound, Leaf, leaf_key, leaf_named, List, named-space, new-In, new_leaf, None, old-In, old_leaf, Option, Order, Perm, Protect, put-back, refl, Relocate, Remove, request_of, Row, Some, sorted-without, subst, sym, took-back, undone, with_new, with_perm, without-In, without-other, without_leaf, without_old, ℕ}
use Rattle.xl_model_lemmas.proofs.ChangeLemmas.{first-small, other-key, place-small}
use Rattle.xl_model_lemmas.proofs.MappingLemmas.{named-is}
use Rattle.xl_model_lemmas.specs.Sorted.{IsSorted}

-- one leaf goes and another comes, and back
undone-by : (old new : Option Leaf) (xs : List Leaf) → IsSorted xs → ((x : Leaf) → old ≡ Some x → In x xs)
    → ((x : Leaf) → new ≡ Some x → (z : Leaf) → In z (without_old old xs) → leaf_key z ≡ leaf_key x → ⊥)
    → with_new old (without_old new (with_new new (without_old old xs))) ≡ xs
undone-by None None xs s there apart = refl
undone-by None (Some x) xs s there apart = took-back x xs s (apart x refl)
undone-by (Some x) None xs s there apart = put-back x xs s (there x refl)
undone-by (Some x) (Some y) xs s there apart =
    rw (took-back y (without_leaf x.space x.first xs) (sorted-without x.space x.first xs s) (apart y refl)) (put-back x xs s (there x refl))

-- no other leaf has the key of the one that a change brings
protected-apart : (perm : Perm) (old : Option Leaf) (leaves : List Leaf) (x : Leaf) → with_perm perm old ≡ Some x → (z : Leaf) → In z (without_old old leaves) → leaf_key z ≡ leaf_key x → ⊥
protected-apart perm None leaves x is z i e = absurd (cc)
protected-apart perm (Some old) leaves x is z i e =
    let same : record old { perm = perm } ≡ x = (cc) in
    without-other z old.space old.first leaves i (e ∙ ap (λ (y : Leaf). leaf_key y) (sym same))

moved-apart : (row : Row) (space to : ℕ) (o : Order) (old : Option Leaf) (leaves : List Leaf) (x : Leaf) → IsMapping row leaves → IsSound row leaves (Relocate space 0 to o)
    → ((y : Leaf) → old ≡ Some y → y.space ≡ space) → at_page to old ≡ Some x → (z : Leaf) → In z (without_old old leaves) → leaf_key z ≡ leaf_key x → ⊥
moved-apart row space to o None leaves x m place named is z i e = absurd (cc)
moved-apart row space to o (Some old) leaves x m place named is z i e =
    let same : record old { first = to } ≡ x = (cc) in
    let key : leaf_key z ≡ old.space * 2 ^ 52 + to = e ∙ ap (λ (y : Leaf). leaf_key y) (sym same) in
    let P : ℕ → Type 0 = λ s. leaf_key z ≡ s * 2 ^ 52 + to in
    other-key row leaves space to o z m (without-In z old.space old.first leaves i) (place-small row leaves space to o place) place.apart (subst P (named old refl) key)

pub new-apart : (row : Row) (leaves : List Leaf) (c : Change) → IsMapping row leaves → IsSound row leaves c
    → (x : Leaf) → new_leaf c leaves ≡ Some x → (z : Leaf) → In z (without_old (old_leaf c leaves) leaves) → leaf_key z ≡ leaf_key x → ⊥
new-apart row leaves (Insert leaf) m s x is z i e =
    let same : leaf ≡ x = (cc) in
    other-key row leaves leaf.space leaf.first leaf.order z m i (first-small row leaf s.valid) s.apart (e ∙ ap (λ (y : Leaf). leaf_key y) (sym same))
new-apart row leaves (Remove space first o) m s x is z i e = absurd (cc)
new-apart row leaves (Protect space first o perm) m s x is z i e = protected-apart perm (leaf_named space first o leaves) leaves x is z i e
new-apart row leaves (Relocate space first to o) m s x is z i e =
    moved-apart row space to o (leaf_named space first o leaves) leaves x m s (λ y h. named-space space first o y (named-is space first o y leaves h)) is z i e

-- the request of a change that is sound leads back to the mapping before it
pub change-undone : (row : Row) (leaves : List Leaf) (c : Change) → IsMapping row leaves → IsSound row leaves c → undone (request_of c leaves) (changed c leaves) ≡ leaves
unfolding changed
change-undone row leaves c m s =
    undone-by (old_leaf c leaves) (new_leaf c leaves) leaves m.sorted (old-In c leaves) (new-apart row leaves c m s)

-- what it says
perm-same : (perm : Perm) (old : Option Leaf) (x y : Leaf) → old ≡ Some x → with_perm perm old ≡ Some y → (y.order ≡ x.order) × (y.frame ≡ x.frame)
perm-same perm None x y e f = absurd (cc)
perm-same perm (Some old) x y e f =
    let a : old ≡ x = (cc) in
    let b : record old { perm = perm } ≡ y = (cc) in
    (ap (λ (z : Leaf). z.order) (sym b) ∙ ap (λ (z : Leaf). z.order) a, ap (λ (z : Leaf). z.frame) (sym b) ∙ ap (λ (z : Leaf). z.frame) a)

page-same : (to : ℕ) (old : Option Leaf) (x y : Leaf) → old ≡ Some x → at_page to old ≡ Some y → (y.order ≡ x.order) × (y.frame ≡ x.frame)
page-same to None x y e f = absurd (cc)
page-same to (Some old) x y e f =
    let a : old ≡ x = (cc) in
    let b : record old { first = to } ≡ y = (cc) in
    (ap (λ (z : Leaf). z.order) (sym b) ∙ ap (λ (z : Leaf). z.order) a, ap (λ (z : Leaf). z.frame) (sym b) ∙ ap (λ (z : Leaf). z.frame) a)

pub frames-same : (c : Change) (leaves : List Leaf) (x y : Leaf) → old_leaf c leaves ≡ Some x → new_leaf c leaves ≡ Some y → (y.order ≡ x.order) × (y.frame ≡ x.frame)
frames-same (Insert leaf) leaves x y e f = absurd (cc)
frames-same (Remove space first o) leaves x y e f = absurd (cc)
frames-same (Protect space first o perm) leaves x y e f = perm-same perm (leaf_named space first o leaves) x y e f
frames-same (Relocate space first to o) leaves x y e f = page-same to (leaf_named space first o leaves) x y e f

pub change-known : (leaves : List Leaf) (c : Change) → IsKnown (request_of c leaves) (changed c leaves)
change-known leaves c = record {
  there = new-In c leaves;
  same_order = λ x y e f. (frames-same c leaves x y e f).0;
  same_frame = λ x y e f. (frames-same c leaves x y e f).1;
}
