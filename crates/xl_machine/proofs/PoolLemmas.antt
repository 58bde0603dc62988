-- A pool of frames through a change after which each leaf holds the frames that it held.
use Rattle.xl_machine.proofs.Common.{◌&&◌, ◌+◌, ◌∙◌, ◌≡◌, any-In, ap, at_page, Bool, Change, changed, changed-In, false, holds_frames, In, In-any, inl, inr, IsMapping, IsNewPlace, IsPoolOf, IsSound, Leaf, leaf_named, List, list_any, nat_lt, new-In, new_leaf, not, old-In, old_leaf, Order, pages_of, Perm, Protect, refl, Relocate, Row, same-tests, Some, stays-changed, subst, sym, true, with_perm, ℕ}

-- tests that agree on all frames make one pool
pool-same : (frames : ℕ) (xs ys : List Leaf) (pool : List Bool) → IsPoolOf frames xs pool → ((f : ℕ) → list_any (holds_frames f 1) ys ≡ list_any (holds_frames f 1) xs)
    → IsPoolOf frames ys pool
pool-same frames xs ys pool tie same = record { size = tie.size; each = λ f below. tie.each f below ∙ ap not (sym (same f)) }

-- a change that leaves a leaf its frames leaves the pool
same-frames : (row : Row) (leaves : List Leaf) (c : Change) (old new : Leaf) (f : ℕ) → IsMapping row leaves → IsSound row leaves c
    → old_leaf c leaves ≡ Some old → new_leaf c leaves ≡ Some new → new.order ≡ old.order → new.frame ≡ old.frame
    → list_any (holds_frames f 1) (changed c leaves) ≡ list_any (holds_frames f 1) leaves
same-frames row leaves c old new f m s is_old is_new order frame = same-tests _ _ before after
  where
    holds : holds_frames f 1 new ≡ holds_frames f 1 old
    holds = ap (λ o. nat_lt new.frame (f + 1) && nat_lt f (new.frame + pages_of o)) order ∙ ap (λ n. nat_lt n (f + 1) && nat_lt f (n + pages_of old.order)) frame

    before : list_any (holds_frames f 1) (changed c leaves) ≡ true → list_any (holds_frames f 1) leaves ≡ true
    before t =
        let x = any-In (holds_frames f 1) (changed c leaves) t in
        elim (changed-In leaves c x.0 x.1) [
          | inl y ↦
              let same : y.0 ≡ new = (let e : Some y.0 ≡ Some new = sym y.1 ∙ is_new in cc) in
              In-any (holds_frames f 1) old leaves (old-In c leaves old is_old) (sym holds ∙ subst (λ (z : Leaf). holds_frames f 1 z ≡ true) (y.2 ∙ same) x.2)
          | inr i ↦ In-any (holds_frames f 1) x.0 leaves i x.2
        ]

    other : (b : Bool) (x : Leaf) → holds_frames f 1 old ≡ b → In x leaves → holds_frames f 1 x ≡ true → list_any (holds_frames f 1) (changed c leaves) ≡ true
    other true x h i t = In-any (holds_frames f 1) new (changed c leaves) (new-In c leaves new is_new) (holds ∙ h)
    other false x h i t =
        In-any (holds_frames f 1) x (changed c leaves) (stays-changed row leaves c x m s i (λ y e same.
        let is : y ≡ old = (let q : Some y ≡ Some old = sym e ∙ is_old in cc) in
        let k : true ≡ false = sym (subst (λ (z : Leaf). holds_frames f 1 z ≡ true) (same ∙ is) t) ∙ h in
        absurd (cc))) t

    after : list_any (holds_frames f 1) leaves ≡ true → list_any (holds_frames f 1) (changed c leaves) ≡ true
    after t = let x = any-In (holds_frames f 1) leaves t in other (holds_frames f 1 old) x.0 refl x.1 x.2

pub pool-protected : (row : Row) (space first : ℕ) (o : Order) (perm : Perm) (leaves : List Leaf) (old : Leaf) (pool : List Bool) → IsMapping row leaves
    → leaf_named space first o leaves ≡ Some old → IsPoolOf row.frames leaves pool → IsPoolOf row.frames (changed (Protect space first o perm) leaves) pool
pool-protected row space first o perm leaves old pool m named tie =
    pool-same row.frames leaves (changed (Protect space first o perm) leaves) pool tie
    (λ f. same-frames row leaves (Protect space first o perm) old (record old { perm = perm }) f m tt named (ap (with_perm perm) named) refl refl)

pub pool-relocated : (row : Row) (space first to : ℕ) (o : Order) (leaves : List Leaf) (old : Leaf) (pool : List Bool) → IsMapping row leaves → IsNewPlace row leaves space to o
    → leaf_named space first o leaves ≡ Some old → IsPoolOf row.frames leaves pool → IsPoolOf row.frames (changed (Relocate space first to o) leaves) pool
pool-relocated row space first to o leaves old pool m place named tie =
    pool-same row.frames leaves (changed (Relocate space first to o) leaves) pool tie
    (λ f. same-frames row leaves (Relocate space first to o) old (record old { first = to }) f m place named (ap (at_page to) named) refl refl)
