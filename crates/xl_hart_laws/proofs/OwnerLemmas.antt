-- How many leaves hold a frame.
use Rattle.xl_hart_laws.proofs.Common.{◌++◌, ◌+◌, ◌==◌, ◌∷◌, ◌≡◌, ◌≤◌, [], arith, at_page, Bool, Change, changed, false, get_or, held_leaves, holds_frames, In, inl, inr, Insert, IsMapping, IsSound, Leaf, leaf_key, leaf_named, length, List, list_any, nat_lt, nat_tests, new_leaf, None, old-In, old_leaf, one_if, Option, owners, Protect, put-back, refl, Relocate, Remove, Request, request_of, Row, Some, suc, take, true, with_held, with_leaf, with_new, with_perm, without-other, without_leaf, without_old, zero, ℕ}
use Rattle.xl_hart_laws.proofs.UndoLemmas.{new-apart}

-- of one leaf, if there is one
abbrev pub owners_by : ℕ → Option Leaf → ℕ
owners_by frame None = 0
owners_by frame (Some x) = one_if (holds_frames frame 1 x)

pub owners-append : (frame : ℕ) (xs ys : List Leaf) → owners frame (xs ++ ys) ≡ owners frame xs + owners frame ys
owners-append frame [] ys = omega arith
owners-append frame (x ∷ xs) ys = let e : owners frame (xs ++ ys) ≡ owners frame xs + owners frame ys = owners-append frame xs ys in omega arith

-- a leaf of a new key comes
pub owners-with : (frame : ℕ) (x : Leaf) (xs : List Leaf) → ((z : Leaf) → In z xs → leaf_key z ≡ leaf_key x → ⊥)
    → owners frame (with_leaf x xs) ≡ one_if (holds_frames frame 1 x) + owners frame xs
owners-with frame x [] new = refl
owners-with frame x (y ∷ ys) new = go (leaf_key x == leaf_key y) (nat_lt (leaf_key x) (leaf_key y)) refl refl (owners-with frame x ys (λ z i. new z (inr i)))
  where
    go : (same before : Bool) → (leaf_key x == leaf_key y) ≡ same → nat_lt (leaf_key x) (leaf_key y) ≡ before
        → owners frame (with_leaf x ys) ≡ one_if (holds_frames frame 1 x) + owners frame ys
        → owners frame (with_leaf x (y ∷ ys)) ≡ one_if (holds_frames frame 1 x) + owners frame (y ∷ ys)
    go true before t u more = absurd (new y (inl refl) (grind (arith, nat_tests)))
    go false true t u more = rw (t, u) refl
    go false false t u more = rw (t, u) (omega arith)

-- the leaves with one that comes and one that goes
pub owners-changed : (row : Row) (frame : ℕ) (leaves : List Leaf) (c : Change) → IsMapping row leaves → IsSound row leaves c
    → owners frame (changed c leaves) + owners_by frame (old_leaf c leaves) ≡ owners frame leaves + owners_by frame (new_leaf c leaves)
unfolding changed
owners-changed row frame leaves c m s = go (old_leaf c leaves) (new_leaf c leaves) (old-In c leaves) (new-apart row leaves c m s)
  where
    without : (old : Option Leaf) → ((x : Leaf) → old ≡ Some x → In x leaves) → owners frame (without_old old leaves) + owners_by frame old ≡ owners frame leaves
    without None there = omega arith
    without (Some x) there =
        let back : with_leaf x (without_leaf x.space x.first leaves) ≡ leaves = put-back x leaves m.sorted (there x refl) in
        let e : owners frame (with_leaf x (without_leaf x.space x.first leaves)) ≡ one_if (holds_frames frame 1 x) + owners frame (without_leaf x.space x.first leaves) =
        owners-with frame x (without_leaf x.space x.first leaves) (λ z i k. without-other z x.space x.first leaves i k) in
        let f : owners frame leaves ≡ one_if (holds_frames frame 1 x) + owners frame (without_leaf x.space x.first leaves) = rw back at e in
        omega arith

    with : (new : Option Leaf) (xs : List Leaf) → ((x : Leaf) → new ≡ Some x → (z : Leaf) → In z xs → leaf_key z ≡ leaf_key x → ⊥)
        → owners frame (with_new new xs) ≡ owners_by frame new + owners frame xs
    with None xs apart = omega arith
    with (Some x) xs apart = owners-with frame x xs (apart x refl)

    go : (old new : Option Leaf) → ((x : Leaf) → old ≡ Some x → In x leaves)
        → ((x : Leaf) → new ≡ Some x → (z : Leaf) → In z (without_old old leaves) → leaf_key z ≡ leaf_key x → ⊥)
        → owners frame (with_new new (without_old old leaves)) + owners_by frame old ≡ owners frame leaves + owners_by frame new
    go old new there apart = let a = with new (without_old old leaves) apart in let b = without old there in omega arith

-- what a request holds back
pub owners-held : (frame : ℕ) (before after : Option Leaf) (xs : List Leaf) → owners frame (with_held before after xs) ≡ owners frame (with_held before after []) + owners frame xs
owners-held frame (Some x) None xs = omega arith
owners-held frame (Some x) (Some y) xs = omega arith
owners-held frame None after xs = omega arith

-- the newest requests hold back no more than all
pub owners-taken : (frame n : ℕ) (requests : List Request) → owners frame (held_leaves (take n requests)) ≤ owners frame (held_leaves requests)
owners-taken frame zero requests = omega arith
owners-taken frame (suc n) [] = omega arith
owners-taken frame (suc n) (r ∷ requests) =
    let a : owners frame (held_leaves (take n requests)) ≤ owners frame (held_leaves requests) = owners-taken frame n requests in
    let b = owners-held frame r.before r.after (held_leaves (take n requests)) in
    let c = owners-held frame r.before r.after (held_leaves requests) in
    omega arith

-- no leaf, or some leaf, holds a frame
pub none-owned : (frame : ℕ) (xs : List Leaf) → list_any (holds_frames frame 1) xs ≡ false → owners frame xs ≡ 0
none-owned frame [] h = refl
none-owned frame (x ∷ xs) h = go (holds_frames frame 1 x) refl (λ k. none-owned frame xs k)
  where
    go : (b : Bool) → holds_frames frame 1 x ≡ b → (list_any (holds_frames frame 1) xs ≡ false → owners frame xs ≡ 0) → owners frame (x ∷ xs) ≡ 0
    go true t more = let k : true ≡ false = rw t at h in absurd (cc)
    go false t more = let k : list_any (holds_frames frame 1) xs ≡ false = rw t at h in rw t (let e = more k in omega arith)

pub any-owned : (frame : ℕ) (xs : List Leaf) → list_any (holds_frames frame 1) xs ≡ true → 1 ≤ owners frame xs
any-owned frame [] h = absurd (cc)
any-owned frame (x ∷ xs) h = go (holds_frames frame 1 x) refl (λ k. any-owned frame xs k)
  where
    go : (b : Bool) → holds_frames frame 1 x ≡ b → (list_any (holds_frames frame 1) xs ≡ true → 1 ≤ owners frame xs) → 1 ≤ owners frame (x ∷ xs)
    go true t more = rw t (omega arith)
    go false t more = let k : list_any (holds_frames frame 1) xs ≡ true = rw t at h in rw t (let e = more k in omega arith)

-- what a change adds to the leaves that hold frames: the leaf of a map
abbrev pub inserted : Change → Option Leaf
inserted (Insert x) = Some x
inserted (Remove space first o) = None
inserted (Protect space first o perm) = None
inserted (Relocate space first to o) = None

module _ (row : Row) (frame : ℕ) (requests : List Request) (leaves : List Leaf) (c : Change) (m : IsMapping row leaves) (s : IsSound row leaves c) where
  after-by : (d : Change) → owners frame (changed c leaves) + owners_by frame (old_leaf d leaves) ≡ owners frame leaves + owners_by frame (new_leaf d leaves)
      → owners frame (changed c leaves) + owners frame (with_held (old_leaf d leaves) (new_leaf d leaves) (held_leaves requests)) ≡ owners_by frame (inserted d) + (owners frame leaves + owners frame (held_leaves requests))
  after-by (Insert x) count = omega arith
  after-by (Remove space first o) count = go (leaf_named space first o leaves) count
    where
      go : (old : Option Leaf) → owners frame (changed c leaves) + owners_by frame old ≡ owners frame leaves + 0
          → owners frame (changed c leaves) + owners frame (with_held old None (held_leaves requests)) ≡ 0 + (owners frame leaves + owners frame (held_leaves requests))
      go None k = omega arith
      go (Some x) k = omega arith
  after-by (Protect space first o perm) count = go (leaf_named space first o leaves) count
    where
      go : (old : Option Leaf) → owners frame (changed c leaves) + owners_by frame old ≡ owners frame leaves + owners_by frame (with_perm perm old)
          → owners frame (changed c leaves) + owners frame (with_held old (with_perm perm old) (held_leaves requests)) ≡ 0 + (owners frame leaves + owners frame (held_leaves requests))
      go None k = omega arith
      go (Some x) k = omega arith
  after-by (Relocate space first to o) count = go (leaf_named space first o leaves) count
    where
      go : (old : Option Leaf) → owners frame (changed c leaves) + owners_by frame old ≡ owners frame leaves + owners_by frame (at_page to old)
          → owners frame (changed c leaves) + owners frame (with_held old (at_page to old) (held_leaves requests)) ≡ 0 + (owners frame leaves + owners frame (held_leaves requests))
      go None k = omega arith
      go (Some x) k = omega arith

  -- the leaves that hold a frame, with those held back, after a change
  pub owners-after : owners frame (changed c leaves ++ held_leaves (request_of c leaves ∷ requests)) ≡ owners_by frame (inserted c) + owners frame (leaves ++ held_leaves requests)
  owners-after =
      let a = after-by c (owners-changed row frame leaves c m s) in
      let b = owners-append frame (changed c leaves) (held_leaves (request_of c leaves ∷ requests)) in
      let d = owners-append frame leaves (held_leaves requests) in
      omega arith

-- what the oldest request holds back, beside the others
pub owners-oldest : (frame n : ℕ) (requests : List Request) (d : Request) → length requests ≡ suc n
    → owners frame (held_leaves requests) ≡ owners frame (with_held (get_or requests n d).before (get_or requests n d).after []) + owners frame (held_leaves (take n requests))
owners-oldest frame n [] d e = absurd (omega arith)
owners-oldest frame zero (r ∷ []) d e = omega arith
owners-oldest frame zero (r ∷ q ∷ requests) d e = absurd (omega arith)
owners-oldest frame (suc n) (r ∷ requests) d e =
    let more = owners-oldest frame n requests d (omega arith) in
    let a = owners-held frame r.before r.after (held_leaves requests) in
    let b = owners-held frame r.before r.after (held_leaves (take n requests)) in
    omega arith
