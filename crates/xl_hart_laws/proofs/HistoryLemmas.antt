-- Histories: older mappings, what they are, and whose frames they hold.
use Rattle.xl_hart_laws.proofs.Common.{◌++◌, ◌<◌, ◌∷◌, ◌≡◌, ◌≤◌, ◌⊎◌, [], ap, arith, Change, changed, get_or, held_leaves, holds_frames, In, In-append, In-left, In-right, inl, inr, IsHistory, IsKnown, IsMapping, IsOwned, IsSound, kept-sound, Leaf, length, List, None, older, Option, Order, refl, Request, request_of, Row, Some, subst, suc, sym, take, true, undone, with-In, with_held, with_new, without-In, without_old, zero, ℕ}
use Rattle.xl_hart_laws.proofs.UndoLemmas.{change-known, change-undone}

-- the history after a change
pub history-changed : (row : Row) (requests : List Request) (leaves : List Leaf) (c : Change) → IsMapping row leaves → IsSound row leaves c → IsHistory row requests leaves
    → IsHistory row (request_of c leaves ∷ requests) (changed c leaves)
history-changed row requests leaves c m s h =
    (kept-sound row leaves c m s, change-known leaves c, subst (λ (xs : List Leaf). IsHistory row requests xs) (sym (change-undone row leaves c m s)) h)

-- a change is undone first
pub older-changed : (row : Row) (requests : List Request) (leaves : List Leaf) (c : Change) (i : ℕ) → IsMapping row leaves → IsSound row leaves c
    → older (suc i) (request_of c leaves ∷ requests) (changed c leaves) ≡ older i requests leaves
older-changed row requests leaves c i m s = ap (λ (xs : List Leaf). older i requests xs) (change-undone row leaves c m s)

-- the newest requests alone
pub history-taken : (row : Row) (n : ℕ) (requests : List Request) (leaves : List Leaf) → IsHistory row requests leaves → IsHistory row (take n requests) leaves
history-taken row zero [] leaves h = h
history-taken row zero (r ∷ requests) leaves h = h.0
history-taken row (suc n) [] leaves h = h
history-taken row (suc n) (r ∷ requests) leaves (m, t, h) = (m, t, history-taken row n requests (undone r leaves) h)

pub older-taken : (i n : ℕ) (requests : List Request) (leaves : List Leaf) → i ≤ n → older i (take n requests) leaves ≡ older i requests leaves
older-taken zero n requests leaves below = refl
older-taken (suc i) zero requests leaves below = absurd (omega arith)
older-taken (suc i) (suc n) [] leaves below = refl
older-taken (suc i) (suc n) (r ∷ requests) leaves below = older-taken i n requests (undone r leaves) (omega arith)

-- each older mapping is one
pub older-mapping : (row : Row) (i : ℕ) (requests : List Request) (leaves : List Leaf) → IsHistory row requests leaves → IsMapping row (older i requests leaves)
older-mapping row zero [] leaves h = h
older-mapping row zero (r ∷ requests) leaves h = h.0
older-mapping row (suc i) [] leaves h = h
older-mapping row (suc i) (r ∷ requests) leaves (m, t, h) = older-mapping row i requests (undone r leaves) h

-- the last request undone is the oldest
pub older-last : (i : ℕ) (requests : List Request) (leaves : List Leaf) (d : Request) → i < length requests
    → older (suc i) requests leaves ≡ undone (get_or requests i d) (older i requests leaves)
older-last i [] leaves d below = absurd (omega arith)
older-last zero (r ∷ requests) leaves d below = refl
older-last (suc i) (r ∷ requests) leaves d below = older-last i requests (undone r leaves) d (omega arith)

-- a leaf before a request was of it, or is there after
pub undone-In : (before after : Option Leaf) (leaves : List Leaf) (x : Leaf) → In x (with_new before (without_old after leaves)) → (before ≡ Some x) ⊎ In x leaves
undone-In None after leaves x i = inr (out after leaves x i)
  where
    out : (old : Option Leaf) (xs : List Leaf) (z : Leaf) → In z (without_old old xs) → In z xs
    out None xs z j = j
    out (Some old) xs z j = without-In z old.space old.first xs j
undone-In (Some y) after leaves x i =
    elim (with-In x y (without_old after leaves) i) [
      | inl e ↦ inl (ap (λ (z : Leaf). Some z) (sym e))
      | inr j ↦ inr (out after leaves x j)
    ]
  where
    out : (old : Option Leaf) (xs : List Leaf) (z : Leaf) → In z (without_old old xs) → In z xs
    out None xs z j = j
    out (Some old) xs z j = without-In z old.space old.first xs j

-- frames that are held back
held-more : (before after : Option Leaf) (leaves : List Leaf) (x : Leaf) → In x leaves → In x (with_held before after leaves)
held-more (Some y) None leaves x i = inr i
held-more (Some y) (Some z) leaves x i = i
held-more None after leaves x i = i

same-holds : (frame : ℕ) (x y : Leaf) → y.order ≡ x.order → y.frame ≡ x.frame → holds_frames frame 1 x ≡ true → holds_frames frame 1 y ≡ true
same-holds frame x y o f h =
    let P : Order → ℕ → Type 0 = λ q n. holds_frames frame 1 (record y { order = q; frame = n }) ≡ true in
    let a : P x.order x.frame = h in
    let b : P x.order y.frame = subst (λ (n : ℕ). P x.order n) (sym f) a in
    subst (λ (q : Order). P q y.frame) (sym o) b

owned-by : (frame : ℕ) (r : Request) (requests : List Request) (leaves : List Leaf) → IsKnown r leaves → IsOwned frame (undone r leaves ++ held_leaves requests)
    → IsOwned frame (leaves ++ held_leaves (r ∷ requests))
owned-by frame r requests leaves known o =
    elim (In-append o.leaf (undone r leaves) (held_leaves requests) o.member) [
      | inl i ↦ elim (undone-In r.before r.after leaves o.leaf i) [
        | inl e ↦ go r.after refl e
        | inr j ↦ record { leaf = o.leaf; member = In-left o.leaf leaves (held_leaves (r ∷ requests)) j; holds = o.holds }
      ]
      | inr j ↦ record {
        leaf = o.leaf;
        member = In-right o.leaf leaves (held_leaves (r ∷ requests)) (held-more r.before r.after (held_leaves requests) o.leaf j);
        holds = o.holds;
      }
    ]
  where
    go : (after : Option Leaf) → r.after ≡ after → r.before ≡ Some o.leaf → IsOwned frame (leaves ++ held_leaves (r ∷ requests))
    go (Some y) a b = record {
      leaf = y;
      member = In-left y leaves (held_leaves (r ∷ requests)) (known.there y a);
      holds = same-holds frame o.leaf y (known.same_order o.leaf y b a) (known.same_frame o.leaf y b a) o.holds;
    }
    go None a b =
        let P : Option Leaf → Option Leaf → Type 0 = λ p q. In o.leaf (with_held p q (held_leaves requests)) in
        let i : P (Some o.leaf) None = inl refl in
        record {
          leaf = o.leaf;
          member = In-right o.leaf leaves (held_leaves (r ∷ requests)) (subst (λ (p : Option Leaf). P p r.after) (sym b) (subst (λ (q : Option Leaf). P (Some o.leaf) q) (sym a) i));
          holds = o.holds;
        }

-- each frame of an older mapping is in the mapping or held back
pub older-owned : (row : Row) (frame i : ℕ) (requests : List Request) (leaves : List Leaf) (x : Leaf) → IsHistory row requests leaves → In x (older i requests leaves)
    → holds_frames frame 1 x ≡ true → IsOwned frame (leaves ++ held_leaves requests)
older-owned row frame zero requests leaves x h i t = record { leaf = x; member = In-left x leaves (held_leaves requests) i; holds = t }
older-owned row frame (suc n) [] leaves x h i t = record { leaf = x; member = In-left x leaves [] i; holds = t }
older-owned row frame (suc n) (r ∷ requests) leaves x (m, known, h) i t =
    owned-by frame r requests leaves known (older-owned row frame n requests (undone r leaves) x h i t)
