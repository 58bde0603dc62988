-- The refusals of harts, by the questions in turn, and what the table may be asked.
use Rattle.xl_harts.proofs.Common.{◌%◌, ◌*◌, ◌+◌, ◌-◌, ◌<◌, ◌^◌, ◌∷◌, ◌≡◌, ◌≤◌, [], ap, arith, Bool, Chained, Change, change_of, change_rule, Cuckoo, Err, Event, first_refusal, frames_rule, hart_change, hart_refusal, hart_rule, HartSpec, HartsState, has-place, has_room, HasPlace, Insert, is_aligned, is_full, IsBlock, IsErrAnd, IsFit, IsHartSpec, IsLeafFor, IsLeafOf, IsPage, IsTable, kept_leaves, Leaf, leaf_at, leaf_nodes_missing, List, list_any, None, not, Ok, Option, or-first, or-second, Order, overlap_rule, page_limit, page_of, pages_of, Perm, place_rule, Protect, Radix, refl, Refusal, refusal_of, refused_unless, Relocate, Remove, Result, rule, Runs, Shape, shared_row, Some, spaces_of, subst, there_rule, true, ℕ}
use Rattle.std.specs.Cmp.{first_so}
use Rattle.xl_model.specs.Frames.{lowest}
use Rattle.xl_model_lemmas.proofs.PlaceLemmas.{page-block, pages-some}
use Rattle.xl_hart_model.specs.declared.hart.HartRefusal.TheVariants as why
use Rattle.xl_model.specs.declared.address.Mode.TheVariants as mode
use Rattle.xl_model.specs.declared.address.Order.TheVariants as order
use Rattle.xl_model.specs.declared.event.Event.TheVariants as event
use Rattle.xl_model.specs.declared.event.Refusal.TheVariants as refused

-- the spaces and pages of the shared table
pub table-limits : (spec : HartSpec) (shape : Shape) → IsTable spec shape → (spaces_of shape ≡ spec.spaces) × (page_limit shape ≡ 2 ^ 27)
table-limits spec (Radix levels spaces nodes) (three, same) = (same, rw three refl)
table-limits spec (Chained group buckets entries tags) is = absurd is
table-limits spec (Cuckoo rules ways) is = absurd is
table-limits spec (Runs ranges) is = absurd is

pub page-small : (va : ℕ) → page_of mode.Sv39 va < 2 ^ 27
unfolding page_of
page-small va = omega arith

pub page-here : (spec : HartSpec) (shape : Shape) → IsTable spec shape → (space va : ℕ) → space < spec.spaces → IsPage shape space (page_of mode.Sv39 va)
page-here spec shape is space va small =
    let l = table-limits spec shape is in
    let a = l.0 in
    let b = l.1 in
    let p = page-small va in
    record { space_in = omega arith; page_in = omega arith }

module _ (spec : HartSpec) (shape : Shape) (is : IsTable spec shape) where
  pub page-in : (space va : ℕ) → space < spec.spaces → IsPage shape space (page_of mode.Sv39 va)
  page-in space va small =
      let l = table-limits spec shape is in
      let a = l.0 in
      let b = l.1 in
      let p = page-small va in
      record { space_in = omega arith; page_in = omega arith }

  pub block-in : (space va : ℕ) (o : Order) → space < spec.spaces → is_aligned o va ≡ true → IsBlock shape space (page_of mode.Sv39 va) o
  block-in space va o small aligned =
      let l = table-limits spec shape is in
      let a = l.0 in
      let b = l.1 in
      let block = page-block mode.Sv39 o va aligned in
      let c : page_of mode.Sv39 va + pages_of o ≤ 2 ^ 27 = block.0 in
      record { space_in = omega arith; pages_in = omega arith; aligned = block.1 }

  pub leaf-in : (leaf : Leaf) → IsHartSpec spec → IsLeafOf (shared_row spec) leaf → IsLeafFor shape leaf
  leaf-in leaf spec_is v =
      let l = table-limits spec shape is in
      let a = l.0 in
      let b = l.1 in
      let s = v.space_in in
      let p = v.pages_in in
      let f = v.frames_in in
      let g = spec_is.few_frames in
      record {
        block = record { space_in = omega arith; pages_in = omega arith; aligned = v.pages_aligned };
        frames_in = omega arith;
        frames_aligned = v.frames_aligned;
      }

-- what holds of a leaf of some mapping
pub leaf-fit : (spec : HartSpec) (leaf : Leaf) → IsHartSpec spec → IsLeafOf (shared_row spec) leaf → IsFit leaf
leaf-fit spec leaf is v =
    let a = v.space_in in
    let b = is.few_spaces in
    let c = v.pages_in in
    let d = v.frames_in in
    let e = is.few_frames in
    let p = pages-some leaf.order in
    record { space_in = omega arith; page_in = omega arith; frame_in = omega arith; aligned = whole leaf.first leaf.order v.pages_aligned }
  where
    whole : (first : ℕ) (o : Order) → ((e : ℕ) × (first ≡ e * pages_of o)) → first % pages_of o ≡ 0
    whole first order.K4 m = let n : first ≡ m.0 * 1 = m.1 in omega arith
    whole first order.M2 m = let n : first ≡ m.0 * 512 = m.1 in omega arith
    whole first order.G1 m = let n : first ≡ m.0 * 262144 = m.1 in omega arith

-- refusals 1 to 7
module _ (s : HartsState) (space : ℕ) (o : Order) where
  pub map-place : (va : ℕ) (perm : Perm) (r : Refusal) → place_rule (shared_row s.spec) space o (va ∷ []) ≡ Some r → Some r ≡ hart_rule s (event.Map space va o perm)
  unfolding hart_rule
  map-place va perm r e = rw e refl

  pub map-overlap : (va : ℕ) (perm : Perm) (r : Refusal) → place_rule (shared_row s.spec) space o (va ∷ []) ≡ None → overlap_rule (shared_row s.spec) s.table.leaves space va o ≡ Some r
      → Some r ≡ hart_rule s (event.Map space va o perm)
  unfolding hart_rule
  map-overlap va perm r e f = rw (e, f) refl

  pub map-frames : (va : ℕ) (perm : Perm) → place_rule (shared_row s.spec) space o (va ∷ []) ≡ None → overlap_rule (shared_row s.spec) s.table.leaves space va o ≡ None
      → frames_rule (lowest s.spec.frames o (kept_leaves s)) ≡ hart_rule s (event.Map space va o perm)
  unfolding hart_rule
  map-frames va perm e f = rw (e, f) refl

  pub unmap-place : (va : ℕ) (r : Refusal) → place_rule (shared_row s.spec) space o (va ∷ []) ≡ Some r → hart_rule s (event.Unmap space va o) ≡ Some r
  unfolding hart_rule rule
  unmap-place va r e = rw e refl

  pub unmap-there : (va : ℕ) → place_rule (shared_row s.spec) space o (va ∷ []) ≡ None → hart_rule s (event.Unmap space va o) ≡ there_rule (shared_row s.spec) s.table.leaves space va o
  unfolding hart_rule rule
  unmap-there va e = rw e refl

  pub move-place : (from to : ℕ) (r : Refusal) → place_rule (shared_row s.spec) space o (from ∷ to ∷ []) ≡ Some r → hart_rule s (event.Move space from to o) ≡ Some r
  unfolding hart_rule rule
  move-place from to r e = rw e refl

  pub move-there : (from to : ℕ) (r : Refusal) → place_rule (shared_row s.spec) space o (from ∷ to ∷ []) ≡ None → there_rule (shared_row s.spec) s.table.leaves space from o ≡ Some r
      → hart_rule s (event.Move space from to o) ≡ Some r
  unfolding hart_rule rule
  move-there from to r e f = rw (e, f) refl

  pub move-overlap : (from to : ℕ) → place_rule (shared_row s.spec) space o (from ∷ to ∷ []) ≡ None → there_rule (shared_row s.spec) s.table.leaves space from o ≡ None
      → hart_rule s (event.Move space from to o) ≡ overlap_rule (shared_row s.spec) s.table.leaves space to o
  unfolding hart_rule rule
  move-overlap from to e f = rw (e, f) refl

-- a result that has this error is it
pub is-error : {A E : Type 0} (r : Result A E) (e : E) → IsErrAnd r (λ d. d ≡ e) → r ≡ Err e
is-error (Ok v) e h = absurd h
is-error (Err d) e h = ap Err h

-- room for a leaf is that for one in other frames and with another permission
pub same-room : (spec : HartSpec) (space va : ℕ) (o : Order) (a b : ℕ) (p q : Perm) (leaves : List Leaf) (shape : Shape) → IsTable spec shape
    → has_room (Insert (leaf_at space va o a p)) leaves shape ≡ has_room (Insert (leaf_at space va o b q)) leaves shape
unfolding has_room leaf_nodes_missing
same-room spec space va o a b p q leaves (Radix levels spaces nodes) is = refl
same-room spec space va o a b p q leaves (Chained group buckets entries tags) is = absurd is
same-room spec space va o a b p q leaves (Cuckoo rules ways) is = absurd is
same-room spec space va o a b p q leaves (Runs ranges) is = absurd is

-- an unmap and a protect bring no leaf to another place
pub room-removed : (spec : HartSpec) (space first : ℕ) (o : Order) (leaves : List Leaf) (shape : Shape) → IsTable spec shape → has_room (Remove space first o) leaves shape ≡ true
unfolding has_room
room-removed spec space first o leaves (Radix levels spaces nodes) is = refl
room-removed spec space first o leaves (Chained group buckets entries tags) is = absurd is
room-removed spec space first o leaves (Cuckoo rules ways) is = absurd is
room-removed spec space first o leaves (Runs ranges) is = absurd is

pub room-protected : (spec : HartSpec) (space first : ℕ) (o : Order) (perm : Perm) (leaves : List Leaf) (shape : Shape) → IsTable spec shape → has_room (Protect space first o perm) leaves shape ≡ true
unfolding has_room
room-protected spec space first o perm leaves (Radix levels spaces nodes) is = refl
room-protected spec space first o perm leaves (Chained group buckets entries tags) is = absurd is
room-protected spec space first o perm leaves (Cuckoo rules ways) is = absurd is
room-protected spec space first o perm leaves (Runs ranges) is = absurd is

-- the change of a map that no rule stops
pub map-at : (s : HartsState) (space va : ℕ) (o : Order) (perm : Perm) → hart_rule s (event.Map space va o perm) ≡ None → (at : ℕ) × (lowest s.spec.frames o (kept_leaves s) ≡ Some at)
unfolding hart_rule
map-at s space va o perm ruled = go (lowest s.spec.frames o (kept_leaves s)) refl (or-second _ _ (or-second _ _ ruled))
  where
    go : (m : Option ℕ) → lowest s.spec.frames o (kept_leaves s) ≡ m → frames_rule m ≡ None → (at : ℕ) × (lowest s.spec.frames o (kept_leaves s) ≡ Some at)
    go None e k = absurd (cc)
    go (Some at) e k = (at, e)

pub map-change : (s : HartsState) (space va : ℕ) (o : Order) (perm : Perm) (at : ℕ) → lowest s.spec.frames o (kept_leaves s) ≡ Some at
    → hart_change s (event.Map space va o perm) ≡ Some (Insert (leaf_at space va o at perm))
unfolding hart_change
map-change s space va o perm at e = rw e refl

pub unmap-change : (s : HartsState) (space va : ℕ) (o : Order) → hart_change s (event.Unmap space va o) ≡ Some (Remove space (page_of mode.Sv39 va) o)
unfolding hart_change change_of
unmap-change s space va o = refl

pub protect-change : (s : HartsState) (space va : ℕ) (o : Order) (perm : Perm) → hart_change s (event.Protect space va o perm) ≡ Some (Protect space (page_of mode.Sv39 va) o perm)
unfolding hart_change change_of
protect-change s space va o perm = refl

pub move-change : (s : HartsState) (space from to : ℕ) (o : Order) → hart_change s (event.Move space from to o) ≡ Some (Relocate space (page_of mode.Sv39 from) (page_of mode.Sv39 to) o)
unfolding hart_change change_of
move-change s space from to o = refl

-- the refusal of a command, by its rule and its change
module _ (s : HartsState) where
  pub by-rule : (e : Event) (r : Refusal) → hart_rule s e ≡ Some r → refusal_of e s ≡ Some (why.Mapping r)
  unfolding hart_refusal
  by-rule e r ruled = rw ruled refl

  pub by-change : (e : Event) (c : Change) → hart_rule s e ≡ None → hart_change s e ≡ Some c → refusal_of e s ≡ change_rule (Some c) s
  unfolding hart_refusal
  by-change e c ruled known = rw (ruled, known) refl

  pub by-room : (c : Change) (b : Bool) → has_room c s.table.leaves s.table.shape ≡ b → change_rule (Some c) s ≡ first_refusal (refused_unless b (why.Mapping refused.NoTable)) (refused_unless (not (list_any (is_full s.spec) s.harts)) why.QueueFull)
  by-room c b e = rw e refl

-- an answer of a place by a spec is that by the harts of the spec
pub place-of : (spec : HartSpec) (v : HartsState) (space : ℕ) (o : Order) (addresses : List ℕ) (p q : Option Refusal) → spec ≡ v.spec → p ≡ place_rule (shared_row spec) space o addresses → p ≡ q
    → place_rule (shared_row v.spec) space o addresses ≡ q
place-of spec v space o addresses p q e is known = let R : HartSpec → Type 0 = λ r. place_rule (shared_row r) space o addresses ≡ q in subst R e (rw (← is) known)

-- what a map has shown that no rule stops
pub record MapPlace (s : HartsState) (space va : ℕ) (o : Order) : Type 0 where
  pub space_in : space < s.spec.spaces
  pub aligned : is_aligned o va ≡ true
  pub free : overlap_rule (shared_row s.spec) s.table.leaves space va o ≡ None

pub map-placed : (s : HartsState) (space va : ℕ) (o : Order) (perm : Perm) → hart_rule s (event.Map space va o perm) ≡ None → MapPlace s space va o
unfolding hart_rule
map-placed s space va o perm ruled =
    let place : HasPlace (shared_row s.spec) space o (va ∷ []) = has-place (shared_row s.spec) space o (va ∷ []) (or-first _ _ ruled) in
    record { space_in = place.space_in; aligned = first_so _ _ place.all_aligned; free = or-first _ _ (or-second _ _ ruled) }

-- a leaf in the frames from 0 on
pub leaf-in-block : (shape : Shape) (space first : ℕ) (o : Order) (perm : Perm) → IsBlock shape space first o → IsLeafFor shape (record { space = space; first = first; order = o; frame = 0; perm = perm })
leaf-in-block shape space first o perm block = record { block = block; frames_in = small o; frames_aligned = (0, omega arith) }
  where
    small : (q : Order) → 0 + pages_of q ≤ 2 ^ 44
    small order.K4 = omega arith
    small order.M2 = omega arith
    small order.G1 = omega arith

-- a protect is refused as an unmap is
pub protect-as-unmap : (s : HartsState) (space va : ℕ) (o : Order) (perm : Perm) → IsTable s.spec s.table.shape → refusal_of (event.Protect space va o perm) s ≡ refusal_of (event.Unmap space va o) s
unfolding hart_refusal hart_rule rule hart_change change_of
protect-as-unmap s space va o perm is =
    rw (room-protected s.spec space (page_of mode.Sv39 va) o perm s.table.leaves s.table.shape is, room-removed s.spec space (page_of mode.Sv39 va) o s.table.leaves s.table.shape is) refl
