-- The refusals of a machine, by its questions in turn.
use Rattle.xl_machine.proofs.Common.{◌*◌, ◌+◌, ◌-◌, ◌<◌, ◌^◌, ◌∷◌, ◌≡◌, ◌≤◌, [], ap, arith, Err, frames_rule, is_aligned, IsBlock, IsErrAnd, IsRowFor, levels_of, List, lowest, None, Ok, Option, Order, overlap_rule, page-block, page_of, pages_of, Perm, place_rule, refl, Refusal, Result, Row, rule, rule_of, Served, Some, subst, TableState, there_of, true, ℕ}
use Rattle.xl_model.specs.declared.event.Event.TheVariants as event

-- a block that the table can be asked for
pub block-in : (row : Row) (table : TableState) (space va : ℕ) (o : Order) → IsRowFor row table → space < row.spaces → is_aligned o va ≡ true
    → IsBlock table.shape space (page_of row.mode va) o
block-in row table space va o fits small aligned =
    let a = fits.spaces_in in
    let b = fits.pages_in in
    let block = page-block row.mode o va aligned in
    let c : page_of row.mode va + pages_of o ≤ 2 ^ (9 * levels_of row.mode) = block.0 in
    record { space_in = omega arith; pages_in = omega arith; aligned = block.1 }

-- a result that has this error is it
pub is-error : {A E : Type 0} (r : Result A E) (e : E) → IsErrAnd r (λ d. d ≡ e) → r ≡ Err e
is-error (Ok v) e h = absurd h
is-error (Err d) e h = ap Err h

-- an answer of a place by a row is that by the machine of the row
pub place-of : (row : Row) (v : Served) (space : ℕ) (o : Order) (addresses : List ℕ) (p q : Option Refusal) → row ≡ v.row → p ≡ place_rule row space o addresses → p ≡ q
    → place_rule v.row space o addresses ≡ q
place-of row v space o addresses p q e is replied = let R : Row → Type 0 = λ r. place_rule r space o addresses ≡ q in subst R e (rw (← is) replied)

module _ (v : Served) (space : ℕ) (o : Order) where
  -- a map
  pub map-place : (va : ℕ) (perm : Perm) (r : Refusal) → place_rule v.row space o (va ∷ []) ≡ Some r → Some r ≡ rule_of (event.Map space va o perm) v
  unfolding rule
  map-place va perm r e = rw e refl

  pub map-overlap : (va : ℕ) (perm : Perm) (r : Refusal) → place_rule v.row space o (va ∷ []) ≡ None → overlap_rule v.row v.state.table.leaves space va o ≡ Some r
      → Some r ≡ rule_of (event.Map space va o perm) v
  unfolding rule
  map-overlap va perm r e f = rw (e, f) refl

  pub map-frames : (va : ℕ) (perm : Perm) → place_rule v.row space o (va ∷ []) ≡ None → overlap_rule v.row v.state.table.leaves space va o ≡ None
      → frames_rule (lowest v.row.frames o v.state.table.leaves) ≡ rule_of (event.Map space va o perm) v
  unfolding rule
  map-frames va perm e f = rw (e, f) refl

  -- an unmap
  pub unmap-place : (va : ℕ) (r : Refusal) → place_rule v.row space o (va ∷ []) ≡ Some r → rule_of (event.Unmap space va o) v ≡ Some r
  unfolding rule
  unmap-place va r e = rw e refl

  pub unmap-there : (va : ℕ) → place_rule v.row space o (va ∷ []) ≡ None → rule_of (event.Unmap space va o) v ≡ there_of space va o v
  unfolding rule
  unmap-there va e = rw e refl

  -- a move
  pub move-place : (from to : ℕ) (r : Refusal) → place_rule v.row space o (from ∷ to ∷ []) ≡ Some r → rule_of (event.Move space from to o) v ≡ Some r
  unfolding rule
  move-place from to r e = rw e refl

  pub move-there : (from to : ℕ) (r : Refusal) → place_rule v.row space o (from ∷ to ∷ []) ≡ None → there_of space from o v ≡ Some r → rule_of (event.Move space from to o) v ≡ Some r
  unfolding rule
  move-there from to r e f = rw (e, f) refl

  pub move-overlap : (from to : ℕ) → place_rule v.row space o (from ∷ to ∷ []) ≡ None → there_of space from o v ≡ None
      → rule_of (event.Move space from to o) v ≡ overlap_rule v.row v.state.table.leaves space to o
  unfolding rule
  move-overlap from to e f = rw (e, f) refl
