-- A fence of a machine, and a change of its space.
use Rattle.xl_machine.proofs.Common.{◌+◌, ◌-◌, ◌<◌, ◌∙◌, ◌≡◌, after_event, after_of, ap, arith, arrays_without, Bool, count_accepted, count_fence, count_invalidated, Counts, done, fence_answer, fence_counts, fence_rule, fenced, InLimits, IsRowFor, IsServed, leaf_count, length, List, nat_lt, nat_tests, None, or-first, page_of, reach_of, reaches_leaf, refl, Row, RowState, rule, rule_of, Scope, Served, served, state_of, subst, sym, table_fenced, TableState, tlb_fenced, TlbState, true, unless-true, without-fresh, ℕ}
use Rattle.xl_model.specs.declared.event.Reach.{Reach}
use Rattle.xl_machine.proofs.Accesses.{page_small}
use Rattle.xl_model.specs.declared.event.Event.TheVariants as event
use Rattle.xl_model.specs.declared.event.Scope.TheVariants as scope

-- a space that no rule refuses
space-in : (space : ℕ) (v : Served) → rule_of (event.Space space) v ≡ None → space < v.row.spaces
unfolding rule
space-in space v h = let a : nat_lt space v.row.spaces ≡ true = unless-true _ _ h in grind (arith, nat_tests)

pub switched-kept : (row : Row) (table : TableState) (space next : ℕ) (tlb : TlbState) (pool : List Bool) (counts : Counts) → IsServed row table space tlb pool
    → rule_of (event.Space next) (served row table space tlb counts) ≡ None → IsServed row table next tlb pool
switched-kept row table space next tlb pool counts kept ruled = record {
  fits = kept.fits;
  mapping = kept.mapping;
  fresh = kept.fresh;
  pool_is = kept.pool_is;
  space_in = space-in next (served row table space tlb counts) ruled;
}

pub switched-is : (row : Row) (table : TableState) (space next : ℕ) (tlb : TlbState) (counts : Counts) → rule_of (event.Space next) (served row table space tlb counts) ≡ None
    → served row table next tlb (count_accepted counts) ≡ after_of (event.Space next) (served row table space tlb counts)
unfolding after_event done count_accepted
switched-is row table space next tlb counts ruled = rw ruled refl

-- what a fence that no rule refuses reaches
fence-ruled : (row : Row) (s : Scope) (v : Served) → row ≡ v.row → rule_of (event.Fence s) v ≡ None → fence_rule row s ≡ None
unfolding rule
fence-ruled row s v e ruled = let P : Row → Type 0 = λ r. fence_rule r s ≡ None in subst P (sym e) ruled

pub reach-in : (row : Row) (table : TableState) (s : Scope) (v : Served) → row ≡ v.row → IsRowFor row table → rule_of (event.Fence s) v ≡ None → InLimits (reach_of row s)
reach-in row table s v e fits ruled = go s (fence-ruled row s v e ruled)
  where
    go : (s : Scope) → fence_rule row s ≡ None → InLimits (reach_of row s)
    go scope.All h = tt
    go (scope.Space space) h = tt
    go (scope.Addr va) h = (page_small row.mode va (page_of row.mode va) refl).0
    go (scope.Page space va) h =
        let a : nat_lt space row.spaces ≡ true = unless-true _ _ (or-first _ _ h) in
        let few = fits.few_spaces in
        (grind (arith, nat_tests), (page_small row.mode va (page_of row.mode va) refl).0)

kept-by : (row : Row) (table : TableState) (space : ℕ) (tlb : TlbState) (pool : List Bool) (to : Reach) → IsServed row table space tlb pool
    → IsServed row (table_fenced to table) space (tlb_fenced to tlb) pool
unfolding table_fenced tlb_fenced
kept-by row table space tlb pool to kept = record {
  fits = record { spaces_in = kept.fits.spaces_in; few_spaces = kept.fits.few_spaces; pages_in = kept.fits.pages_in; few_frames = kept.fits.few_frames };
  mapping = kept.mapping;
  fresh = without-fresh (reaches_leaf to) tlb.arrays table.leaves kept.fresh;
  pool_is = kept.pool_is;
  space_in = kept.space_in;
}

pub fenced-kept : (row : Row) (table new : TableState) (space : ℕ) (tlb next : TlbState) (pool : List Bool) (to : Reach) → IsServed row table space tlb pool
    → new ≡ table_fenced to table → next ≡ tlb_fenced to tlb → IsServed row new space next pool
fenced-kept row table new space tlb next pool to kept n t = rw (n, t) (kept-by row table space tlb pool to kept)

state-by : {n : ℕ} (table : TableState) (space : ℕ) (tlb : TlbState) (counts : Counts) (to : Reach) (left : ℕ) → left + leaf_count (tlb_fenced to tlb).arrays ≡ leaf_count tlb.arrays
    → fenced to (state_of n table space tlb counts) ≡ state_of n (table_fenced to table) space (tlb_fenced to tlb) (fence_counts (fence_answer to table) left counts)
unfolding fenced table_fenced tlb_fenced count_accepted count_fence count_invalidated
state-by table space tlb counts to left e =
    let n : leaf_count tlb.arrays - leaf_count (arrays_without (reaches_leaf to) tlb.arrays) ≡ left = omega (arith, e) in
    rw n refl

event-is : (row : Row) (s : Scope) (state : RowState) → rule row state.table.leaves (event.Fence s) ≡ None → after_event row (event.Fence s) state ≡ fenced (reach_of row s) state
unfolding after_event done
event-is row s state ruled = rw ruled refl

pub fenced-is : (row : Row) (table new : TableState) (space : ℕ) (tlb next : TlbState) (counts : Counts) (s : Scope) (entries left : ℕ)
    → rule_of (event.Fence s) (served row table space tlb counts) ≡ None → entries ≡ fence_answer (reach_of row s) table → new ≡ table_fenced (reach_of row s) table
    → next ≡ tlb_fenced (reach_of row s) tlb → left + leaf_count next.arrays ≡ leaf_count tlb.arrays
    → served row new space next (fence_counts entries left counts) ≡ after_of (event.Fence s) (served row table space tlb counts)
fenced-is row table new space tlb next counts s entries left ruled e n t l =
    let k : left + leaf_count (tlb_fenced (reach_of row s) tlb).arrays ≡ leaf_count tlb.arrays = rw t at l in
    rw (e, n, t) (ap (λ (x : RowState). let v : Served = record { row = row; state = x } in v)
    (sym (event-is row s (state_of (length row.tlb) table space tlb counts) ruled ∙ state-by table space tlb counts (reach_of row s) left k)))
