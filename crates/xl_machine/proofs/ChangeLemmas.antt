-- A change of a mapping that no rule refuses: what a machine keeps and its state after, by the
-- table's answer.
use Rattle.xl_machine.proofs.Common.{◌+◌, ◌-◌, ◌∙◌, ◌≡◌, after_by, after_event, after_of, answer_by, ap, arith, arrays_after, ArraysFresh, Bool, Change, change_of, changed, changed-fresh, changed_by, count_accepted, count_invalidated, count_refusal, count_work, Counts, counts_of, counts_refused, done, done_counts, Err, Event, IsPoolOf, IsRowFor, IsServed, IsSound, kept-sound, Kind, Leaf, leaf_count, length, List, Made, None, NoPlace, NoSpace, Ok, old_leaf, outcome_by, outcome_of, refl, refusal_of, Refused, Row, RowState, rule, Scope, Served, served, Some, sound-of, state_of, sym, table_after, table_answer, table_made, TableState, TlbArray, TlbState, Verdict, verdict, Work, ℕ}
use Rattle.xl_model.specs.declared.work.NoRoom.{NoRoom}
use Rattle.xl_model_lemmas.proofs.LimitLemmas.{limits-changed, loads-changed}
use Rattle.xl_model.specs.declared.event.Event.TheVariants as event
use Rattle.xl_model.specs.declared.event.Outcome.TheVariants as outcome
use Rattle.xl_model.specs.declared.work.NoRoom.TheVariants as why

-- an event that is no change
no-access : (row : Row) (leaves : List Leaf) (va : ℕ) (k : Kind) (c : Change) → change_of row leaves (event.Access va k) ≡ Some c → ⊥
unfolding change_of
no-access row leaves va k c e = cc

no-switch : (row : Row) (leaves : List Leaf) (space : ℕ) (c : Change) → change_of row leaves (event.Space space) ≡ Some c → ⊥
unfolding change_of
no-switch row leaves space c e = cc

no-fence : (row : Row) (leaves : List Leaf) (to : Scope) (c : Change) → change_of row leaves (event.Fence to) ≡ Some c → ⊥
unfolding change_of
no-fence row leaves to c e = cc

-- the state and the outcome of an event that is a change
event-is : (row : Row) (e : Event) (c : Change) (s : RowState) → rule row s.table.leaves e ≡ None → change_of row s.table.leaves e ≡ Some c
    → after_event row e s ≡ changed_by (table_answer c s.table) row c s
unfolding after_event done
event-is row (event.Access va k) c s r i = absurd (no-access row s.table.leaves va k c i)
event-is row (event.Map space va o perm) c s r i = rw (r, i) refl
event-is row (event.Unmap space va o) c s r i = rw (r, i) refl
event-is row (event.Protect space va o perm) c s r i = rw (r, i) refl
event-is row (event.Move space from to o) c s r i = rw (r, i) refl
event-is row (event.Space space) c s r i = absurd (no-switch row s.table.leaves space c i)
event-is row (event.Fence to) c s r i = absurd (no-fence row s.table.leaves to c i)

outcome-is : (row : Row) (e : Event) (c : Change) (s : RowState) → rule row s.table.leaves e ≡ None → change_of row s.table.leaves e ≡ Some c
    → outcome_of row e s ≡ outcome_by (table_answer c s.table)
unfolding outcome_of
outcome-is row (event.Access va k) c s r i = absurd (no-access row s.table.leaves va k c i)
outcome-is row (event.Map space va o perm) c s r i = rw (r, i) refl
outcome-is row (event.Unmap space va o) c s r i = rw (r, i) refl
outcome-is row (event.Protect space va o perm) c s r i = rw (r, i) refl
outcome-is row (event.Move space from to o) c s r i = rw (r, i) refl
outcome-is row (event.Space space) c s r i = absurd (no-switch row s.table.leaves space c i)
outcome-is row (event.Fence to) c s r i = absurd (no-fence row s.table.leaves to c i)

-- a table takes a row's spaces and pages after every change
row-fits : (row : Row) (c : Change) (t : TableState) → IsRowFor row t → IsRowFor row (table_after c t)
row-fits row c t fits =
    let l = limits-changed c t in
    let s = l.spaces in
    let p = l.pages in
    let a = fits.spaces_in in
    let b = fits.pages_in in
    record { spaces_in = omega arith; few_spaces = fits.few_spaces; pages_in = omega arith; few_frames = fits.few_frames }

-- what a change leaves, by its answer
made_leaves : (c : Change) (t : TableState) (work : Work) → table_answer c t ≡ Ok work → (table_after c t).leaves ≡ changed c t.leaves
unfolding table_answer table_after table_made
made_leaves c t work e = go (verdict c t) e
  where
    go : (v : Verdict) → answer_by v c t ≡ Ok work → (after_by v c t).leaves ≡ changed c t.leaves
    go NoSpace f = cc
    go NoPlace f = cc
    go Made f = refl

refused_leaves : (c : Change) (t : TableState) (r : Refused) → table_answer c t ≡ Err r → (table_after c t).leaves ≡ t.leaves
unfolding table_answer table_after
refused_leaves c t r e = go (verdict c t) e
  where
    go : (v : Verdict) → answer_by v c t ≡ Err r → (after_by v c t).leaves ≡ t.leaves
    go NoSpace f = refl
    go NoPlace f = refl
    go Made f = cc

-- An event that no rule refuses, and the change that it is.
module _ (row : Row) (e : Event) (c : Change) (table : TableState) (ruled : rule row table.leaves e ≡ None) (is : change_of row table.leaves e ≡ Some c) where
  sound : IsSound row table.leaves c
  sound = sound-of row table.leaves e c ruled is

  module _ (current : ℕ) (tlb : TlbState) (pool : List Bool) (kept : IsServed row table current tlb pool) where
    pub done-kept : (work : Work) (new : TableState) (next : TlbState) (after : List Bool) → Ok work ≡ table_answer c table → new ≡ table_after c table
        → next.arrays ≡ arrays_after row.purge (old_leaf c table.leaves) tlb.arrays → IsPoolOf row.frames (changed c table.leaves) after
        → IsServed row new current next after
    done-kept work new next after a n p tie =
        let l : (table_after c table).leaves ≡ changed c table.leaves = made_leaves c table work (sym a) in
        let fresh : ArraysFresh (arrays_after row.purge (old_leaf c table.leaves) tlb.arrays) (changed c table.leaves) = changed-fresh row c tlb.arrays table.leaves kept.mapping sound kept.fresh in
        rw n (record {
          fits = row-fits row c table kept.fits;
          mapping = rw l (kept-sound row table.leaves c kept.mapping sound);
          fresh = rw (l, p) fresh;
          pool_is = rw l tie;
          space_in = kept.space_in;
        })

    pub refused-kept : (r : Refused) (new : TableState) (after : List Bool) → Err r ≡ table_answer c table → new ≡ table_after c table
        → IsPoolOf row.frames table.leaves after → IsServed row new current tlb after
    refused-kept r new after a n tie =
        let l : (table_after c table).leaves ≡ table.leaves = refused_leaves c table r (sym a) in
        rw n (record {
          fits = row-fits row c table kept.fits;
          mapping = rw l kept.mapping;
          fresh = rw l kept.fresh;
          pool_is = rw l tie;
          space_in = kept.space_in;
        })

  module _ (current : ℕ) (tlb : TlbState) (counts : Counts) where
    abbrev purged : List TlbArray
    purged = arrays_after row.purge (old_leaf c table.leaves) tlb.arrays

    done-by : (work : Work) (left : ℕ) → left + leaf_count purged ≡ leaf_count tlb.arrays
        → changed_by (Ok work) row c (state_of (length row.tlb) table current tlb counts) ≡ state_of (length row.tlb) (table_after c table) current (record tlb { arrays = purged }) (done_counts work left counts)
    unfolding count_accepted count_invalidated count_work
    done-by work left e =
        let n : leaf_count tlb.arrays - leaf_count purged ≡ left = omega (arith, e) in
        let loads : (table_after c table).loads ≡ table.loads = loads-changed c table in
        rw (n, loads) refl

    pub done-state : (work : Work) (left : ℕ) (new : TableState) (next : TlbState) → Ok work ≡ table_answer c table → new ≡ table_after c table → next ≡ record tlb { arrays = purged }
        → left + leaf_count next.arrays ≡ leaf_count tlb.arrays
        → served row new current next (done_counts work left counts) ≡ after_of e (served row table current tlb counts)
    done-state work left new next a n p m =
        let k : left + leaf_count purged ≡ leaf_count tlb.arrays = rw p at m in
        rw (n, p) (ap (λ (s : RowState). let v : Served = record { row = row; state = s } in v) (sym (event-is row e c (state_of (length row.tlb) table current tlb counts) ruled is ∙ rw (← a) (done-by work left k))))

    pub done-answer : (work : Work) → Ok work ≡ table_answer c table → outcome.Done ≡ outcome_of row e (state_of (length row.tlb) table current tlb counts)
    done-answer work a = sym (outcome-is row e c (state_of (length row.tlb) table current tlb counts) ruled is ∙ rw (← a) refl)

    pub refused-answer : (r : Refused) → Err r ≡ table_answer c table → outcome.Refused (refusal_of r.why) ≡ outcome_of row e (state_of (length row.tlb) table current tlb counts)
    refused-answer r a = sym (outcome-is row e c (state_of (length row.tlb) table current tlb counts) ruled is ∙ rw (← a) refl)

    refusal-passes : (w : NoRoom) (work : Work) (t : TableState) → t.loads ≡ table.loads → counts_refused w work (counts_of (length row.tlb) table tlb counts) ≡ counts_of (length row.tlb) t tlb (counts_refused w work counts)
    unfolding count_refusal count_work
    refusal-passes why.NoTable work t l = rw l refl
    refusal-passes why.WayAtCap work t l = rw l refl

    pub refused-state : (r : Refused) (new : TableState) → Err r ≡ table_answer c table → new ≡ table_after c table
        → served row new current tlb (counts_refused r.why r.work counts) ≡ after_of e (served row table current tlb counts)
    refused-state r new a n =
        let q = refusal-passes r.why r.work (table_after c table) (loads-changed c table) in
        let same : changed_by (Err r) row c (state_of (length row.tlb) table current tlb counts) ≡ state_of (length row.tlb) (table_after c table) current tlb (counts_refused r.why r.work counts) =
        ap (λ (k : Counts). let s : RowState = record { table = table_after c table; space = current; arrays = tlb.arrays; counts = k } in s) q in
        rw n (ap (λ (s : RowState). let v : Served = record { row = row; state = s } in v) (sym (event-is row e c (state_of (length row.tlb) table current tlb counts) ruled is ∙ rw (← a) same)))
