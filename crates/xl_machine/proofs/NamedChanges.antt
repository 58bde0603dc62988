-- A command that changes the leaf that it names: what is known of it, and the state after it by the
-- table's answer.
use Rattle.xl_machine.proofs.Common.{◌+◌, ◌∙◌, ◌≡◌, after_of, ap, arrays_after, Bool, Change, change_of, changed, Counts, counts_refused, done_counts, Err, Event, IsChange, IsFit, IsLeafOf, IsPoolOf, IsServed, Leaf, leaf_at_page, leaf_count, length, List, None, Ok, old_leaf, Order, outcome_of, page_of, Perm, Protect, Refusal, refusal_of, Refused, Relocate, Remove, Row, rule, served, Some, state_of, TableState, tlb_purged, TlbState, Work, ℕ}
use Rattle.xl_machine.proofs.Accesses.{leaf_fit}
use Rattle.xl_machine.proofs.ChangeLemmas.{done-answer, done-kept, done-state, refused-answer, refused-kept, refused-state}
use Rattle.xl_machine.proofs.CommandLemmas.{move-is, old-named, old-valid, protect-is, purged-is, there-move, there-protect, there-unmap, unmap-is}
use Rattle.xl_model.specs.declared.event.Event.TheVariants as event
use Rattle.xl_model.specs.declared.event.Outcome.TheVariants as outcome

-- What is known of such a command where no rule refuses it: its change, and the leaf as it is.
pub record IsNamedChange (row : Row) (table : TableState) (e : Event) (c : Change) (old : Leaf) : Type 0 where
  pub ruled : rule row table.leaves e ≡ None
  pub is : change_of row table.leaves e ≡ Some c
  pub named : old_leaf c table.leaves ≡ Some old
  pub valid : IsLeafOf row old
  pub fit : IsFit old

-- the commands, at a machine that keeps what it keeps
module _ {row : Row} {table : TableState} {current : ℕ} {tlb : TlbState} {pool : List Bool} (kept : IsServed row table current tlb pool) where
  pub unmap-known : (space va : ℕ) (o : Order) (old : Leaf) → rule row table.leaves (event.Unmap space va o) ≡ None → leaf_at_page space (page_of row.mode va) table.leaves ≡ Some old
      → IsNamedChange row table (event.Unmap space va o) (Remove space (page_of row.mode va) o) old
  unmap-known space va o old ruled found =
      let there = there-unmap row table.leaves space va o ruled in
      let v = old-valid row table space va o there kept.mapping old found in
      record { ruled = ruled; is = unmap-is row table.leaves space va o; named = old-named row table space va o there kept.mapping old found; valid = v; fit = leaf_fit row table old kept.fits v }

  pub protect-known : (space va : ℕ) (o : Order) (perm : Perm) (old : Leaf) → rule row table.leaves (event.Protect space va o perm) ≡ None → leaf_at_page space (page_of row.mode va) table.leaves ≡ Some old
      → IsNamedChange row table (event.Protect space va o perm) (Protect space (page_of row.mode va) o perm) old
  protect-known space va o perm old ruled found =
      let there = there-protect row table.leaves space va o perm ruled in
      let v = old-valid row table space va o there kept.mapping old found in
      record { ruled = ruled; is = protect-is row table.leaves space va o perm; named = old-named row table space va o there kept.mapping old found; valid = v; fit = leaf_fit row table old kept.fits v }

  pub move-known : (space from to : ℕ) (o : Order) (old : Leaf) → rule row table.leaves (event.Move space from to o) ≡ None → leaf_at_page space (page_of row.mode from) table.leaves ≡ Some old
      → IsNamedChange row table (event.Move space from to o) (Relocate space (page_of row.mode from) (page_of row.mode to) o) old
  move-known space from to o old ruled found =
      let there = there-move row table.leaves space from to o ruled in
      let v = old-valid row table space from o there kept.mapping old found in
      record { ruled = ruled; is = move-is row table.leaves space from to o; named = old-named row table space from o there kept.mapping old found; valid = v; fit = leaf_fit row table old kept.fits v }

module _ {row : Row} {table : TableState} {e : Event} {c : Change} {old : Leaf} (known : IsNamedChange row table e c old) where
  purged : (tlb next : TlbState) → next ≡ tlb_purged row.purge old tlb → next ≡ record tlb { arrays = arrays_after row.purge (old_leaf c table.leaves) tlb.arrays }
  purged tlb next n = purged-is row.purge c table.leaves old tlb next known.named n

  -- the machine keeps what it keeps, where the change is made and where it is refused
  module _ {current : ℕ} {tlb : TlbState} {pool : List Bool} (kept : IsServed row table current tlb pool) where
    pub made-kept : {work : Work} {new : TableState} {next : TlbState} (after : List Bool) → IsChange c table (Ok work) new → next ≡ tlb_purged row.purge old tlb
        → IsPoolOf row.frames (changed c table.leaves) after → IsServed row new current next after
    made-kept {work} {new} {next} after changes n tie =
        done-kept row e c table known.ruled known.is current tlb pool kept work new next after changes.answer changes.after (ap (λ (t : TlbState). t.arrays) (purged tlb next n)) tie

    pub unmade-kept : {r : Refused} {new : TableState} → IsChange c table (Err r) new → IsServed row new current tlb pool
    unmade-kept {r} {new} changes = refused-kept row e c table known.ruled known.is current tlb pool kept r new pool changes.answer changes.after kept.pool_is

  -- the outcome and the state
  module _ (current : ℕ) (tlb : TlbState) (counts : Counts) where
    pub made-answer : {work : Work} {new : TableState} → IsChange c table (Ok work) new → outcome.Done ≡ outcome_of row e (state_of (length row.tlb) table current tlb counts)
    made-answer {work} changes = done-answer row e c table known.ruled known.is current tlb counts work changes.answer

    pub made-state : {work : Work} {new : TableState} {next : TlbState} (left : ℕ) → IsChange c table (Ok work) new → next ≡ tlb_purged row.purge old tlb → left + leaf_count next.arrays ≡ leaf_count tlb.arrays
        → served row new current next (done_counts work left counts) ≡ after_of e (served row table current tlb counts)
    made-state {work} {new} {next} left changes n m =
        done-state row e c table known.ruled known.is current tlb counts work left new next changes.answer changes.after (purged tlb next n) m

    pub unmade-answer : {r : Refused} {new : TableState} {refusal : Refusal} → IsChange c table (Err r) new → refusal ≡ refusal_of r.why
        → outcome.Refused refusal ≡ outcome_of row e (state_of (length row.tlb) table current tlb counts)
    unmade-answer {r} changes why = ap (λ (x : Refusal). outcome.Refused x) why ∙ refused-answer row e c table known.ruled known.is current tlb counts r changes.answer

    pub unmade-state : {r : Refused} {new : TableState} → IsChange c table (Err r) new → served row new current tlb (counts_refused r.why r.work counts) ≡ after_of e (served row table current tlb counts)
    unmade-state {r} {new} changes = refused-state row e c table known.ruled known.is current tlb counts r new changes.answer changes.after
