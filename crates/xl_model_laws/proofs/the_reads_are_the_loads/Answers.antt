use Rattle.xl_model_laws.proofs.Common.{◌∙◌, ◌≡◌, accessed, after_event, after_rule, Answer, answer_of, ap, Bool, Change, change_of, changed_by, changed_where, count_accepted, count_fence, count_fills, count_invalidated, count_look, count_refusal, count_reply, count_walk, count_work, Counts, counts_refused, Err, Event, false, fenced, is_canonical, Kind, Leaf, leaf_at_page, loads-by, looked, looked_by, looked_where, no_counts, None, NoRoom, Ok, opening, Option, page_of, plus, refl, Refusal, Refused, Reply, reply_to, Result, Row, RowState, rule, served, Some, sym, table_after, table_answer, table_fenced, table_walked, TheReadsAreTheLoads, true, verdict, walk_filled, walk_made, walked, Work, ℕ}
use Rattle.xl_model_laws.proofs.RunLemmas.{Keeps, run-keeps}
use Rattle.xl_model.specs.declared.event.Event.TheVariants as event
use Rattle.xl_model.specs.declared.leaf.Reply.TheVariants as reply
use Rattle.xl_model.specs.declared.work.NoRoom.TheVariants as why
use Rattle.xl_model_laws.proofs.the_reads_are_the_loads.Goals as goal

-- The reads that a row counts are the loads of its table.
AreLoads : RowState → Type 0
AreLoads s = s.counts.reads ≡ s.table.loads

filled-reads : (k : Kind) (found : Option Leaf) (s : RowState) → AreLoads s → AreLoads (walk_filled k found s)
unfolding AreLoads count_fills
filled-reads k None s h = h
filled-reads k (Some leaf) s h = h

looked-reads : (k : Kind) (answer : Option Answer) (page : ℕ) (s : RowState) → AreLoads s → AreLoads (looked_by k answer page s)
unfolding AreLoads table_walked count_walk count_look count_fills
looked-reads k (Some answer) page s h = h
looked-reads k None page s h =
    filled-reads k (leaf_at_page s.space page s.table.leaves)
    (walk_made s.space page (record s { counts = count_look k None s.space page s.arrays s.counts }))
    (ap (λ (n : ℕ). plus n (walked s.table.shape s.table.caches s.table.leaves s.space page).reads) h)

reply-reads : (r : Reply) (va : ℕ) (c : Counts) → (count_reply r va c).reads ≡ c.reads
unfolding count_reply
reply-reads (reply.Frame frame) va c = refl
reply-reads reply.NotCanonical va c = refl
reply-reads reply.Unmapped va c = refl
reply-reads reply.Denied va c = refl

accessed-reads : (row : Row) (va : ℕ) (k : Kind) (s : RowState) → AreLoads s → AreLoads (accessed row va k s)
unfolding AreLoads accessed looked
accessed-reads row va k s h = go (is_canonical row.mode va)
  where
    go : (b : Bool) → (count_reply (reply_to row s va k) va (looked_where b k (page_of row.mode va) s).counts).reads
        ≡ (looked_where b k (page_of row.mode va) s).table.loads
    go true =
        reply-reads (reply_to row s va k) va (looked_where true k (page_of row.mode va) s).counts
        ∙ looked-reads k (answer_of k s.arrays s.space (page_of row.mode va)) (page_of row.mode va) s h
    go false = reply-reads (reply_to row s va k) va s.counts ∙ h

refused-reads : (r : NoRoom) (w : Work) (c : Counts) → (counts_refused r w c).reads ≡ c.reads
unfolding count_refusal count_work
refused-reads why.NoTable w c = refl
refused-reads why.WayAtCap w c = refl

made-reads : (answer : Result Work Refused) (row : Row) (c : Change) (s : RowState) → AreLoads s → AreLoads (changed_by answer row c s)
unfolding AreLoads table_after count_accepted count_invalidated count_work
made-reads (Ok work) row c s h = h ∙ sym (loads-by (verdict c s.table) c s.table)
made-reads (Err r) row c s h = refused-reads r.why r.work s.counts ∙ (h ∙ sym (loads-by (verdict c s.table) c s.table))

changed-reads : (row : Row) (c : Option Change) (s : RowState) → AreLoads s → AreLoads (changed_where c row s)
changed-reads row None s h = h
changed-reads row (Some c) s h = made-reads (table_answer c s.table) row c s h

served-reads : (row : Row) (e : Event) (s : RowState) → AreLoads s → AreLoads (served row e s)
unfolding AreLoads served fenced table_fenced count_fence count_accepted count_invalidated
served-reads row (event.Access va k) s h = accessed-reads row va k s h
served-reads row (event.Map space va o perm) s h = changed-reads row (change_of row s.table.leaves (event.Map space va o perm)) s h
served-reads row (event.Unmap space va o) s h = changed-reads row (change_of row s.table.leaves (event.Unmap space va o)) s h
served-reads row (event.Protect space va o perm) s h = changed-reads row (change_of row s.table.leaves (event.Protect space va o perm)) s h
served-reads row (event.Move space from to o) s h = changed-reads row (change_of row s.table.leaves (event.Move space from to o)) s h
served-reads row (event.Space space) s h = h
served-reads row (event.Fence to) s h = h

ruled-reads : (row : Row) (e : Event) (s : RowState) (q : Option Refusal) → AreLoads s → AreLoads (after_rule q row e s)
unfolding AreLoads count_refusal
ruled-reads row e s (Some r) h = h
ruled-reads row e s None h = served-reads row e s h

reads-kept : (row : Row) → Keeps row AreLoads
unfolding after_event
reads-kept row e s h = ruled-reads row e s (rule row s.table.leaves e) h

the_reads_are_the_loads : TheReadsAreTheLoads
unfolding AreLoads opening no_counts
the_reads_are_the_loads row items = run-keeps row AreLoads (reads-kept row) refl items

pub returns : goal.returns
returns c = the_reads_are_the_loads
