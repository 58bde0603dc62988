use Rattle.xl_model_laws.proofs.Common.{◌∙◌, ◌∷◌, ◌≡◌, ◌≤◌, [], accessed, after_event, after_rule, Answer, answer_of, ap, arith, array_without, arrays_after, arrays_filled, arrays_hit, arrays_without, asked, Bool, Change, change_of, changed_by, changed_where, count_accepted, count_fence, count_fills, count_invalidated, count_look, count_refusal, count_reply, count_walk, count_work, counted, Counts, counts_refused, Err, Event, false, fenced, filled_below, filled_for, hits_at, is_canonical, is_purged, IsZeroBeyond, Kind, Leaf, leaf_at_page, length, List, looked, looked_by, looked_where, map, misses_at, no_counts, None, NoRoom, NothingIsCountedBeyondTheArrays, Ok, old_leaf, opening, opening_array, opening_arrays, Option, page_of, reach_of, reaches_leaf, refl, Refusal, Refused, Reply, reply_to, Result, Row, RowState, rule, served, slice_index_or, Some, subst, suc, sym, table_answer, TlbArray, touched_or, true, walk_filled, walk_made, Work, zero, ℕ}
use Rattle.xl_model.specs.declared.row.Purge.{Purge}
use Rattle.xl_model_laws.proofs.RunLemmas.{Keeps, run-keeps}
use Rattle.xl_model.specs.declared.event.Event.TheVariants as event
use Rattle.xl_model.specs.declared.leaf.Reply.TheVariants as reply
use Rattle.xl_model.specs.declared.work.NoRoom.TheVariants as why
use Rattle.xl_model_laws.proofs.nothing_is_counted_beyond_the_arrays.Goals as goal

-- lists of arrays keep their length
mapped-length : {A B : Type 0} → (f : A → B) (xs : List A) → length (map f xs) ≡ length xs
mapped-length f [] = refl
mapped-length f (x ∷ xs) = ap suc (mapped-length f xs)

hit-length : (k : Kind) (answer : Answer) (space page : ℕ) (arrays : List TlbArray) → length (arrays_hit k answer space page arrays) ≡ length arrays
unfolding arrays_hit
hit-length k answer space page [] = refl
hit-length k answer space page (a ∷ arrays) = go (asked k a space page) (hit-length k answer space page arrays)
  where
    go : (o : Option Leaf) → length (arrays_hit k answer space page arrays) ≡ length arrays → length (touched_or o space page a arrays (filled_below k answer.level answer.leaf a ∷ arrays_hit k answer space page arrays)) ≡ suc (length arrays)
    go (Some leaf) same = refl
    go None same = ap suc same

purged-length : (purge : Purge) (old : Option Leaf) (arrays : List TlbArray) → length (arrays_after purge old arrays) ≡ length arrays
unfolding arrays_without
purged-length purge None arrays = refl
purged-length purge (Some old) arrays = mapped-length (array_without (is_purged purge old)) arrays

-- counts beyond the arrays stay
counted-beyond : (p : TlbArray → Bool) (arrays : List TlbArray) (ns : List ℕ) (i : ℕ) → length arrays ≤ i
    → slice_index_or (counted p arrays ns) i 0 ≡ slice_index_or ns i 0
counted-beyond p [] ns i h = refl
counted-beyond p (a ∷ arrays) [] i h = refl
counted-beyond p (a ∷ arrays) (n ∷ ns) zero h = absurd (omega arith)
counted-beyond p (a ∷ arrays) (n ∷ ns) (suc i) h = counted-beyond p arrays ns i (omega arith)

counted-zero : (p : TlbArray → Bool) (arrays : List TlbArray) (ns : List ℕ) (n : ℕ) → length arrays ≡ n → IsZeroBeyond n ns → IsZeroBeyond n (counted p arrays ns)
counted-zero p arrays ns n few zero_is i h = counted-beyond p arrays ns i (omega arith) ∙ zero_is i h

record AreWithin (n : ℕ) (s : RowState) : Type 0 where
  few : length s.arrays ≡ n
  hits : IsZeroBeyond n s.counts.hits
  misses : IsZeroBeyond n s.counts.misses

filled-within : (n : ℕ) (k : Kind) (found : Option Leaf) (s : RowState) → AreWithin n s → AreWithin n (walk_filled k found s)
unfolding count_fills arrays_filled
filled-within n k None s w = w
filled-within n k (Some leaf) s w = record { few = mapped-length (filled_for k leaf) s.arrays ∙ w.few; hits = w.hits; misses = w.misses }

looked-within : (n : ℕ) (k : Kind) (answer : Option Answer) (page : ℕ) (s : RowState) → AreWithin n s → AreWithin n (looked_by k answer page s)
unfolding count_walk count_look count_fills
looked-within n k (Some answer) page s w = record {
  few = hit-length k answer s.space page s.arrays ∙ w.few;
  hits = counted-zero (hits_at k (Some answer) s.space page) s.arrays s.counts.hits n w.few w.hits;
  misses = counted-zero (misses_at k (Some answer) s.space page) s.arrays s.counts.misses n w.few w.misses;
}
looked-within n k None page s w =
    filled-within n k (leaf_at_page s.space page s.table.leaves)
    (walk_made s.space page (record s { counts = count_look k None s.space page s.arrays s.counts }))
    (record {
      few = w.few;
      hits = counted-zero (hits_at k None s.space page) s.arrays s.counts.hits n w.few w.hits;
      misses = counted-zero (misses_at k None s.space page) s.arrays s.counts.misses n w.few w.misses;
    })

replied-within : (n : ℕ) (r : Reply) (va : ℕ) (s : RowState) → AreWithin n s → AreWithin n (record s { counts = count_reply r va s.counts })
unfolding count_reply
replied-within n (reply.Frame frame) va s w = record { few = w.few; hits = w.hits; misses = w.misses }
replied-within n reply.NotCanonical va s w = record { few = w.few; hits = w.hits; misses = w.misses }
replied-within n reply.Unmapped va s w = record { few = w.few; hits = w.hits; misses = w.misses }
replied-within n reply.Denied va s w = record { few = w.few; hits = w.hits; misses = w.misses }

accessed-within : (n : ℕ) (row : Row) (va : ℕ) (k : Kind) (s : RowState) → AreWithin n s → AreWithin n (accessed row va k s)
unfolding accessed looked
accessed-within n row va k s w =
    replied-within n (reply_to row s va k) va (looked_where (is_canonical row.mode va) k (page_of row.mode va) s) (go (is_canonical row.mode va))
  where
    go : (b : Bool) → AreWithin n (looked_where b k (page_of row.mode va) s)
    go true = looked-within n k (answer_of k s.arrays s.space (page_of row.mode va)) (page_of row.mode va) s w
    go false = w

refused-within : (n : ℕ) (r : NoRoom) (work : Work) (s : RowState) (c : Counts) → AreWithin n s → c ≡ counts_refused r work s.counts
    → IsZeroBeyond n c.hits × IsZeroBeyond n c.misses
unfolding count_refusal count_work
refused-within n why.NoTable work s c w e = let P : Counts → Type 0 = λ d. IsZeroBeyond n d.hits × IsZeroBeyond n d.misses in subst P (sym e) (w.hits, w.misses)
refused-within n why.WayAtCap work s c w e = let P : Counts → Type 0 = λ d. IsZeroBeyond n d.hits × IsZeroBeyond n d.misses in subst P (sym e) (w.hits, w.misses)

made-within : (n : ℕ) (answer : Result Work Refused) (row : Row) (c : Change) (s : RowState) → AreWithin n s → AreWithin n (changed_by answer row c s)
unfolding count_accepted count_invalidated count_work
made-within n (Ok work) row c s w = record {
  few = purged-length row.purge (old_leaf c s.table.leaves) s.arrays ∙ w.few;
  hits = w.hits;
  misses = w.misses;
}
made-within n (Err r) row c s w =
    let both = refused-within n r.why r.work s (counts_refused r.why r.work s.counts) w refl in
    record { few = w.few; hits = both.0; misses = both.1 }

changed-within : (n : ℕ) (row : Row) (c : Option Change) (s : RowState) → AreWithin n s → AreWithin n (changed_where c row s)
changed-within n row None s w = w
changed-within n row (Some c) s w = made-within n (table_answer c s.table) row c s w

served-within : (n : ℕ) (row : Row) (e : Event) (s : RowState) → AreWithin n s → AreWithin n (served row e s)
unfolding served fenced count_fence count_accepted count_invalidated arrays_without
served-within n row (event.Access va k) s w = accessed-within n row va k s w
served-within n row (event.Map space va o perm) s w = changed-within n row (change_of row s.table.leaves (event.Map space va o perm)) s w
served-within n row (event.Unmap space va o) s w = changed-within n row (change_of row s.table.leaves (event.Unmap space va o)) s w
served-within n row (event.Protect space va o perm) s w = changed-within n row (change_of row s.table.leaves (event.Protect space va o perm)) s w
served-within n row (event.Move space from to o) s w = changed-within n row (change_of row s.table.leaves (event.Move space from to o)) s w
served-within n row (event.Space space) s w = record { few = w.few; hits = w.hits; misses = w.misses }
served-within n row (event.Fence to) s w = record {
  few = mapped-length (array_without (reaches_leaf (reach_of row to))) s.arrays ∙ w.few;
  hits = w.hits;
  misses = w.misses;
}

ruled-within : (n : ℕ) (row : Row) (e : Event) (s : RowState) (q : Option Refusal) → AreWithin n s → AreWithin n (after_rule q row e s)
unfolding count_refusal
ruled-within n row e s (Some r) w = record { few = w.few; hits = w.hits; misses = w.misses }
ruled-within n row e s None w = served-within n row e s w

within-kept : (n : ℕ) (row : Row) → Keeps row (AreWithin n)
unfolding after_event
within-kept n row e s w = ruled-within n row e s (rule row s.table.leaves e) w

zeros : (n : ℕ) → IsZeroBeyond n (0 ∷ 0 ∷ 0 ∷ 0 ∷ 0 ∷ 0 ∷ [])
zeros n zero h = refl
zeros n (suc zero) h = refl
zeros n (suc (suc zero)) h = refl
zeros n (suc (suc (suc zero))) h = refl
zeros n (suc (suc (suc (suc zero)))) h = refl
zeros n (suc (suc (suc (suc (suc zero))))) h = refl
zeros n (suc (suc (suc (suc (suc (suc i)))))) h = refl

opening-within : (row : Row) → AreWithin (length row.tlb) (opening row)
unfolding opening no_counts opening_arrays
opening-within row = record { few = mapped-length opening_array row.tlb; hits = zeros (length row.tlb); misses = zeros (length row.tlb) }

nothing_is_counted_beyond_the_arrays : NothingIsCountedBeyondTheArrays
nothing_is_counted_beyond_the_arrays row items =
    let w = run-keeps row (AreWithin (length row.tlb)) (within-kept (length row.tlb) row) (opening-within row) items in
    (w.hits, w.misses)

pub returns : goal.returns
returns c = nothing_is_counted_beyond_the_arrays
