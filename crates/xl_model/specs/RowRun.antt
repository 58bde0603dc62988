-- The state of a row, and what each event does to it.
use Rattle.std.specs.Prelude.{ℕ, ◌-◌, Bool, true, false, List, [], count_by, length, Option, None, Some, Result, Ok, Err}
use Rattle.xl_model.specs.declared.address.Kind.{Kind}
use Rattle.xl_model.specs.declared.leaf.Leaf.{Leaf}
use Rattle.xl_model.specs.declared.leaf.Reply.{Reply}
use Rattle.xl_model.specs.declared.event.Scope.{Scope}
use Rattle.xl_model.specs.declared.event.Scope.TheVariants as scope
use Rattle.xl_model.specs.declared.event.Reach.{Reach}
use Rattle.xl_model.specs.declared.event.Reach.TheVariants as reach
use Rattle.xl_model.specs.declared.event.Event.{Event}
use Rattle.xl_model.specs.declared.event.Event.TheVariants as event
use Rattle.xl_model.specs.declared.event.Refusal.{Refusal}
use Rattle.xl_model.specs.declared.event.Refusal.TheVariants as refused
use Rattle.xl_model.specs.declared.event.Outcome.{Outcome}
use Rattle.xl_model.specs.declared.event.Outcome.TheVariants as outcome
use Rattle.xl_model.specs.declared.row.Counts.{Counts}
use Rattle.xl_model.specs.declared.row.Purge.{Purge}
use Rattle.xl_model.specs.declared.work.NoRoom.{NoRoom}
use Rattle.xl_model.specs.declared.work.NoRoom.TheVariants as why
use Rattle.xl_model.specs.declared.work.Refused.{Refused}
use Rattle.xl_model.specs.declared.work.Work.{Work}
use Rattle.xl_model.specs.Addresses.{levels_of, is_canonical, page_of}
use Rattle.xl_model.specs.Mapping.{leaf_at_page, flat}
use Rattle.xl_model.specs.Rows.{Row}
use Rattle.xl_model.specs.Changes.{Change, old_leaf}
use Rattle.xl_model.specs.Rules.{rule, change_of}
use Rattle.xl_model.specs.Shapes.{opening_shape}
use Rattle.xl_model.specs.Caches.{opening_caches}
use Rattle.xl_model.specs.Walks.{walked}
use Rattle.xl_model.specs.Structures.{TableState, table_answer, table_after, table_walked, fence_answer, table_fenced}
use Rattle.xl_model.specs.Tlb.{TlbArray, Answer, answer_of, arrays_hit, fills_array, arrays_filled, takes_leaf, is_purged, reaches_leaf, arrays_without, leaf_count, opening_arrays}
use Rattle.xl_model.specs.Tally.{no_counts, count_refusal, count_reply, count_walk, count_fills, count_look, count_work, count_accepted, count_invalidated, count_fence}

-- The state of a row: its table, the current space, its TLB arrays and its counts.
pub record RowState : Type 0 where
  pub table : TableState
  pub space : ℕ
  pub arrays : List TlbArray
  pub counts : Counts

-- nothing is mapped, all lists are empty, the current space is 0 and all counts are 0
unfoldable pub opening : Row → RowState
opening row = record {
  table = record {
    leaves = [];
    shape = opening_shape (levels_of row.mode) row.spaces row.table;
    caches = opening_caches (levels_of row.mode) row.table;
    loads = 0;
  };
  space = 0;
  arrays = opening_arrays row.tlb;
  counts = no_counts (length row.tlb);
}

-- An access that hits some array: the arrays that serve it are touched and filled. One that misses
-- all: a walk, and the leaf found fills every level.
abbrev pub walk_filled : Kind → Option Leaf → RowState → RowState
walk_filled kind None s = s
walk_filled kind (Some leaf) s = record s {
  arrays = arrays_filled kind leaf s.arrays;
  counts = count_fills (count_by (takes_leaf kind leaf) s.arrays) s.counts;
}

-- A walk is made, and counted with its loads and cache hits.
abbrev pub walk_made : ℕ → ℕ → RowState → RowState
walk_made space page s = record s {
  table = table_walked space page s.table;
  counts = count_walk (walked s.table.shape s.table.caches s.table.leaves space page).reads
      (walked s.table.shape s.table.caches s.table.leaves space page).cache_hits s.counts;
}

-- A look-up: an array hits, or all miss and a walk is made.
abbrev pub looked_by : Kind → Option Answer → ℕ → RowState → RowState
looked_by kind (Some answer) page s = record s {
  arrays = arrays_hit kind answer s.space page s.arrays;
  counts = count_fills (count_by (fills_array kind answer.level answer.leaf) s.arrays)
      (count_look kind (Some answer) s.space page s.arrays s.counts);
}
looked_by kind None page s =
    walk_filled kind (leaf_at_page s.space page s.table.leaves)
    (walk_made s.space page (record s { counts = count_look kind None s.space page s.arrays s.counts }))

-- A look-up of a page in the current space, for an access of this kind.
unfoldable pub looked : Kind → ℕ → RowState → RowState
looked kind page s = looked_by kind (answer_of kind s.arrays s.space page) page s

-- a non-canonical access looks at nothing
abbrev pub looked_where : Bool → Kind → ℕ → RowState → RowState
looked_where true kind page s = looked kind page s
looked_where false kind page s = s

-- The reply to an access: that of the flat mapping.
unfoldable pub reply_to : Row → RowState → ℕ → Kind → Reply
reply_to row s va kind = flat s.table.leaves row.mode s.space va kind

-- A row after an access: it was looked up where it is canonical, and its reply is counted.
unfoldable pub accessed : Row → ℕ → Kind → RowState → RowState
accessed row va kind s =
    let after = looked_where (is_canonical row.mode va) kind (page_of row.mode va) s in
    record after { counts = count_reply (reply_to row s va kind) va after.counts }

-- A change of the mapping: the table changes, and the arrays are purged of the old leaf.
abbrev pub refusal_of : NoRoom → Refusal
refusal_of why.NoTable = refused.NoTable
refusal_of why.WayAtCap = refused.WayAtCap

-- The arrays after a purge of the leaf as it was; without such a leaf nothing is purged.
abbrev pub arrays_after : Purge → Option Leaf → List TlbArray → List TlbArray
arrays_after purge None arrays = arrays
arrays_after purge (Some old) arrays = arrays_without (is_purged purge old) arrays

-- The arrays after a change's purge, by the row's policy.
abbrev pub purged_at : Row → Change → RowState → List TlbArray
purged_at row c s = arrays_after row.purge (old_leaf c s.table.leaves) s.arrays

-- a refusal for want of room leaves nothing else; one at the caps leaves the work of its attempts
abbrev pub counts_refused : NoRoom → Work → Counts → Counts
counts_refused why.NoTable work c = count_refusal refused.NoTable c
counts_refused why.WayAtCap work c = count_refusal refused.WayAtCap (count_work work c)

-- A row after a change, by the table's result: made, with its purge, or refused.
abbrev pub changed_by : Result Work Refused → Row → Change → RowState → RowState
changed_by (Ok work) row c s = record s {
  table = table_after c s.table;
  arrays = purged_at row c s;
  counts = count_accepted (count_invalidated (leaf_count s.arrays - leaf_count (purged_at row c s)) (count_work work s.counts));
}
changed_by (Err r) row c s = record s {
  table = table_after c s.table;
  counts = counts_refused r.why r.work s.counts;
}

-- Done, or refused for want of room.
abbrev pub outcome_by : Result Work Refused → Outcome
outcome_by (Ok work) = outcome.Done
outcome_by (Err r) = outcome.Refused (refusal_of r.why)

-- A row after a change, if there is one.
abbrev pub changed_where : Option Change → Row → RowState → RowState
changed_where None row s = s
changed_where (Some c) row s = changed_by (table_answer c s.table) row c s

-- The outcome of a change, if there is one.
abbrev pub changed_outcome : Option Change → RowState → Outcome
changed_outcome None s = outcome.Done
changed_outcome (Some c) s = outcome_by (table_answer c s.table)

-- a fence, by its addresses' pages
abbrev pub reach_of : Row → Scope → Reach
reach_of row scope.All = reach.All
reach_of row (scope.Space space) = reach.Space space
reach_of row (scope.Addr va) = reach.Addr (page_of row.mode va)
reach_of row (scope.Page space va) = reach.Page space (page_of row.mode va)

-- A row after a fence: what it reaches is removed from the arrays and the caches.
unfoldable pub fenced : Reach → RowState → RowState
fenced to s = record s {
  table = table_fenced to s.table;
  arrays = arrays_without (reaches_leaf to) s.arrays;
  counts = count_fence (count_accepted (count_invalidated
      (leaf_count s.arrays - leaf_count (arrays_without (reaches_leaf to) s.arrays))
      (count_invalidated (fence_answer to s.table) s.counts)));
}

-- an event that no rule stops
unfoldable pub served : Row → Event → RowState → RowState
served row (event.Access va kind) s = accessed row va kind s
served row (event.Map space va o perm) s = changed_where (change_of row s.table.leaves (event.Map space va o perm)) row s
served row (event.Unmap space va o) s = changed_where (change_of row s.table.leaves (event.Unmap space va o)) row s
served row (event.Protect space va o perm) s = changed_where (change_of row s.table.leaves (event.Protect space va o perm)) row s
served row (event.Move space from to o) s = changed_where (change_of row s.table.leaves (event.Move space from to o)) row s
served row (event.Space space) s = record s { space = space; counts = count_accepted s.counts }
served row (event.Fence to) s = fenced (reach_of row to) s

-- A row after a refusal by a rule, or after the event is served.
abbrev pub after_rule : Option Refusal → Row → Event → RowState → RowState
after_rule (Some r) row e s = record s { counts = count_refusal r s.counts }
after_rule None row e s = served row e s

-- the state after an event
unfoldable pub after_event : Row → Event → RowState → RowState
after_event row e s = after_rule (rule row s.table.leaves e) row e s

-- The outcome of an event that no rule stops.
abbrev pub served_outcome : Row → Event → RowState → Outcome
served_outcome row (event.Access va kind) s = outcome.Replied (reply_to row s va kind)
served_outcome row (event.Space space) s = outcome.Done
served_outcome row (event.Fence to) s = outcome.Done
served_outcome row e s = changed_outcome (change_of row s.table.leaves e) s

-- The refusal by a rule, or else the outcome of the event.
abbrev pub outcome_after_rule : Option Refusal → Row → Event → RowState → Outcome
outcome_after_rule (Some r) row e s = outcome.Refused r
outcome_after_rule None row e s = served_outcome row e s

-- the outcome of an event: a reply, done, or the first refusal that holds
unfoldable pub outcome_of : Row → Event → RowState → Outcome
outcome_of row e s = outcome_after_rule (rule row s.table.leaves e) row e s
