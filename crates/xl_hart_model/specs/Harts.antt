-- Harts over one radix table. Each has a TLB array of its own, and takes the requests of remote fences in its own time;
-- so its array may hold leaves of an older mapping.
use Rattle.std.specs.Prelude.{ℕ, ◌+◌, ◌-◌, ◌==◌, max, Bool, true, false, ◌&&◌, not, nat_lt, List, [], ◌∷◌, ◌++◌, length, map, replicate, slice_index_or, slice_set, take, Option, None, Some}
use Rattle.std.specs.List.{list_any}
use Rattle.xl_model.specs.declared.address.Kind.{Kind}
use Rattle.xl_model.specs.declared.address.Mode.TheVariants as mode
use Rattle.xl_model.specs.declared.event.Event.{Event}
use Rattle.xl_model.specs.declared.event.Event.TheVariants as event
use Rattle.xl_model.specs.declared.event.Refusal.{Refusal}
use Rattle.xl_model.specs.declared.event.Refusal.TheVariants as refused
use Rattle.xl_hart_model.specs.declared.hart.AllCounts.{AllCounts}
use Rattle.xl_hart_model.specs.declared.hart.HartCounts.{HartCounts}
use Rattle.xl_hart_model.specs.declared.hart.HartEvent.{HartEvent}
use Rattle.xl_hart_model.specs.declared.hart.HartEvent.TheVariants as step
use Rattle.xl_hart_model.specs.declared.hart.HartOutcome.{HartOutcome}
use Rattle.xl_hart_model.specs.declared.hart.HartOutcome.TheVariants as outcome
use Rattle.xl_hart_model.specs.declared.hart.HartRefusal.{HartRefusal}
use Rattle.xl_hart_model.specs.declared.hart.HartRefusal.TheVariants as why
use Rattle.xl_hart_model.specs.declared.hart.HartSpec.{HartSpec}
use Rattle.xl_hart_model.specs.declared.hart.Request.{Request}
use Rattle.xl_model.specs.declared.leaf.Leaf.{Leaf}
use Rattle.xl_model.specs.declared.leaf.Reply.{Reply}
use Rattle.xl_model.specs.declared.row.Purge.TheVariants as purge
use Rattle.xl_model.specs.declared.row.Serves.TheVariants as serves
use Rattle.xl_model.specs.declared.row.Table.TheVariants as table
use Rattle.xl_model.specs.declared.row.TlbSpec.{TlbSpec}
use Rattle.xl_model.specs.Addresses.{is_canonical, page_of}
use Rattle.xl_model.specs.Base.{plus}
use Rattle.xl_model.specs.Changes.{Change}
use Rattle.xl_model.specs.Frames.{lowest}
use Rattle.xl_hart_model.specs.Tally.{no_hart_counts, no_refusals, hart_refusal_place, count_hart_reply, count_hit, count_miss, count_taken, frames_in}
use Rattle.xl_model.specs.Mapping.{leaf_at_page, is_leaf, reply_by, reply_where}
use Rattle.xl_hart_model.specs.Requests.{request_of, held_leaves}
use Rattle.xl_model.specs.Ranges.{same_perm}
use Rattle.xl_model.specs.Room.{has_room}
use Rattle.xl_model.specs.RowRun.{opening}
use Rattle.xl_model.specs.Rows.{Row}
use Rattle.xl_model.specs.Rules.{or_else, place_rule, overlap_rule, frames_rule, rule, insert_at, change_of}
use Rattle.xl_model.specs.Structures.{TableState, table_after, table_walked}
use Rattle.xl_model.specs.Tally.{one_more_at}
use Rattle.xl_model.specs.Tlb.{TlbArray, array_hit, array_touched, array_filled, array_without, first_found, leaves_in_sets, opening_array}
use Rattle.xl_model.specs.Walks.{walked}

-- A hart: its current space, its array, how many requests it has still to take, and its counts.
pub record Hart : Type 0 where
  pub space : ℕ
  pub array : TlbArray
  pub waiting : ℕ
  pub counts : HartCounts

-- Harts with what they share: the table, and the requests that some hart has still to take, newest
-- first. A request comes into every hart's queue at once; so the queue of a hart is some of the
-- newest requests.
pub record HartsState : Type 0 where
  pub spec : HartSpec
  pub table : TableState
  pub requests : List Request
  pub harts : List Hart
  pub current : ℕ
  pub accepted : ℕ
  pub refused : List ℕ

-- The requests that a hart has still to take, newest first.
abbrev pub queue_of : Hart → HartsState → List Request
queue_of h s = take h.waiting s.requests

-- Every array has eight ways, and takes leaves of all orders.
abbrev pub array_spec : HartSpec → TlbSpec
array_spec spec = record { level = 1; sets = spec.sets; width = 8; k4 = true; m2 = true; g1 = true; serves = serves.All }

-- The row of which the shared table is: Sv39, a radix table, no walk caches.
abbrev pub shared_row : HartSpec → Row
shared_row spec = record {
  name = [];
  mode = mode.Sv39;
  frames = spec.frames;
  spaces = spec.spaces;
  purge = purge.Page;
  table = table.Radix spec.nodes (0 ∷ 0 ∷ 0 ∷ 0 ∷ []);
  tlb = array_spec spec ∷ [];
}

-- A hart at the opening: in space 0, with an empty array and an empty queue.
abbrev pub opening_hart : HartSpec → Hart
opening_hart spec = record { space = 0; array = opening_array (array_spec spec); waiting = 0; counts = no_hart_counts }

-- Nothing is mapped, and hart 0 is the current one.
unfoldable pub opening_harts : HartSpec → HartsState
opening_harts spec = record {
  spec = spec;
  table = (opening (shared_row spec)).table;
  requests = [];
  harts = replicate spec.harts (opening_hart spec);
  current = 0;
  accepted = 0;
  refused = no_refusals;
}

-- The hart with a number; without one, a hart as at the opening.
abbrev pub hart_at : ℕ → HartsState → Hart
hart_at i s = slice_index_or s.harts i (opening_hart s.spec)

-- The current hart.
abbrev pub current_hart : HartsState → Hart
current_hart s = hart_at s.current s

-- Another hart in place of the one with a number.
abbrev pub with_hart : ℕ → Hart → HartsState → HartsState
with_hart i h s = record s { harts = slice_set s.harts i h }

-- The leaves whose frames no map may take: those of the mapping, and those held back.
abbrev pub kept_leaves : HartsState → List Leaf
kept_leaves s = s.table.leaves ++ held_leaves s.requests

-- An access. The leaf that it is replied by: that of the hart's array which covers the page, or
-- else that of the mapping.
abbrev pub leaf_seen : Hart → ℕ → List Leaf → Option Leaf
leaf_seen h page leaves = first_found (array_hit h.array h.space page) (leaf_at_page h.space page leaves)

-- The reply to an access of a hart.
unfoldable pub hart_reply : Hart → List Leaf → ℕ → Kind → Reply
hart_reply h leaves va kind =
    reply_where (is_canonical mode.Sv39 va) (reply_by (leaf_seen h (page_of mode.Sv39 va) leaves) (page_of mode.Sv39 va) kind)

-- A hart whose array hit with a leaf.
abbrev pub hart_hit : Leaf → ℕ → Hart → Hart
hart_hit leaf page h = record h { array = array_touched h.space page leaf h.array; counts = count_hit h.counts }

-- An array after a walk: what it found fills it.
abbrev pub array_walked : Option Leaf → TlbArray → TlbArray
array_walked None a = a
array_walked (Some leaf) a = array_filled leaf a

-- A hart whose array missed, and which walked the table.
abbrev pub hart_walked : ℕ → TableState → Hart → Hart
hart_walked page t h = record h {
  array = array_walked (leaf_at_page h.space page t.leaves) h.array;
  counts = count_miss (walked t.shape t.caches t.leaves h.space page).reads h.counts;
}

-- A hart with an access more, of this reply.
abbrev pub hart_replied : Reply → ℕ → Hart → Hart
hart_replied reply va h = record h { counts = count_hart_reply reply va h.counts }

-- After an access of the current hart: not canonical, or a hit, or a miss with its walk.
abbrev pub accessed_by : Bool → Option Leaf → ℕ → Reply → ℕ → HartsState → HartsState
accessed_by false hit page reply va s = with_hart s.current (hart_replied reply va (current_hart s)) s
accessed_by true (Some leaf) page reply va s =
    with_hart s.current (hart_replied reply va (hart_hit leaf page (current_hart s))) s
accessed_by true None page reply va s = record s {
  table = table_walked (current_hart s).space page s.table;
  harts = slice_set s.harts s.current (hart_replied reply va (hart_walked page s.table (current_hart s)));
}

-- After an access of the current hart.
unfoldable pub hart_accessed : ℕ → Kind → HartsState → HartsState
hart_accessed va kind s =
    accessed_by (is_canonical mode.Sv39 va) (array_hit (current_hart s).array (current_hart s).space (page_of mode.Sv39 va))
    (page_of mode.Sv39 va) (hart_reply (current_hart s) s.table.leaves va kind) va s

-- Commands. The first of refusals 1 to 7: a map finds no frames where all free ones are held back.
unfoldable pub hart_rule : HartsState → Event → Option Refusal
hart_rule s (event.Map space va o perm) =
    or_else (place_rule (shared_row s.spec) space o (va ∷ []))
    (or_else (overlap_rule (shared_row s.spec) s.table.leaves space va o) (frames_rule (lowest s.spec.frames o (kept_leaves s))))
hart_rule s e = rule (shared_row s.spec) s.table.leaves e

-- The change that a command is, where no refusal stops it.
unfoldable pub hart_change : HartsState → Event → Option Change
hart_change s (event.Map space va o perm) =
    insert_at space (page_of mode.Sv39 va) o
    (record { space = space; first = page_of mode.Sv39 va; order = o; frame = 0; perm = perm })
    (lowest s.spec.frames o (kept_leaves s))
hart_change s e = change_of (shared_row s.spec) s.table.leaves e

-- The first of two refusals that is there.
abbrev pub first_refusal : Option HartRefusal → Option HartRefusal → Option HartRefusal
first_refusal (Some r) next = Some r
first_refusal None next = next

-- A refusal, unless the test holds.
abbrev pub refused_unless : Bool → HartRefusal → Option HartRefusal
refused_unless true r = None
refused_unless false r = Some r

-- A refusal of a row, as one of harts.
abbrev pub of_mapping : Option Refusal → Option HartRefusal
of_mapping None = None
of_mapping (Some r) = Some (why.Mapping r)

-- A queue is full.
abbrev pub is_full : HartSpec → Hart → Bool
is_full spec h = h.waiting == spec.queue

-- 8 and 10, of a command that changes the mapping: the table has no room; some hart's queue is
-- full.
abbrev pub change_rule : Option Change → HartsState → Option HartRefusal
change_rule None s = None
change_rule (Some c) s =
    first_refusal (refused_unless (has_room c s.table.leaves s.table.shape) (why.Mapping refused.NoTable))
    (refused_unless (not (list_any (is_full s.spec) s.harts)) why.QueueFull)

-- The first refusal that holds for an event.
unfoldable pub hart_refusal : HartsState → HartEvent → Option HartRefusal
hart_refusal s (step.Hart n) = refused_unless (nat_lt n (length s.harts)) why.BadHart
hart_refusal s (step.Take n) =
    first_refusal (refused_unless (nat_lt n (length s.harts)) why.BadHart)
    (refused_unless (nat_lt 0 (hart_at n s).waiting) why.NothingToTake)
hart_refusal s (step.Own e) = first_refusal (of_mapping (hart_rule s e)) (change_rule (hart_change s e) s)

-- A hart with a request more in its queue.
abbrev pub hart_asked : Hart → Hart
hart_asked h = record h { waiting = h.waiting + 1 }

-- After a command that changes the mapping: its request is in every queue.
abbrev pub mapping_changed : Option Change → HartsState → HartsState
mapping_changed None s = s
mapping_changed (Some c) s = record s {
  table = table_after c s.table;
  requests = request_of c s.table.leaves ∷ s.requests;
  harts = map hart_asked s.harts;
  accepted = plus s.accepted 1;
}

-- After a switch of the current hart's space.
abbrev pub hart_switched : ℕ → HartsState → HartsState
hart_switched space s = record s {
  harts = slice_set s.harts s.current (record (current_hart s) { space = space });
  accepted = plus s.accepted 1;
}

-- Taking requests. A leaf is this one, in all its parts.
abbrev pub is_equal : Leaf → Leaf → Bool
is_equal old leaf = is_leaf old.space old.first old.order leaf && ((leaf.frame == old.frame) && same_perm leaf.perm old.perm)

-- An array without the leaf before, where a request has one.
abbrev pub array_fenced : Option Leaf → TlbArray → TlbArray
array_fenced None a = a
array_fenced (Some old) a = array_without (is_equal old) a

-- The oldest request of a hart's queue.
abbrev pub oldest : Hart → List Request → Request
oldest h requests = slice_index_or requests (h.waiting - 1) (record { before = None; after = None })

-- A hart that has taken a request.
abbrev pub hart_fenced : Request → Hart → Hart
hart_fenced r h = record h {
  array = array_fenced r.before h.array;
  waiting = h.waiting - 1;
  counts = count_taken (leaves_in_sets h.array.sets - leaves_in_sets (array_fenced r.before h.array).sets) h.counts;
}

-- The length of the longest queue.
abbrev pub longest : List Hart → ℕ
longest [] = 0
longest (h ∷ harts) = max h.waiting (longest harts)

-- A request that every hart has taken goes, and what it held back is free.
abbrev pub with_taken : List Hart → HartsState → HartsState
with_taken harts s = record s { harts = harts; requests = take (longest harts) s.requests }

-- After a hart took the oldest request of its queue.
abbrev pub request_taken : ℕ → HartsState → HartsState
request_taken n s = with_taken (slice_set s.harts n (hart_fenced (oldest (hart_at n s) s.requests) (hart_at n s))) s

-- After an event that is served for the current hart, where none refuses it. Harts are sent no
-- fence but by requests.
abbrev pub own_served : Event → HartsState → HartsState
own_served (event.Access va kind) s = hart_accessed va kind s
own_served (event.Space space) s = hart_switched space s
own_served (event.Fence scope) s = s
own_served e s = mapping_changed (hart_change s e) s

-- After an event that no refusal stops.
unfoldable pub hart_served : HartEvent → HartsState → HartsState
hart_served (step.Hart n) s = record s { current = n }
hart_served (step.Take n) s = request_taken n s
hart_served (step.Own e) s = own_served e s

-- After a refusal, which is counted; or after the event is served.
abbrev pub after_hart_refusal : Option HartRefusal → HartEvent → HartsState → HartsState
after_hart_refusal (Some r) e s = record s { refused = one_more_at (hart_refusal_place r) s.refused }
after_hart_refusal None e s = hart_served e s

-- The state after an event.
unfoldable pub after_hart_event : HartEvent → HartsState → HartsState
after_hart_event e s = after_hart_refusal (hart_refusal s e) e s

-- The outcome of an event that is served for the current hart.
abbrev pub own_outcome : Event → HartsState → HartOutcome
own_outcome (event.Access va kind) s = outcome.Replied (hart_reply (current_hart s) s.table.leaves va kind)
own_outcome e s = outcome.Done

-- The outcome of an event that no refusal stops.
abbrev pub hart_served_outcome : HartEvent → HartsState → HartOutcome
hart_served_outcome (step.Own e) s = own_outcome e s
hart_served_outcome e s = outcome.Done

-- The outcome by a refusal, or else of the event that is served.
abbrev pub outcome_after_refusal : Option HartRefusal → HartEvent → HartsState → HartOutcome
outcome_after_refusal (Some r) e s = outcome.Refused r
outcome_after_refusal None e s = hart_served_outcome e s

-- The outcome of an event: a reply, done, or the first refusal that holds.
unfoldable pub hart_outcome : HartEvent → HartsState → HartOutcome
hart_outcome e s = outcome_after_refusal (hart_refusal s e) e s

-- After some events, one after another.
abbrev pub after_hart_events : List HartEvent → HartsState → HartsState
after_hart_events [] s = s
after_hart_events (e ∷ es) s = after_hart_events es (after_hart_event e s)

-- How many requests are in all queues.
abbrev pub waiting_in : List Hart → ℕ
waiting_in [] = 0
waiting_in (h ∷ harts) = h.waiting + waiting_in harts

-- The counts of all harts together.
abbrev pub all_counts : HartsState → AllCounts
all_counts s = record {
  accepted = s.accepted;
  refused = s.refused;
  waiting = waiting_in s.harts;
  held = frames_in (held_leaves s.requests);
}
