-- A guest over a host: the state, the walk of an access through both stages, and each event with its outcome.
use Rattle.std.specs.Prelude.{ℕ, ◌+◌, ◌/◌, ◌^◌, ◌≤◌, Bool, true, false, IsTrue, List, [], ◌∷◌, Option, None, Some}
use Rattle.xl_model.specs.declared.address.Kind.{Kind}
use Rattle.xl_model.specs.declared.address.Kind.TheVariants as kind
use Rattle.xl_model.specs.declared.address.Mode.TheVariants as mode
use Rattle.xl_nested_model.specs.declared.nest.Nest.{Nest}
use Rattle.xl_nested_model.specs.declared.nest.NestCounts.{NestCounts}
use Rattle.xl_nested_model.specs.declared.nest.NestEvent.{NestEvent}
use Rattle.xl_nested_model.specs.declared.nest.NestEvent.TheVariants as event
use Rattle.xl_nested_model.specs.declared.nest.NestOutcome.{NestOutcome}
use Rattle.xl_nested_model.specs.declared.nest.NestOutcome.TheVariants as outcome
use Rattle.xl_nested_model.specs.declared.nest.NestRefusal.{NestRefusal}
use Rattle.xl_model.specs.Addresses.{is_canonical, page_of}
use Rattle.xl_model.specs.Base.{plus}
use Rattle.xl_model.specs.Mapping.{flat}
use Rattle.xl_model.specs.Rows.{is_width}
use Rattle.xl_nested_model.specs.Tally.{no_nest_counts, count_nest_refusal, count_nest_reply, count_nest_accepted}
use Rattle.xl_nested_model.specs.Stages.{Guest, Host, opening_guest, opening_host, frame_of, stage2, guest_path, nested, with_loads, translated}
use Rattle.xl_nested_model.specs.Rules.{gmap_rule, gunmap_rule, vmap_rule, vunmap_rule, gmapped, gunmapped, vmapped, vunmapped}

-- The limits of a guest over a host: those of the sizes, and the guest's nodes lie in guest pages.
pub record IsNest (nest : Nest) : Type 0 where
  pub some_nodes : 1 ≤ nest.nodes
  pub few_nodes : nest.nodes ≤ 16384
  pub nodes_in : nest.base + nest.nodes ≤ 2 ^ 29
  pub some_frames : 1 ≤ nest.frames
  pub few_frames : nest.frames ≤ 2 ^ 22
  pub host_roots : 4 ≤ nest.g_nodes
  pub few_g_nodes : nest.g_nodes ≤ 16384
  pub width : IsTrue (is_width nest.g_cache)

-- A guest over a host, with counts. Each stage counts its loads and the host its hits;
-- `nest_counts` has all counts.
pub record NestState : Type 0 where
  pub guest : Guest
  pub host : Host
  pub counts : NestCounts

-- The counts, with the loads of both tables and the hits of the G cache.
abbrev pub nest_counts : NestState → NestCounts
nest_counts s = record s.counts { reads = plus s.guest.stage.loads s.host.stage.loads; hits = s.host.hits }

-- Nothing is mapped, the G cache is empty, and all counts are 0.
unfoldable pub opening_nest : Nest → NestState
opening_nest n = record {
  guest = opening_guest n.base n.nodes;
  host = opening_host n.frames n.g_nodes n.g_cache;
  counts = no_nest_counts;
}

-- One step of a walk: the guest's node is loaded where the host has a frame for its page, and the
-- walk continues. Where it has none, the walk ends.
abbrev pub loaded_where : Option ℕ → (NestState → NestState) → NestState → NestState
loaded_where None on s = s
loaded_where (Some frame) on s = on (record s { guest = record s.guest { stage = with_loads 1 s.guest.stage } })

-- A walk along the guest pages of nodes: each page is translated and then loaded. A last step
-- follows.
abbrev pub along : List ℕ → (NestState → NestState) → NestState → NestState
along [] last s = last s
along (g ∷ gs) last s =
    loaded_where (stage2 s.host.stage.leaves g kind.Load) (along gs last) (record s { host = translated g s.host })

-- The last step: the guest page of the access itself is translated, where the guest's mapping gives
-- one.
abbrev pub with_last : Option ℕ → NestState → NestState
with_last None s = s
with_last (Some g) s = record s { host = translated g s.host }

-- The walk of an access. One whose address isn't canonical makes no load and looks at no cache.
abbrev pub walked_if : Bool → ℕ → Kind → NestState → NestState
walked_if false va kind s = s
walked_if true va kind s =
    along (guest_path s.guest (page_of mode.Sv39 va)) (with_last (frame_of (flat s.guest.stage.leaves mode.Sv39 0 va kind))) s

-- After an access: the walk is made, and the reply is counted.
unfoldable pub nest_accessed : ℕ → Kind → NestState → NestState
nest_accessed va kind s =
    let after = walked_if (is_canonical mode.Sv39 va) va kind s in
    record after { counts = count_nest_reply (nested s.guest s.host.stage.leaves va kind) va after.counts }

-- The first refusal that holds for an event.
unfoldable pub nest_rule : NestEvent → NestState → Option NestRefusal
nest_rule (event.Access va kind) s = None
nest_rule (event.GMap gaddr o perm) s = gmap_rule gaddr o perm s.host
nest_rule (event.GUnmap gaddr o) s = gunmap_rule gaddr o s.host
nest_rule (event.VMap va o gaddr perm) s = vmap_rule va o gaddr perm s.guest
nest_rule (event.VUnmap va o) s = vunmap_rule va o s.guest

-- After a command that was done, with this guest and this host.
abbrev pub nest_done : Guest → Host → NestState → NestState
nest_done guest host s = record { guest = guest; host = host; counts = count_nest_accepted s.counts }

-- After an event that isn't refused.
unfoldable pub nest_served : NestEvent → NestState → NestState
nest_served (event.Access va kind) s = nest_accessed va kind s
nest_served (event.GMap gaddr o perm) s = nest_done s.guest (gmapped (gaddr / 4096) o perm s.host) s
nest_served (event.GUnmap gaddr o) s = nest_done s.guest (gunmapped (gaddr / 4096) o s.host) s
nest_served (event.VMap va o gaddr perm) s = nest_done (vmapped (page_of mode.Sv39 va) o (gaddr / 4096) perm s.guest) s.host s
nest_served (event.VUnmap va o) s = nest_done (vunmapped (page_of mode.Sv39 va) o s.guest) s.host s

-- After a refusal only its count is another; else the event is served.
abbrev pub after_nest_rule : Option NestRefusal → NestEvent → NestState → NestState
after_nest_rule (Some r) e s = record s { counts = count_nest_refusal r s.counts }
after_nest_rule None e s = nest_served e s

-- After an event.
unfoldable pub after_nest_event : NestEvent → NestState → NestState
after_nest_event e s = after_nest_rule (nest_rule e s) e s

-- The outcome of an event that isn't refused.
abbrev pub nest_answer : NestEvent → NestState → NestOutcome
nest_answer (event.Access va kind) s = outcome.Replied (nested s.guest s.host.stage.leaves va kind)
nest_answer (event.GMap gaddr o perm) s = outcome.Done
nest_answer (event.GUnmap gaddr o) s = outcome.Done
nest_answer (event.VMap va o gaddr perm) s = outcome.Done
nest_answer (event.VUnmap va o) s = outcome.Done

-- The refusal, or else the event's own outcome.
abbrev pub nest_outcome_by : Option NestRefusal → NestEvent → NestState → NestOutcome
nest_outcome_by (Some r) e s = outcome.Refused r
nest_outcome_by None e s = nest_answer e s

-- The outcome of an event: a reply, done, or the first refusal that holds.
unfoldable pub nest_outcome : NestEvent → NestState → NestOutcome
nest_outcome e s = nest_outcome_by (nest_rule e s) e s

-- After a list of events.
abbrev pub nest_run : List NestEvent → NestState → NestState
nest_run [] s = s
nest_run (e ∷ es) s = nest_run es (after_nest_event e s)

-- The outcomes of a list of events.
abbrev pub nest_outcomes : List NestEvent → NestState → List NestOutcome
nest_outcomes [] s = []
nest_outcomes (e ∷ es) s = nest_outcome e s ∷ nest_outcomes es (after_nest_event e s)
