-- The laws of a reply, whatever is mapped and whatever the G cache holds.
use Rattle.std.specs.Prelude.{ℕ, ◌≡◌, ◌+◌, ◌<◌, ◌≤◌, true, List}
use Rattle.std.specs.List.{list_all}
use Rattle.xl_model.specs.declared.address.Kind.{Kind}
use Rattle.xl_model.specs.declared.address.Mode.TheVariants as mode
use Rattle.xl_model.specs.declared.leaf.Leaf.{Leaf}
use Rattle.xl_model.specs.Addresses.{page_of, pages_of}
use Rattle.xl_model.specs.Mapping.{flat}
use Rattle.xl_list_lemmas.specs.Members.{In}
use Rattle.xl_nested_model.specs.declared.nest.NestEvent.{NestEvent}
use Rattle.xl_nested_model.specs.declared.nest.NestEvent.TheVariants as event
use Rattle.xl_nested_model.specs.declared.nest.NestOutcome.{NestOutcome}
use Rattle.xl_nested_model.specs.declared.nest.NestOutcome.TheVariants as outcome
use Rattle.xl_nested_model.specs.declared.nest.NestReply.{NestReply}
use Rattle.xl_nested_model.specs.declared.nest.NestReply.TheVariants as reply
use Rattle.xl_nested_model.specs.Nested.{NestState, nest_outcome}
use Rattle.xl_nested_model.specs.Stages.{frame_of, guest_path, guest_reply, is_loadable}

-- The host allows a load of each of the guest's nodes on the path of the address.
abbrev pub AreLoadable : ℕ → NestState → Type 0
AreLoadable va s = list_all (is_loadable s.host.stage.leaves) (guest_path s.guest (page_of mode.Sv39 va)) ≡ true

-- The composition of two mappings: the host's, at the guest page that the guest's gives.
abbrev pub composed : List Leaf → List Leaf → ℕ → Kind → NestReply
composed guest host va kind = guest_reply (frame_of (flat guest mode.Sv39 0 va kind)) host kind

-- Two states have the same tables. Their G caches and counts may differ.
pub record HaveSameTables (a b : NestState) : Type 0 where
  pub base : b.guest.base ≡ a.guest.base
  pub guest_leaves : b.guest.stage.leaves ≡ a.guest.stage.leaves
  pub guest_shape : b.guest.stage.shape ≡ a.guest.stage.shape
  pub host_leaves : b.host.stage.leaves ≡ a.host.stage.leaves

-- A frame of one of the leaves.
pub record IsFrameOf (frame : ℕ) (leaves : List Leaf) : Type 0 where
  pub leaf : Leaf
  pub member : In leaf leaves
  pub from : leaf.frame ≤ frame
  pub to : frame < leaf.frame + pages_of leaf.order

-- The frame of a reply, if it has one, is a frame of one of the leaves.
abbrev pub IsPlaced : NestReply → List Leaf → Type 0
IsPlaced (reply.Frame frame) leaves = IsFrameOf frame leaves
IsPlaced reply.PageFault leaves = Unit {0}
IsPlaced reply.GuestFault leaves = Unit {0}

-- Where the guest's nodes can be loaded, the reply is by the composition of both mappings. It is the same over any
-- G cache. A frame in it is one of a leaf that the host has after the access.
pub record ReplyLaws (va : ℕ) (kind : Kind) (result : NestReply) (old new : NestState) : Type 0 where
  pub composes : AreLoadable va old → result ≡ composed old.guest.stage.leaves old.host.stage.leaves va kind
  pub same : (other : NestState) → HaveSameTables old other → nest_outcome (event.Access va kind) other ≡ outcome.Replied result
  pub placed : IsPlaced result new.host.stage.leaves

-- The laws of the outcome of an access, which is a reply.
abbrev pub AccessLaws : ℕ → Kind → NestOutcome → NestState → NestState → Type 0
AccessLaws va kind (outcome.Replied result) old new = ReplyLaws va kind result old new
AccessLaws va kind outcome.Done old new = Unit {0}
AccessLaws va kind (outcome.Refused r) old new = Unit {0}

-- The laws of an event, where it is an access.
abbrev pub EventLaws : NestEvent → NestOutcome → NestState → NestState → Type 0
EventLaws (event.Access va kind) result old new = AccessLaws va kind result old new
EventLaws (event.GMap gaddr o perm) result old new = Unit {0}
EventLaws (event.GUnmap gaddr o) result old new = Unit {0}
EventLaws (event.VMap va o gaddr perm) result old new = Unit {0}
EventLaws (event.VUnmap va o) result old new = Unit {0}
