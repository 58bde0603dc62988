-- Two-stage translation (RISC-V Privileged manual, hypervisor extension): a guest with Sv39 tables, the
-- VS-stage, over a host with Sv39x4 tables, the G-stage. A guest physical address has 41 bits, so a guest page,
-- its page number, has 29.
use Rattle.std.specs.Prelude.{ℕ, zero, suc, ◌+◌, ◌-◌, ◌/◌, ◌%◌, ◌^◌, Bool, true, false, is_some, List, [], ◌∷◌, find, Option, None, Some}
use Rattle.std.specs.List.{list_all}
use Rattle.xl_model.specs.declared.address.Kind.{Kind}
use Rattle.xl_model.specs.declared.address.Kind.TheVariants as kind
use Rattle.xl_model.specs.declared.address.Mode.TheVariants as mode
use Rattle.xl_model.specs.declared.leaf.Leaf.{Leaf}
use Rattle.xl_model.specs.declared.leaf.Reply.{Reply}
use Rattle.xl_model.specs.declared.leaf.Reply.TheVariants as reply
use Rattle.xl_nested_model.specs.declared.nest.NestReply.{NestReply}
use Rattle.xl_nested_model.specs.declared.nest.NestReply.TheVariants as nest
use Rattle.xl_model.specs.Addresses.{is_canonical, page_of, code_of}
use Rattle.xl_model.specs.Base.{number_or_0, plus}
use Rattle.xl_model.specs.Caches.{Cached, empty_cache}
use Rattle.xl_model.specs.Mapping.{covers, leaf_at_page, reply_by, flat}
use Rattle.xl_model.specs.Nodes.{Node, up, number_of, opening_nodes}
use Rattle.xl_model.specs.Shapes.{Shape, Radix, Chained, Cuckoo, Runs}
use Rattle.xl_model.specs.Walks.{end_level, with_touch, with_fill}

-- A stage: the leaves of its table, the table's shape, and the loads of it.
pub record Stage : Type 0 where
  pub leaves : List Leaf
  pub shape : Shape
  pub loads : ℕ

-- A stage without leaves, with a root for each of `spaces` spaces, of `nodes` nodes at most.
abbrev pub opening_stage : ℕ → ℕ → Stage
opening_stage spaces nodes = record { leaves = []; shape = Radix 3 spaces (opening_nodes 3 spaces nodes); loads = 0 }

-- The guest. Its node n lies in guest page base + n, and the frames of its leaves are guest pages.
pub record Guest : Type 0 where
  pub base : ℕ
  pub stage : Stage

-- The host: the number of its frames, its table, and a recency list of its leaves, the G cache,
-- with its hits.
pub record Host : Type 0 where
  pub frames : ℕ
  pub stage : Stage
  pub cache : Cached Leaf
  pub hits : ℕ

-- A guest in which nothing is mapped.
abbrev pub opening_guest : ℕ → ℕ → Guest
opening_guest base nodes = record { base = base; stage = opening_stage 1 nodes }

-- A host in which nothing is mapped.
abbrev pub opening_host : ℕ → ℕ → ℕ → Host
opening_host frames nodes width = record { frames = frames; stage = opening_stage 4 nodes; cache = empty_cache width; hits = 0 }

-- The host's root of 16 KiB is four roots side by side, one for each of four spaces: guest page g
-- is in space g / 2^27.
abbrev pub host_space : ℕ → ℕ
host_space g = g / 2 ^ 27

-- The guest page's number in its space: g mod 2^27.
abbrev pub host_page : ℕ → ℕ
host_page g = g % 2 ^ 27

-- A leaf of the host covers a guest page.
abbrev pub covers_guest : ℕ → Leaf → Bool
covers_guest g leaf = covers (host_space g) (host_page g) leaf

-- The leaf of the host that covers a guest page.
unfoldable pub host_leaf : ℕ → List Leaf → Option Leaf
host_leaf g leaves = leaf_at_page (host_space g) (host_page g) leaves

-- The frame of a reply that has one.
abbrev pub frame_of : Reply → Option ℕ
frame_of (reply.Frame frame) = Some frame
frame_of reply.NotCanonical = None
frame_of reply.Unmapped = None
frame_of reply.Denied = None

-- The host's mapping: the frame of a guest page, where a leaf of the host covers the page and
-- allows the access.
unfoldable pub stage2 : List Leaf → ℕ → Kind → Option ℕ
stage2 leaves g kind = frame_of (reply_by (host_leaf g leaves) (host_page g) kind)

-- The nodes of a radix table, by number. Other tables have none.
abbrev pub nodes_in : Shape → List (Option Node)
nodes_in (Radix levels spaces nodes) = nodes
nodes_in (Chained group buckets entries tags) = []
nodes_in (Cuckoo rules ways) = []
nodes_in (Runs ranges) = []

-- The guest page of a page's node of this level.
abbrev pub node_page : ℕ → ℕ → ℕ → List (Option Node) → ℕ
node_page base level page nodes = base + number_or_0 (number_of 0 (suc level) (up (suc level) page) nodes)

-- The guest pages of a page's nodes from this level down, n of them.
abbrev pub path_from : ℕ → ℕ → ℕ → ℕ → List (Option Node) → List ℕ
path_from base level page zero nodes = []
path_from base level page (suc n) nodes = node_page base level page nodes ∷ path_from base (level - 1) page n nodes

-- The guest pages of the nodes on a page's path, from level 2 down to the last one that the guest's
-- leaves need.
unfoldable pub guest_path : Guest → ℕ → List ℕ
guest_path guest page =
    path_from guest.base 2 page (3 - end_level 2 0 0 page guest.stage.leaves) (nodes_in guest.stage.shape)

-- The host allows a load of a guest page: a walk loads the guest's nodes.
abbrev pub is_loadable : List Leaf → ℕ → Bool
is_loadable leaves g = is_some (stage2 leaves g kind.Load)

-- The reply by the host's frame: a guest-page fault where there is none.
abbrev pub host_reply : Option ℕ → NestReply
host_reply None = nest.GuestFault
host_reply (Some frame) = nest.Frame frame

-- The reply by the guest page that the guest's mapping gives: a page fault where it gives none,
-- else by the host's frame of that page.
abbrev pub guest_reply : Option ℕ → List Leaf → Kind → NestReply
guest_reply None host kind = nest.PageFault
guest_reply (Some g) host kind = host_reply (stage2 host g kind)

-- A guest-page fault, unless the guest's nodes can be loaded.
abbrev pub reply_if_loadable : Bool → NestReply → NestReply
reply_if_loadable false answer = nest.GuestFault
reply_if_loadable true answer = answer

-- A page fault, unless the address is canonical.
abbrev pub reply_if_canonical : Bool → NestReply → NestReply
reply_if_canonical false answer = nest.PageFault
reply_if_canonical true answer = answer

-- The reply to an access of the guest: the host's mapping after the guest's. A node on the page's
-- path that can't be loaded faults before the guest's leaf does.
unfoldable pub nested : Guest → List Leaf → ℕ → Kind → NestReply
nested guest host va kind =
    reply_if_canonical (is_canonical mode.Sv39 va)
    (reply_if_loadable (list_all (is_loadable host) (guest_path guest (page_of mode.Sv39 va)))
    (guest_reply (frame_of (flat guest.stage.leaves mode.Sv39 0 va kind)) host kind))

-- The code of the guest-page fault of an access of this kind.
abbrev pub guest_code_of : Kind → ℕ
guest_code_of kind.Fetch = 20
guest_code_of kind.Load = 21
guest_code_of kind.Store = 23

-- The code of a reply's fault. A guest-page fault at a node has the code of the access, not that of
-- a load.
abbrev pub nest_code_of : NestReply → Kind → Option ℕ
nest_code_of (nest.Frame frame) kind = None
nest_code_of nest.PageFault kind = Some (code_of kind)
nest_code_of nest.GuestFault kind = Some (guest_code_of kind)

-- A stage with n more loads.
abbrev pub with_loads : ℕ → Stage → Stage
with_loads n stage = record stage { loads = plus stage.loads n }

-- A G cache filled with the leaf that was found, if one was.
abbrev pub with_found : Option Leaf → Cached Leaf → Cached Leaf
with_found None cache = cache
with_found (Some leaf) cache = with_fill leaf cache

-- The host after a look for a guest page in the G cache. A hit touches the leaf. A miss walks the
-- host's table from the page's root down to its last node, one load a node, and fills the cache
-- with a leaf found there, whether or not the leaf allows the access.
abbrev pub translated_by : Option Leaf → ℕ → Host → Host
translated_by (Some hit) g host = record host { cache = with_touch (covers_guest g) host.cache; hits = plus host.hits 1 }
translated_by None g host = record host {
  stage = with_loads (3 - end_level 2 0 (host_space g) (host_page g) host.stage.leaves) host.stage;
  cache = with_found (host_leaf g host.stage.leaves) host.cache;
}

-- The host after the translation of a guest page.
unfoldable pub translated : ℕ → Host → Host
translated g host = translated_by (find (covers_guest g) host.cache.items) g host
