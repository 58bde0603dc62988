-- What guest and host keep.
use Rattle.std.specs.Prelude.{ℕ, ◌≡◌, ◌+◌, ◌^◌, ◌≤◌, true, Bool, List, [], length}
use Rattle.xl_model.specs.declared.address.Mode.TheVariants as mode
use Rattle.xl_model.specs.declared.leaf.Leaf.{Leaf}
use Rattle.xl_model.specs.declared.row.Purge.TheVariants as purge
use Rattle.xl_model.specs.declared.row.Table.TheVariants as table
use Rattle.xl_model.specs.Addresses.{pages_of}
use Rattle.xl_model.specs.Caches.{Cached}
use Rattle.xl_model.specs.Mapping.{covers}
use Rattle.xl_model.specs.Rows.{Row}
use Rattle.xl_model.specs.Shapes.{Radix}
use Rattle.xl_nested_model.specs.Stages.{Stage, Host, nodes_in}
use Rattle.xl_model.specs.Structures.{spaces_of, page_limit}
use Rattle.xl_model_lemmas.specs.Mappings.{IsMapping}
use Rattle.xl_list_lemmas.specs.Members.{In}
use Rattle.xl_model_lemmas.specs.Pools.{IsPoolOf}
use Rattle.xl_radix.specs.Table.{Table}

-- A stage by its table.
abbrev pub stage_of : Table → Stage
stage_of t = record { leaves = t.leaves; shape = Radix 3 t.spaces t.nodes; loads = t.loads }

-- No two leaves of a space cover the same page.
abbrev pub AreApart : List Leaf → Type 0
AreApart leaves = (x y : Leaf) (page : ℕ) → In x leaves → In y leaves → covers x.space page x ≡ true → covers x.space page y ≡ true → x ≡ y

-- A stage of `spaces` spaces, each of 2^27 pages.
pub record IsStage (spaces : ℕ) (stage : Stage) : Type 0 where
  pub spaces_are : spaces_of stage.shape ≡ spaces
  pub pages_are : page_limit stage.shape ≡ 2 ^ 27

-- The guest has one space. Its nodes lie in guest pages, and the frames of its leaves are guest pages: all are
-- below 2^29.
pub record IsGuest (base : ℕ) (stage : Stage) : Type 0 where
  pub stage_is : IsStage 1 stage
  pub low_nodes : base + length (nodes_in stage.shape) ≤ 2 ^ 29
  pub low_frames : (x : Leaf) → In x stage.leaves → x.frame + pages_of x.order ≤ 2 ^ 29

-- A row with this number of frames, whose rules for a mapping are the host's.
abbrev pub host_row : ℕ → Row
host_row frames = record {
  name = [];
  mode = mode.Sv39;
  frames = frames;
  spaces = 4;
  purge = purge.Page;
  table = table.Radix 4 [];
  tlb = [];
}

-- The host with this table, this pool of frames, and this G cache with its hits.
abbrev pub host_of : Stage → List Bool → Cached Leaf → ℕ → Host
host_of stage pool cache hits = record { frames = length pool; stage = stage; cache = cache; hits = hits }

-- The host has four spaces. Its leaves are a mapping, their frames are those that aren't free in the pool, and the
-- G cache holds some of its leaves.
pub record IsHost (stage : Stage) (pool : List Bool) (cache : Cached Leaf) : Type 0 where
  pub stage_is : IsStage 4 stage
  pub few : length pool ≤ 2 ^ 22
  pub mapping : IsMapping (host_row (length pool)) stage.leaves
  pub pool_is : IsPoolOf (length pool) stage.leaves pool
  pub fresh : (x : Leaf) → In x cache.items → In x stage.leaves
