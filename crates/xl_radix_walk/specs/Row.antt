-- A radix table with its walk caches.
use Rattle.std.specs.Prelude.{ℕ, zero, suc, ◌≡◌, ◌+◌, ◌-◌, ◌*◌, ◌/◌, ◌%◌, ◌<◌, ◌≤◌, ◌==◌, Bool, ◌&&◌, nat_le, nat_lt, if◌then◌else◌, List, [], ◌∷◌, map, length, slice_index, slice_index_or, is_some, not, Option, None, Some}
use Rattle.xl_model.specs.Nodes.{up, Node, number_of}
use Rattle.xl_model.specs.declared.row.Table.TheVariants as table
use Rattle.xl_model.specs.Caches.{Cached, Numbered, NodeCaches, reaches_space, empty_cache, opening_caches}
use Rattle.xl_model.specs.declared.event.Reach.{Reach}
use Rattle.xl_model.specs.declared.work.NoRoom.{NoRoom}
use Rattle.xl_model.specs.declared.work.Refused.{Refused}
use Rattle.xl_model.specs.Placing.{no_moves}
use Rattle.xl_model.specs.Base.{plus}
use Rattle.xl_model.specs.Mapping.{leaf_at_page}
use Rattle.xl_model.specs.Recency.{with_newest, purged}
use Rattle.xl_model.specs.Walks.{end_level, node_caches_after, start_level}
use Rattle.xl_model.specs.Shapes.{Radix, opening_shape}
use Rattle.xl_model.specs.Structures.{TableState, work_of}
use Rattle.xl_list_lemmas.specs.Members.{In}
use Rattle.xl_model.specs.declared.leaf.Leaf.{Leaf}
use Rattle.xl_pte.specs.declared.word.Pte.TheVariants as pte
use Rattle.xl_radix.specs.declared.walk_end.WalkEnd.{WalkEnd}
use Rattle.xl_radix.specs.declared.walk_end.WalkEnd.TheVariants as end
use Rattle.xl_radix.specs.ReadBack.{order_of, leaf_said}
use Rattle.xl_radix_walk.specs.declared.caches.Start.{Start}
use Rattle.xl_radix.specs.Table.{Table}
use Rattle.xl_radix.specs.Walk.{walk_end}
use Rattle.xl_recency.specs.declared.item.Item.{Item}

-- The tag of a page's node; prefixes are below 2^48. The item's word is the node's number.
abbrev pub tag_at : ℕ → ℕ → ℕ → ℕ
tag_at space level page = space * 281474976710656 + up (suc level) page

-- The item has this tag.
abbrev pub has_tag : ℕ → Item → Bool
has_tag tag item = item.tag == tag

-- The item of a tag and a number.
abbrev pub item_at : ℕ → ℕ → Item
item_at tag number = record { tag = tag; word = number }

-- What an item of the cache of this level says: a node with its number.
abbrev pub numbered_in : ℕ → Item → Numbered
numbered_in level item = record {
  node = record { space = item.tag / 281474976710656; level = level; prefix = item.tag % 281474976710656 };
  number = item.word;
}

-- What a cache of this level says.
abbrev pub cache_in : ℕ → Cached Item → Cached Numbered
cache_in level c = record { width = c.width; items = map (numbered_in level) c.items }

-- What the caches of the levels from this one on say.
abbrev pub caches_in : ℕ → List (Cached Item) → List (Cached Numbered)
caches_in level [] = []
caches_in level (c ∷ cs) = cache_in level c ∷ caches_in (level + 1) cs

-- The node of each tag has its number.
abbrev pub AllNumbered : ℕ → List (Option Node) → List Item → Type 0
AllNumbered level nodes items = (i : Item) → In i items → number_of (i.tag / 281474976710656) (suc level) (i.tag % 281474976710656) nodes ≡ Some i.word

-- The same of each cache of the levels from this one on.
abbrev pub AreNumbered : ℕ → List (Option Node) → List (Cached Item) → Type 0
AreNumbered level nodes [] = Unit {0}
AreNumbered level nodes (c ∷ cs) = AllNumbered level nodes c.items × AreNumbered (level + 1) nodes cs

-- A cache with one item more in front, if it is filled.
abbrev pub filled_one : Bool → ℕ → ℕ → Cached Item → Cached Item
filled_one fills tag number c = if fills then record c { items = with_newest c.width (item_at tag number) c.items } else c

-- The caches of the levels from this one on, filled with the nodes of a walk's path from below its
-- start down to the least level.
abbrev pub filled_caches : ℕ → ℕ → ℕ → ℕ → ℕ → List ℕ → List (Cached Item) → List (Cached Item)
filled_caches level start least space page path [] = []
filled_caches level start least space page path (c ∷ cs) =
    filled_one (nat_lt level start && nat_le least level) (tag_at space level page) (slice_index path (start - 1 - level)) c ∷ filled_caches (level + 1) start least space page path cs

-- These caches above `n` caches of width 0.
abbrev pub above_off : ℕ → List (Cached Item) → List (Cached Item)
above_off zero cs = cs
above_off (suc n) cs = empty_cache 0 ∷ above_off n cs

-- The cache of level 0 held the page's node, which has this number, and the node was touched there.
pub record IsLowest (space page : ℕ) (old new : List (Cached Item)) (node : ℕ) : Type 0 where
  pub start : start_level 0 space page (caches_in 0 old) ≡ 0
  pub caches : caches_in 0 new ≡ node_caches_after 0 0 None space page [] (caches_in 0 old)
  pub size : length new ≡ length old
  pub low : 0 < length old
  pub number : (nodes : List (Option Node)) → AreNumbered 0 nodes old → number_of space 1 (up 1 page) nodes ≡ Some node
  pub kept : (nodes : List (Option Node)) → AreNumbered 0 nodes old → AreNumbered 0 nodes new

-- None of these caches has a width.
abbrev pub AreOff : List (Cached Item) → Type 0
AreOff cs = cs ≡ above_off (length cs) []

-- A walk that starts at this level fills none of these caches.
pub record FillsNone (start : ℕ) (cs : List (Cached Item)) : Type 0 where
  pub stay : (least space page : ℕ) (path : List ℕ) → filled_caches 0 start least space page path cs ≡ cs

-- A row: its table and its caches, level 0 first.
pub record RowState : Type 0 where
  pub radix : Table
  pub caches : List (Cached Item)

-- The row of a table and caches.
abbrev pub row_of : Table → List (Cached Item) → RowState
row_of radix caches = record { radix = radix; caches = caches }

-- A row of `n` levels as the layers above see it.
abbrev pub row_table : ℕ → RowState → TableState
row_table levels r = record {
  leaves = r.radix.leaves;
  shape = Radix levels r.radix.spaces r.radix.nodes;
  caches = NodeCaches (caches_in 0 r.caches);
  loads = r.radix.loads;
}

-- What a row keeps: 3 to 5 levels, a cache for each level of nodes below the root, and the node of
-- each tag is there, with its number, at the level of its cache.
pub record IsRow (levels : ℕ) (r : RowState) : Type 0 where
  pub high : 3 ≤ levels
  pub low : levels ≤ 5
  pub caches : length r.caches + 1 ≡ levels
  pub numbered : AreNumbered 0 r.radix.nodes r.caches

-- The path of a walk has the numbers of the page's nodes, from below its start down to where it
-- ended.
pub record IsPath (least start space page : ℕ) (path : List ℕ) (nodes : List (Option Node)) : Type 0 where
  pub same : (h : ℕ) → least ≤ h → h < start → number_of space (suc h) (up (suc h) page) nodes ≡ Some (slice_index path (start - 1 - h))

-- Where a walk starts: at the node that a cache held, else at the root.
abbrev pub start_or : ℕ → ℕ → Option Start → Start
start_or levels space None = record { level = levels - 1; node = space }
start_or levels space (Some s) = s

-- The leaf that the end of a walk says.
abbrev pub leaf_known : ℕ → ℕ → WalkEnd → Option Leaf
leaf_known space page (end.Leaf level frame perm) = leaf_said space (up level page) (order_of level) (pte.Leaf frame perm)
leaf_known space page (end.Invalid level) = None
leaf_known space page (end.Reserved level) = None
leaf_known space page (end.Misaligned level) = None
leaf_known space page (end.OutOfBus level) = None

-- The caches after a walk: one that ended at a leaf fills them, another leaves them.
abbrev pub filled_by : WalkEnd → ℕ → ℕ → ℕ → List ℕ → List (Cached Item) → List (Cached Item)
filled_by (end.Leaf level frame perm) start space page path cs = filled_caches 0 start level space page path cs
filled_by (end.Invalid level) start space page path cs = cs
filled_by (end.Reserved level) start space page path cs = cs
filled_by (end.Misaligned level) start space page path cs = cs
filled_by (end.OutOfBus level) start space page path cs = cs

-- A straight walk from a node of this level found the page's leaf at level 0, and made a load for
-- each level.
pub record IsStraight (levels start space page : ℕ) (leaf : Leaf) (old new : Table) : Type 0 where
  pub found : leaf_at_page space page old.leaves ≡ Some leaf
  pub level : end_level (levels - 1) 0 space page old.leaves ≡ 0
  pub loads : new ≡ record old { loads = plus old.loads (start + 1) }

-- A walk from a node of this level: it finds the page's leaf, makes a load for each level down to
-- the end of the page's nodes, and fills the caches by its path.
pub record IsWalked (levels start space page : ℕ) (found : Option Leaf) (old : Table) (caches : List (Cached Item)) (new : Table) (after : List (Cached Item)) : Type 0 where
  pub leaf : found ≡ leaf_at_page space page old.leaves
  pub loads : new ≡ record old { loads = plus old.loads (start - end_level (levels - 1) 0 space page old.leaves + 1) }
  pub filled : (path : List ℕ) × IsPath (end_level (levels - 1) 0 space page old.leaves) start space page path old.nodes
      × (after ≡ filled_by (walk_end found (end_level (levels - 1) 0 space page old.leaves)) start space page path caches)

-- No node has the item's number any more.
abbrev pub is_gone : List (Option Node) → Item → Bool
is_gone nodes item = not (is_some (slice_index_or nodes item.word None))

-- The caches without the items whose numbers no node has.
abbrev pub purged_caches : List (Option Node) → List (Cached Item) → List (Cached Item)
purged_caches nodes [] = []
purged_caches nodes (c ∷ cs) = record c { items = purged (is_gone nodes) c.items } ∷ purged_caches nodes cs

-- How many items the caches hold.
abbrev pub entries_of : List (Cached Item) → ℕ
entries_of [] = 0
entries_of (c ∷ cs) = length c.items + entries_of cs

-- A fence reaches the item: the space of its node.
abbrev pub is_fenced : Reach → Item → Bool
is_fenced to item = reaches_space to (item.tag / 281474976710656)

-- The caches without the items that a fence reaches.
abbrev pub fenced_caches : Reach → List (Cached Item) → List (Cached Item)
fenced_caches to [] = []
fenced_caches to (c ∷ cs) = record c { items = purged (is_fenced to) c.items } ∷ fenced_caches to cs

-- A change that is refused for this cause, without any work.
abbrev pub refused_for : NoRoom → Refused
refused_for why = record { why = why; work = work_of no_moves 0 }

-- A row in which nothing was mapped: it has the roots alone, empty caches of these widths, and made
-- no load.
abbrev pub opening_table : ℕ → ℕ → ℕ → List ℕ → TableState
opening_table levels frames spaces widths = record {
  leaves = [];
  shape = opening_shape levels spaces (table.Radix frames widths);
  caches = opening_caches levels (table.Radix frames widths);
  loads = 0;
}
