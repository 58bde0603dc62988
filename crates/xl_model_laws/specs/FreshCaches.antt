-- Nothing stale in walk caches: nodes, sections and ranges are as the mapping and the shape have
-- them.
use Rattle.std.specs.Prelude.{List, None, Option, Some, [], slice_index_or, true, ℕ, ◌*◌, ◌+◌, ◌-◌, ◌∷◌, ◌≡◌}
use Rattle.xl_list_lemmas.specs.Members.{In}
use Rattle.xl_model.specs.Addresses.{pages_of}
use Rattle.xl_model.specs.Caches.{Cached, Caches, NodeCaches, Numbered, RangeCache, SectionCaches}
use Rattle.xl_model.specs.Mapping.{covers}
use Rattle.xl_model.specs.Nodes.{Node, is_needed}
use Rattle.xl_model.specs.Ranges.{holds_page}
use Rattle.xl_model.specs.Shapes.{Cuckoo, Radix, Runs, Shape}
use Rattle.xl_model.specs.declared.leaf.Leaf.{Leaf}
use Rattle.xl_model.specs.declared.leaf.Range.{Range}
use Rattle.xl_model_lemmas.specs.Fresh.{SectionsFresh}
use Rattle.xl_model.specs.declared.address.Order.TheVariants as order

-- a cached node is of its cache's level, the mapping needs it, and it has its number
pub record TagFresh (levels level : ℕ) (leaves : List Leaf) (nodes : List (Option Node)) (e : Numbered) : Type 0 where
  pub of_level : e.node.level ≡ level
  pub needed : is_needed levels leaves e.node ≡ true
  pub there : slice_index_or nodes e.number None ≡ Some e.node

-- the nodes cached for one level are fresh
abbrev pub LevelFresh : ℕ → ℕ → List Leaf → List (Option Node) → Cached Numbered → Type 0
LevelFresh levels level leaves nodes c =
    (e : Numbered) → In e c.items → TagFresh levels level leaves nodes e

-- the caches of this level and of those above it are fresh
abbrev pub TagsFresh : ℕ → ℕ → List Leaf → List (Option Node) → List (Cached Numbered) → Type 0
TagsFresh levels level leaves nodes [] = Unit {0}
TagsFresh levels level leaves nodes (c ∷ cs) =
    LevelFresh levels level leaves nodes c × TagsFresh levels (level + 1) leaves nodes cs

-- a page of a range is covered by a leaf of the range's order and permission, with the frame that
-- the range says
pub record PageCovered (leaves : List Leaf) (r : Range) (page : ℕ) : Type 0 where
  pub leaf : Leaf
  pub member : In leaf leaves
  pub covers_page : covers r.space page leaf ≡ true
  pub same_order : leaf.order ≡ r.order
  pub same_perm : leaf.perm ≡ r.perm
  pub same_frame : leaf.frame + (page - leaf.first) ≡ r.frame + (page - r.start)

-- a cached range is aligned as its leaves are, and each of its pages is covered
pub record RangeFresh (leaves : List Leaf) (r : Range) : Type 0 where
  pub aligned : (e : ℕ) × (r.start ≡ e * pages_of r.order)
  pub covered : (page : ℕ) → holds_page r.space page r ≡ true → PageCovered leaves r page

-- each range of a cache is fresh
abbrev pub RangesFresh : List Leaf → Cached Range → Type 0
RangesFresh leaves c = (r : Range) → In r c.items → RangeFresh leaves r

-- the walk caches of a table are fresh, each kind in its own way; a hashed or clustered table has
-- none
abbrev pub CachesFresh : Shape → Caches → List Leaf → Type 0
CachesFresh (Radix levels spaces nodes) (NodeCaches cs) leaves = TagsFresh levels 0 leaves nodes cs
CachesFresh (Cuckoo rules ways) (SectionCaches m2 g1) leaves =
    SectionsFresh order.M2 leaves ways.m2 m2 × SectionsFresh order.G1 leaves ways.g1 g1
CachesFresh (Runs limit) (RangeCache c) leaves = RangesFresh leaves c
CachesFresh shape kept leaves = Unit {0}
