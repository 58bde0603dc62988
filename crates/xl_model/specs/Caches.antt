-- Walk caches: what they hold, and what purges and fences take from them.
use Rattle.std.specs.Prelude.{ℕ, zero, suc, ◌+◌, ◌-◌, ◌==◌, Bool, true, false, not, List, [], ◌∷◌, length, Option, None, Some}
use Rattle.xl_model.specs.declared.address.Order.{Order}
use Rattle.xl_model.specs.declared.address.Order.TheVariants as order
use Rattle.xl_model.specs.declared.leaf.Leaf.{Leaf}
use Rattle.xl_model.specs.declared.leaf.Range.{Range}
use Rattle.xl_model.specs.declared.event.Reach.{Reach}
use Rattle.xl_model.specs.declared.event.Reach.TheVariants as reach
use Rattle.xl_model.specs.declared.row.Table.{Table}
use Rattle.xl_model.specs.declared.row.Table.TheVariants as table
use Rattle.xl_model.specs.Recency.{purged}
use Rattle.xl_model.specs.Changes.{Change, old_leaf, changed}
use Rattle.xl_model.specs.Nodes.{Node, is_needed}
use Rattle.xl_model.specs.Sections.{Section, section_of, same_section}
use Rattle.xl_model.specs.Ranges.{holds_page}
use Rattle.xl_model.specs.Shapes.{Shape, Radix, Cuckoo, Runs, ways_of, CuckooWays}

-- a recency list of a width, newest first
pub record Cached (A : Type 0) : Type 0 where
  pub width : ℕ
  pub items : List A

-- a node with its number
pub record Numbered : Type 0 where
  pub node : Node
  pub number : ℕ

-- The walk caches of a table, by its kind.
pub data Caches : Type 0 where
  -- one cache per node level, level 0 first
  NodeCaches : (levels : List (Cached Numbered)) → Caches
  -- the caches of 2 MiB and of 1 GiB sections
  SectionCaches : (m2 : Cached Section) → (g1 : Cached Section) → Caches
  RangeCache : (ranges : Cached Range) → Caches
  NoCaches : Caches

-- A cache without the items that pass a test.
abbrev pub without_items : {A : Type 0} → (A → Bool) → Cached A → Cached A
without_items p c = record c { items = purged p c.items }

-- Each cache without them.
abbrev pub all_without : {A : Type 0} → (A → Bool) → List (Cached A) → List (Cached A)
all_without p [] = []
all_without p (c ∷ cs) = without_items p c ∷ all_without p cs

-- How many items the caches of all levels hold.
abbrev pub items_in : List (Cached Numbered) → ℕ
items_in [] = 0
items_in (c ∷ cs) = length c.items + items_in cs

-- how many entries the caches hold
abbrev pub entries_in : Caches → ℕ
entries_in (NodeCaches levels) = items_in levels
entries_in (SectionCaches m2 g1) = length m2.items + length g1.items
entries_in (RangeCache ranges) = length ranges.items
entries_in NoCaches = 0

-- a section that isn't as it was
abbrev pub has_changed : Order → List Leaf → CuckooWays → List Leaf → CuckooWays → Section → Bool
has_changed size before ways after new_ways s =
    not (same_section (section_of size s.space s.block before (ways_of size ways))
    (section_of size s.space s.block after (ways_of size new_ways)))

-- A range holds the old leaf's first page.
abbrev pub holds_first : Option Leaf → Range → Bool
holds_first None r = false
holds_first (Some leaf) r = holds_page leaf.space leaf.first r

-- The precise purge of an accepted command: node tags of nodes that the mapping no longer needs,
-- sections that aren't as they were, and ranges that hold the old leaf's first page.
unfoldable pub caches_purged : Change → List Leaf → Shape → Shape → Caches → Caches
caches_purged c leaves before (Radix levels spaces nodes) (NodeCaches cs) =
    NodeCaches (all_without (λ e. not (is_needed levels (changed c leaves) e.node)) cs)
caches_purged c leaves (Cuckoo old_rules ways) (Cuckoo rules new_ways) (SectionCaches m2 g1) =
    SectionCaches (without_items (has_changed order.M2 leaves ways (changed c leaves) new_ways) m2)
    (without_items (has_changed order.G1 leaves ways (changed c leaves) new_ways) g1)
caches_purged c leaves before (Runs limit) (RangeCache ranges) = RangeCache (without_items (holds_first (old_leaf c leaves)) ranges)
caches_purged c leaves before after caches = caches

-- what a fence reaches; of nodes and sections a fence by address or by page takes none
abbrev pub reaches_space : Reach → ℕ → Bool
reaches_space reach.All space = true
reaches_space (reach.Space s) space = space == s
reaches_space (reach.Addr page) space = false
reaches_space (reach.Page s page) space = false

-- A fence reaches a cached range: by its space, or by a page that it holds.
abbrev pub reaches_range : Reach → Range → Bool
reaches_range reach.All r = true
reaches_range (reach.Space s) r = r.space == s
reaches_range (reach.Addr page) r = holds_page r.space page r
reaches_range (reach.Page s page) r = holds_page s page r

-- The caches after a fence: what it reaches has left.
unfoldable pub caches_fenced : Reach → Caches → Caches
caches_fenced to (NodeCaches cs) = NodeCaches (all_without (λ e. reaches_space to e.node.space) cs)
caches_fenced to (SectionCaches m2 g1) =
    SectionCaches (without_items (λ s. reaches_space to s.space) m2) (without_items (λ s. reaches_space to s.space) g1)
caches_fenced to (RangeCache ranges) = RangeCache (without_items (reaches_range to) ranges)
caches_fenced to NoCaches = NoCaches

-- An empty cache of a width.
abbrev pub empty_cache : {A : Type 0} → ℕ → Cached A
empty_cache width = record { width = width; items = [] }

-- caches of the first widths, as many as said
abbrev pub empty_caches : {A : Type 0} → ℕ → List ℕ → List (Cached A)
empty_caches zero widths = []
empty_caches (suc n) [] = []
empty_caches (suc n) (width ∷ widths) = empty_cache width ∷ empty_caches n widths

-- The two empty caches of a cuckoo table, 2 MiB sections first.
abbrev pub section_caches : List ℕ → Caches
section_caches (m2 ∷ g1 ∷ widths) = SectionCaches (empty_cache m2) (empty_cache g1)
section_caches widths = SectionCaches (empty_cache 0) (empty_cache 0)

-- The empty caches of a table that is opened.
unfoldable pub opening_caches : ℕ → Table → Caches
opening_caches levels (table.Radix frames widths) = NodeCaches (empty_caches (levels - 1) widths)
opening_caches levels (table.Hashed buckets entries) = NoCaches
opening_caches levels (table.Clustered buckets blocks) = NoCaches
opening_caches levels (table.Cuckoo ways start cap threshold kick_limit migrate sections_2m sections_1g widths) = section_caches widths
opening_caches levels (table.Range ranges width) = RangeCache (empty_cache width)
