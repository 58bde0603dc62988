-- One walk of a table: how many loads it makes, and what it touches and fills in the walk caches.
use Rattle.std.specs.Prelude.{ℕ, zero, suc, ◌+◌, ◌-◌, ◌/◌, ◌==◌, Bool, true, false, ◌&&◌, not, nat_le, nat_lt, if◌then◌else◌, List, [], ◌∷◌, find, length, is_some, Option, None, Some}
use Rattle.std.specs.List.{list_any}
use Rattle.xl_model.specs.declared.address.Order.{Order}
use Rattle.xl_model.specs.declared.address.Order.TheVariants as order
use Rattle.xl_model.specs.declared.leaf.Leaf.{Leaf}
use Rattle.xl_model.specs.declared.leaf.Range.{Range}
use Rattle.xl_model.specs.Base.{one_if, number_or_0}
use Rattle.xl_model.specs.Addresses.{level_of, pages_of, same_order}
use Rattle.xl_model.specs.Recency.{touched, with_newest}
use Rattle.xl_model.specs.Mapping.{leaf_at_page}
use Rattle.xl_model.specs.Nodes.{Node, node_at, up, in_nodes, number_of}
use Rattle.xl_model.specs.Chains.{tag_of, chain_of, bucket_of, examined, has_tag}
use Rattle.xl_model.specs.Sections.{Section, section_of, is_section, holds}
use Rattle.xl_model.specs.Ranges.{ranges_of, holds_page, range_reads}
use Rattle.xl_model.specs.Shapes.{Shape, Radix, Chained, Cuckoo, Runs, CuckooWays, ways_of}
use Rattle.xl_model.specs.Caches.{Caches, NodeCaches, SectionCaches, RangeCache, Cached, Numbered}

-- the result of a walk: its loads, its cache hits, and the caches after it
pub record Walked : Type 0 where
  pub reads : ℕ
  pub cache_hits : ℕ
  pub caches : Caches

-- A cache whose newest item that passes a test is in front.
abbrev pub with_touch : {A : Type 0} → (A → Bool) → Cached A → Cached A
with_touch p c = record c { items = touched p c.items }

-- A cache with an item in front; it keeps as many as its width says.
abbrev pub with_fill : {A : Type 0} → A → Cached A → Cached A
with_fill x c = record c { items = with_newest c.width x c.items }

-- Radix. A tag is that of the page's node at its level.
abbrev pub is_tag : ℕ → ℕ → Numbered → Bool
is_tag space prefix e = (e.node.space == space) && (e.node.prefix == prefix)

-- the least level, from this one on, whose cache holds the page's node; else the level past them
-- all, the root's
abbrev pub start_level : ℕ → ℕ → ℕ → List (Cached Numbered) → ℕ
start_level level space page [] = level
start_level level space page (c ∷ cs) =
    if list_any (is_tag space (up (suc level) page)) c.items then level else start_level (level + 1) space page cs

-- the least level, from this one on, whose node for the page the mapping needs; else the root's
abbrev pub end_level : ℕ → ℕ → ℕ → ℕ → List Leaf → ℕ
end_level zero level space page leaves = level
end_level (suc n) level space page leaves =
    if in_nodes space (suc level) (up (suc level) page) leaves then level else end_level n (level + 1) space page leaves

-- A page's node of this level, with its number.
abbrev pub numbered : ℕ → ℕ → ℕ → List (Option Node) → Numbered
numbered level space page nodes =
    record { node = node_at space level page; number = number_or_0 (number_of space (suc level) (up (suc level) page) nodes) }

-- the cache that hit is touched; those below it, down to the leaf's level, are filled
abbrev pub node_cache_after : ℕ → ℕ → Option Leaf → ℕ → ℕ → List (Option Node) → Cached Numbered → Cached Numbered
node_cache_after level start None space page nodes c =
    if level == start then with_touch (is_tag space (up (suc level) page)) c else c
node_cache_after level start (Some leaf) space page nodes c =
    if level == start
    then with_touch (is_tag space (up (suc level) page)) c
    else (if nat_lt level start && nat_le (level_of leaf.order) level then with_fill (numbered level space page nodes) c else c)

-- The caches of the levels from this one on, after a walk that began at a level.
abbrev pub node_caches_after : ℕ → ℕ → Option Leaf → ℕ → ℕ → List (Option Node) → List (Cached Numbered) → List (Cached Numbered)
node_caches_after level start found space page nodes [] = []
node_caches_after level start found space page nodes (c ∷ cs) =
    node_cache_after level start found space page nodes c ∷ node_caches_after (level + 1) start found space page nodes cs

-- A walk that began at a level: a load for each level down to where the path ends, and a hit unless
-- it began at the root.
abbrev pub radix_walk_from : ℕ → ℕ → Option Leaf → List Leaf → List (Option Node) → List (Cached Numbered) → ℕ → ℕ → Walked
radix_walk_from levels start found leaves nodes cs space page = record {
  reads = start - end_level (levels - 1) 0 space page leaves + 1;
  cache_hits = one_if (nat_lt start (length cs));
  caches = NodeCaches (node_caches_after 0 start found space page nodes cs);
}

-- Hashed and clustered. An order is tried by its chain, up to and with the order of the page's
-- leaf; a clustered table reads one line more where the block is found.
abbrev pub slot_read : ℕ → Bool → ℕ
slot_read group found = if group == 1 then 0 else one_if found

-- The loads of a search for a tag: its bucket's head, the entries examined, and a slot where there
-- are slots.
abbrev pub chain_reads : ℕ → ℕ → List ℕ → ℕ → ℕ
chain_reads group buckets tags tag =
    1 + (examined tag (chain_of buckets (bucket_of buckets tag) tags) + slot_read group (has_tag tags tag))

-- The orders that are tried where the leaf of the last of them is found.
abbrev pub orders_up_to : Order → List Order
orders_up_to order.K4 = order.K4 ∷ []
orders_up_to order.M2 = order.K4 ∷ order.M2 ∷ []
orders_up_to order.G1 = order.K4 ∷ order.M2 ∷ order.G1 ∷ []

-- The orders that a walk tries: up to that of the leaf, or all.
abbrev pub orders_tried : Option Leaf → List Order
orders_tried None = order.K4 ∷ order.M2 ∷ order.G1 ∷ []
orders_tried (Some leaf) = orders_up_to leaf.order

-- The loads of a walk that tries these orders.
abbrev pub chains_reads : ℕ → ℕ → List ℕ → ℕ → ℕ → List Order → ℕ
chains_reads group buckets tags space page [] = 0
chains_reads group buckets tags space page (o ∷ os) =
    chain_reads group buckets tags (tag_of group space o page) + chains_reads group buckets tags space page os

-- Cuckoo. The orders left possible by the cached sections of the page are probed: one way alone
-- where a cached section is the leaf of that order, else every way.
abbrev pub leaves_possible : Option Section → Order → Bool
leaves_possible None o = true
leaves_possible (Some s) o = holds s o

-- A cached section is a leaf of this order.
abbrev pub is_leaf_section : Order → Option Section → Bool
is_leaf_section o None = false
is_leaf_section o (Some s) = holds s o

-- A cached section says the way of this order's leaf.
abbrev pub way_known : Order → Option Section → Option Section → Bool
way_known order.K4 m2 g1 = false
way_known order.M2 m2 g1 = is_leaf_section order.M2 m2
way_known order.G1 m2 g1 = is_leaf_section order.G1 g1

-- How many ways of an order are probed: none where a cached section rules it out, one where the way
-- is known, else all.
abbrev pub probes : ℕ → Option Section → Option Section → Order → ℕ
probes count m2 g1 o =
    if leaves_possible m2 o && leaves_possible g1 o then (if way_known o m2 g1 then 1 else count) else 0

-- The section of this order in which a page lies.
abbrev pub section_of_page : Order → ℕ → ℕ → List Leaf → CuckooWays → Section
section_of_page size space page leaves ways = section_of size space (page / pages_of size) leaves (ways_of size ways)

-- A section is that in which a page lies.
abbrev pub is_page_section : Order → ℕ → ℕ → Section → Bool
is_page_section size space page s = is_section space (page / pages_of size) s

-- a section that hit is touched; where it is absent and the walk finds a leaf, it is filled
abbrev pub section_after : Order → ℕ → ℕ → List Leaf → CuckooWays → Bool → Option Section → Cached Section → Cached Section
section_after size space page leaves ways fills (Some hit) c = with_touch (is_page_section size space page) c
section_after size space page leaves ways false None c = c
section_after size space page leaves ways true None c = with_fill (section_of_page size space page leaves ways) c

-- A walk fills the cache of 2 MiB sections: it found a leaf that is not of 1 GiB.
abbrev pub fills_m2 : Option Leaf → Bool
fills_m2 None = false
fills_m2 (Some leaf) = not (same_order leaf.order order.G1)

-- A walk by what the two caches hold of the page.
abbrev pub cuckoo_walk_by : Option Section → Option Section → Option Leaf → List Leaf → CuckooWays → Cached Section → Cached Section → ℕ → ℕ → Walked
cuckoo_walk_by hit2 hit1 found leaves ways m2 g1 space page = record {
  reads = probes (length ways.k4) hit2 hit1 order.K4 + (probes (length ways.k4) hit2 hit1 order.M2 + probes (length ways.k4) hit2 hit1 order.G1);
  cache_hits = one_if (is_some hit2) + one_if (is_some hit1);
  caches = SectionCaches (section_after order.M2 space page leaves ways (fills_m2 found) hit2 m2)
      (section_after order.G1 space page leaves ways (is_some found) hit1 g1);
}

-- Range. A hit in the newest cached range that holds the page needs no load.
abbrev pub with_range : Option Range → Cached Range → Cached Range
with_range None c = c
with_range (Some r) c = with_fill r c

-- A walk by the cached range that holds the page, if there is one.
abbrev pub range_walk_by : Option Range → List Range → Cached Range → ℕ → ℕ → Walked
range_walk_by (Some hit) ranges c space page =
    record { reads = 0; cache_hits = 1; caches = RangeCache (with_touch (holds_page space page) c) }
range_walk_by None ranges c space page = record {
  reads = range_reads ranges space page;
  cache_hits = 0;
  caches = RangeCache (with_range (find (holds_page space page) ranges) c);
}

-- A walk of a page of a space, by the kind of table.
unfoldable pub walked : Shape → Caches → List Leaf → ℕ → ℕ → Walked
walked (Radix levels spaces nodes) (NodeCaches cs) leaves space page =
    radix_walk_from levels (start_level 0 space page cs) (leaf_at_page space page leaves) leaves nodes cs space page
walked (Cuckoo rules ways) (SectionCaches m2 g1) leaves space page =
    cuckoo_walk_by (find (is_page_section order.M2 space page) m2.items) (find (is_page_section order.G1 space page) g1.items)
    (leaf_at_page space page leaves) leaves ways m2 g1 space page
walked (Runs limit) (RangeCache c) leaves space page =
    range_walk_by (find (holds_page space page) c.items) (ranges_of leaves) c space page
walked (Chained group buckets entries tags) caches leaves space page = record {
  reads = chains_reads group buckets tags space page (orders_tried (leaf_at_page space page leaves));
  cache_hits = 0;
  caches = caches;
}
walked shape caches leaves space page = record { reads = 0; cache_hits = 0; caches = caches }
