-- Radix tables, each row worked out by hand: which caches a walk fills, and the numbers of nodes.
use Rattle.std.specs.Prelude.{List, [], ◌∷◌}
use Rattle.xl_model.specs.declared.address.Mode.TheVariants as mode
use Rattle.xl_model.specs.declared.address.Order.TheVariants as order
use Rattle.xl_model.specs.declared.address.Kind.TheVariants as kind
use Rattle.xl_model.specs.declared.event.Event.TheVariants as event
use Rattle.xl_model.specs.declared.row.Table.TheVariants as table
use Rattle.xl_model.specs.Rows.{Row}
use Rattle.xl_model.specs.declared.script.Item.{Item}
use Rattle.xl_model.specs.declared.script.Item.TheVariants.{Command, Referenced}
use Rattle.xl_model_rows.specs.Plain.{plain_row, perm_r__u, perm_rw_u, perm_rwxu, perm_r_xu}

-- Walk caches of four tags for levels 0 and 1. The walk of the 2 MiB leaf at page 512 reads the
-- root and the node of level 1: 2 loads; it fills the cache of level 1 and not that of level 0.
-- Page 513: level 0 has no tag, level 1 hits: 1 load. Page 1, a 4 KiB leaf below the same node of
-- level 1: level 1 hits, 2 loads, and level 0 is filled. Page 1 again: level 0 hits, 1 load. Loads
-- 2 + 1 + 2 + 1 = 6, 3 cache hits. The frames are 0 and 512: the addresses are 0 + 1000 + 200000 +
-- 200000 = 401000.
abbrev pub a_large_leaf_fills_one_cache_rows : List Row
a_large_leaf_fills_one_cache_rows = (record plain_row { frames = 1024; table = table.Radix 64 (4 ∷ 4 ∷ 0 ∷ 0 ∷ []) }) ∷ []

-- What is served then.
abbrev pub a_large_leaf_fills_one_cache_items : List Item
a_large_leaf_fills_one_cache_items =
    (Command (event.Map 0 2097152 order.M2 perm_r__u)) ∷
    (Command (event.Map 0 4096 order.K4 perm_r__u)) ∷
    (Referenced 1 2097152 kind.Load) ∷
    (Referenced 2 2101248 kind.Load) ∷
    (Referenced 3 4096 kind.Load) ∷
    (Referenced 4 4096 kind.Load) ∷ []

-- The walk of a 2 MiB leaf, 2 loads, fills the tag of level 1 alone. At its unmap that node goes: 1
-- removed. The access after it reads the root's empty word: 1 load.
abbrev pub the_tags_of_a_large_leaf_rows : List Row
the_tags_of_a_large_leaf_rows = (record plain_row { frames = 1024; table = table.Radix 64 (4 ∷ 4 ∷ 0 ∷ 0 ∷ []) }) ∷ []

-- What is served then.
abbrev pub the_tags_of_a_large_leaf_items : List Item
the_tags_of_a_large_leaf_items =
    (Command (event.Map 0 2097152 order.M2 perm_r__u)) ∷
    (Referenced 1 2097152 kind.Load) ∷
    (Command (event.Unmap 0 2097152 order.M2)) ∷
    (Referenced 2 2097152 kind.Load) ∷ []

-- The root's word is the leaf: each walk is 1 load, fills nothing and hits nothing, and nothing
-- leaves at the unmap. The leaf's frame is 0; page 262145 is its second: the addresses are 0 +
-- 1000.
abbrev pub a_1g_leaf_fills_no_cache_rows : List Row
a_1g_leaf_fills_no_cache_rows = (record plain_row { frames = 262144; table = table.Radix 64 (4 ∷ 4 ∷ 0 ∷ 0 ∷ []) }) ∷ []

-- What is served then.
abbrev pub a_1g_leaf_fills_no_cache_items : List Item
a_1g_leaf_fills_no_cache_items =
    (Command (event.Map 0 1073741824 order.G1 perm_r__u)) ∷
    (Referenced 1 1073741824 kind.Load) ∷
    (Referenced 2 1073745920 kind.Load) ∷
    (Command (event.Unmap 0 1073741824 order.G1)) ∷ []

-- Sv48, walk caches of four tags for levels 0, 1 and 2. Page 1: 4 loads, tags of levels 2, 1 and 0
-- are filled. Page 513: level 0 has no tag for it, level 1 hits; 2 loads; level 0 alone is filled.
-- Now there are 2 + 1 + 1 tags. The unmap of page 1 frees its node of level 0: 1 removed. That of
-- page 513 frees the others: 3 removed. The frames are 0 and 1.
abbrev pub a_walk_from_the_middle_fills_below_rows : List Row
a_walk_from_the_middle_fills_below_rows = (record plain_row { mode = mode.Sv48; table = table.Radix 64 (4 ∷ 4 ∷ 4 ∷ 0 ∷ []) }) ∷ []

-- What is served then.
abbrev pub a_walk_from_the_middle_fills_below_items : List Item
a_walk_from_the_middle_fills_below_items =
    (Command (event.Map 0 4096 order.K4 perm_r__u)) ∷
    (Command (event.Map 0 2101248 order.K4 perm_r__u)) ∷
    (Referenced 1 4096 kind.Load) ∷
    (Referenced 2 2101248 kind.Load) ∷
    (Command (event.Unmap 0 4096 order.K4)) ∷
    (Command (event.Unmap 0 2101248 order.K4)) ∷ []

-- Two tags of level 0 and none of level 1. Pages 1, 513 and 1025 lie below three nodes of level 0.
-- Page 1: 3 loads, [1]. Page 513: 3 loads, [513, 1]. Page 1: hits, 1 load, [1, 513]. Page 1025: 3
-- loads, [1025, 1]. Page 1: hits, 1 load. Page 513: 3 loads. Loads 3 + 3 + 1 + 3 + 1 + 3 = 14. The
-- frames are 0, 1 and 2: the addresses are 0 + 1000 + 0 + 2000 + 0 + 1000 = 4000.
abbrev pub a_touch_of_a_node_tag_rows : List Row
a_touch_of_a_node_tag_rows = (record plain_row { table = table.Radix 64 (2 ∷ 0 ∷ 0 ∷ 0 ∷ []) }) ∷ []

-- What is served then.
abbrev pub a_touch_of_a_node_tag_items : List Item
a_touch_of_a_node_tag_items =
    (Command (event.Map 0 4096 order.K4 perm_r__u)) ∷
    (Command (event.Map 0 2101248 order.K4 perm_r__u)) ∷
    (Command (event.Map 0 4198400 order.K4 perm_r__u)) ∷
    (Referenced 1 4096 kind.Load) ∷
    (Referenced 2 2101248 kind.Load) ∷
    (Referenced 3 4096 kind.Load) ∷
    (Referenced 4 4198400 kind.Load) ∷
    (Referenced 5 4096 kind.Load) ∷
    (Referenced 6 2101248 kind.Load) ∷ []

-- Page 1: 3 loads, tags of levels 1 and 0. Page 5: level 0 hits, its word is empty, 1 load. Page
-- 517: level 1 hits, its word is empty, 1 load. Page 262149, in the next GiB: no hit, the root's
-- word is empty, 1 load. None of them fills: at the unmap of page 1 two tags leave. Loads 3 + 1 + 1
-- + 1 = 6.
abbrev pub unmapped_pages_below_cached_nodes_rows : List Row
unmapped_pages_below_cached_nodes_rows = (record plain_row { table = table.Radix 64 (4 ∷ 4 ∷ 0 ∷ 0 ∷ []) }) ∷ []

-- What is served then.
abbrev pub unmapped_pages_below_cached_nodes_items : List Item
unmapped_pages_below_cached_nodes_items =
    (Command (event.Map 0 4096 order.K4 perm_r__u)) ∷
    (Referenced 1 4096 kind.Load) ∷
    (Referenced 2 20480 kind.Load) ∷
    (Referenced 3 2117632 kind.Load) ∷
    (Referenced 4 1073762304 kind.Load) ∷
    (Command (event.Unmap 0 4096 order.K4)) ∷ []

-- The roots of the two spaces are nodes 0 and 1. Page 1 makes its node of level 1, number 2, then
-- that of level 0, number 3. Page 513 makes a node of level 0, number 4. The unmap of page 1 frees
-- number 3 and frame 0. Page 262145, in the next GiB, makes a node of level 1, which takes 3, the
-- lowest free number, and one of level 0, number 5; its frame is 0. Words: a pointer to node n is n
-- * 400 + 1, a leaf of frame f is f * 400 + d3 (V, R, U, A and D), hexadecimal. Root 0 points at
-- index 0 to node 2 (801) and at index 1 to node 3 (c01). Node 2 points at index 1 to node 4
-- (1001), node 3 at index 0 to node 5 (1401). Node 4 has at index 1 page 513's leaf, frame 1 (4d3);
-- node 5 at index 1 that of page 262145, frame 0 (d3).
abbrev pub a_freed_number_taken_again_rows : List Row
a_freed_number_taken_again_rows = plain_row ∷ []

-- What is served then.
abbrev pub a_freed_number_taken_again_items : List Item
a_freed_number_taken_again_items =
    (Command (event.Map 0 4096 order.K4 perm_r__u)) ∷
    (Command (event.Map 0 2101248 order.K4 perm_r__u)) ∷
    (Command (event.Unmap 0 4096 order.K4)) ∷
    (Command (event.Map 0 1073745920 order.K4 perm_r__u)) ∷ []

-- Page 1 makes nodes 2 and 3. Its move to page 262145 makes a node of level 1, number 4, and one of
-- level 0, number 5, and then frees 2 and 3; the frame stays 0. Page 513 then makes a node of level
-- 1, number 2, and one of level 0, number 3; its frame is 1. Root 0: index 0 to node 2 (801), index
-- 1 to node 4 (1001). Node 2: index 1 to node 3 (c01). Node 3: index 1 the leaf of frame 1 (4d3).
-- Node 4: index 0 to node 5 (1401). Node 5: index 1 the leaf of frame 0 (d3).
abbrev pub a_move_makes_before_it_frees_rows : List Row
a_move_makes_before_it_frees_rows = plain_row ∷ []

-- What is served then.
abbrev pub a_move_makes_before_it_frees_items : List Item
a_move_makes_before_it_frees_items =
    (Command (event.Map 0 4096 order.K4 perm_r__u)) ∷
    (Command (event.Move 0 4096 1073745920 order.K4)) ∷
    (Command (event.Map 0 2101248 order.K4 perm_r__u)) ∷ []

-- A 2 MiB leaf at page 1024 of space 1, frame 0, every permission: d3 with W and X is df; it makes
-- node 2 of level 1 below root 1, and is its word 2. A 1 GiB leaf at page 524288 of space 0 is word
-- 2 of root 0; its frame is 262144, the lowest multiple of 262144 with a free block: 262144 * 400 +
-- d3 = 100000d3. A protect to r-xu makes the first db.
abbrev pub words_of_large_leaves_rows : List Row
words_of_large_leaves_rows = (record plain_row { frames = 524288 }) ∷ []

-- What is served then.
abbrev pub words_of_large_leaves_items : List Item
words_of_large_leaves_items =
    (Command (event.Map 1 4194304 order.M2 perm_rwxu)) ∷
    (Command (event.Map 0 2147483648 order.G1 perm_r__u)) ∷
    (Command (event.Protect 1 4194304 order.M2 perm_r_xu)) ∷ []

-- Four tags of level 0, two of level 1. Pages 1 and 513 are in the first GiB, 262145 in the second,
-- 524289 in the third. Page 1: 3 loads; level 1 is [first]. Page 262145: 3 loads; [second, first].
-- Page 1: level 0 hits, 1 load, and level 1 is not looked at. Page 524289: 3 loads; [third,
-- second]. Page 513: neither level has its node: 3 loads. Loads 13. The frames of pages 1, 513,
-- 262145 and 524289 are 0 to 3: the addresses are 0 + 2000 + 0 + 3000 + 1000 = 6000.
abbrev pub a_hit_at_level_0_touches_no_other_rows : List Row
a_hit_at_level_0_touches_no_other_rows = (record plain_row { table = table.Radix 64 (4 ∷ 2 ∷ 0 ∷ 0 ∷ []) }) ∷ []

-- What is served then.
abbrev pub a_hit_at_level_0_touches_no_other_items : List Item
a_hit_at_level_0_touches_no_other_items =
    (Command (event.Map 0 4096 order.K4 perm_r__u)) ∷
    (Command (event.Map 0 2101248 order.K4 perm_r__u)) ∷
    (Command (event.Map 0 1073745920 order.K4 perm_r__u)) ∷
    (Command (event.Map 0 2147487744 order.K4 perm_r__u)) ∷
    (Referenced 1 4096 kind.Load) ∷
    (Referenced 2 1073745920 kind.Load) ∷
    (Referenced 3 4096 kind.Load) ∷
    (Referenced 4 2147487744 kind.Load) ∷
    (Referenced 5 2101248 kind.Load) ∷ []

-- Page 1: 3 loads, tags of levels 1 and 0. Its protect leaves both. The store begins at level 0: 1
-- load.
abbrev pub a_protect_leaves_node_tags_rows : List Row
a_protect_leaves_node_tags_rows = (record plain_row { table = table.Radix 64 (4 ∷ 4 ∷ 0 ∷ 0 ∷ []) }) ∷ []

-- What is served then.
abbrev pub a_protect_leaves_node_tags_items : List Item
a_protect_leaves_node_tags_items =
    (Command (event.Map 0 4096 order.K4 perm_r__u)) ∷
    (Referenced 1 4096 kind.Load) ∷
    (Command (event.Protect 0 4096 order.K4 perm_rw_u)) ∷
    (Referenced 2 4096 kind.Store) ∷ []

-- Page 1: 3 loads, tags of levels 1 and 0. It moves to page 513, below the same node of level 1 and
-- another of level 0: the old node of level 0 goes with its tag: 1 removed. Page 513: level 1 hits,
-- 2 loads.
abbrev pub a_move_takes_a_node_tag_rows : List Row
a_move_takes_a_node_tag_rows = (record plain_row { table = table.Radix 64 (4 ∷ 4 ∷ 0 ∷ 0 ∷ []) }) ∷ []

-- What is served then.
abbrev pub a_move_takes_a_node_tag_items : List Item
a_move_takes_a_node_tag_items =
    (Command (event.Map 0 4096 order.K4 perm_r__u)) ∷
    (Referenced 1 4096 kind.Load) ∷
    (Command (event.Move 0 4096 2101248 order.K4)) ∷
    (Referenced 2 2101248 kind.Load) ∷ []
