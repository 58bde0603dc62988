-- Purges and fences, each row worked out by hand: what leaves, and what stays beside it.
use Rattle.std.specs.Prelude.{true, List, [], ◌∷◌}
use Rattle.xl_model.specs.declared.address.Order.TheVariants as order
use Rattle.xl_model.specs.declared.address.Kind.TheVariants as kind
use Rattle.xl_model.specs.declared.event.Event.TheVariants as event
use Rattle.xl_model.specs.declared.event.Scope.TheVariants as scope
use Rattle.xl_model.specs.declared.row.Purge.TheVariants as purge
use Rattle.xl_model.specs.declared.row.Serves.TheVariants as serves
use Rattle.xl_model.specs.declared.row.Table.TheVariants as table
use Rattle.xl_model.specs.Rows.{Row}
use Rattle.xl_model.specs.declared.script.Item.{Item}
use Rattle.xl_model.specs.declared.script.Item.TheVariants.{Command, Referenced}
use Rattle.xl_model_rows.specs.Plain.{plain_row, perm_r__u, perm_rw_u}

-- The array holds pages 1 and 2 of space 0 and page 1 of space 1, each filled by a miss and a walk
-- of 3 loads. The unmap of page 1 of space 0, with the purge `page`, removes the leaf alone: 1.
-- Then both others hit. So 2 hits, 3 misses, as many walks of 3 loads and fills. The addresses are
-- 0 + 1000 + 2000 + 2000 + 1000 = 6000.
abbrev pub unmap_by_page_rows : List Row
unmap_by_page_rows = (record plain_row { tlb = (record { level = 1; sets = 1; width = 8; k4 = true; m2 = true; g1 = true; serves = serves.All }) ∷ [] }) ∷ []

-- What is served then.
abbrev pub unmap_by_page_items : List Item
unmap_by_page_items =
    (Command (event.Map 0 4096 order.K4 perm_r__u)) ∷
    (Command (event.Map 0 8192 order.K4 perm_r__u)) ∷
    (Command (event.Map 1 4096 order.K4 perm_r__u)) ∷
    (Referenced 1 4096 kind.Load) ∷
    (Referenced 2 8192 kind.Load) ∷
    (Command (event.Space 1)) ∷
    (Referenced 3 4096 kind.Load) ∷
    (Command (event.Unmap 0 4096 order.K4)) ∷
    (Referenced 4 4096 kind.Load) ∷
    (Command (event.Space 0)) ∷
    (Referenced 5 8192 kind.Load) ∷ []

-- The array holds pages 1 and 2 of space 0 and page 1 of space 1, each filled by a miss and a walk
-- of 3 loads. The unmap of page 1 of space 0, with the purge `space`, removes both leaves of space
-- 0: 2. Then space 1's page hits and page 2 of space 0 misses. So 1 hits, 4 misses, as many walks
-- of 3 loads and fills. The addresses are 0 + 1000 + 2000 + 2000 + 1000 = 6000.
abbrev pub unmap_by_space_rows : List Row
unmap_by_space_rows = (record plain_row { purge = purge.Space; tlb = (record { level = 1; sets = 1; width = 8; k4 = true; m2 = true; g1 = true; serves = serves.All }) ∷ [] }) ∷ []

-- What is served then.
abbrev pub unmap_by_space_items : List Item
unmap_by_space_items =
    (Command (event.Map 0 4096 order.K4 perm_r__u)) ∷
    (Command (event.Map 0 8192 order.K4 perm_r__u)) ∷
    (Command (event.Map 1 4096 order.K4 perm_r__u)) ∷
    (Referenced 1 4096 kind.Load) ∷
    (Referenced 2 8192 kind.Load) ∷
    (Command (event.Space 1)) ∷
    (Referenced 3 4096 kind.Load) ∷
    (Command (event.Unmap 0 4096 order.K4)) ∷
    (Referenced 4 4096 kind.Load) ∷
    (Command (event.Space 0)) ∷
    (Referenced 5 8192 kind.Load) ∷ []

-- The array holds pages 1 and 2 of space 0 and page 1 of space 1, each filled by a miss and a walk
-- of 3 loads. The unmap of page 1 of space 0, with the purge `all`, removes all: 3. Then both
-- others miss. So 0 hits, 5 misses, as many walks of 3 loads and fills. The addresses are 0 + 1000
-- + 2000 + 2000 + 1000 = 6000.
abbrev pub unmap_by_all_rows : List Row
unmap_by_all_rows = (record plain_row { purge = purge.All; tlb = (record { level = 1; sets = 1; width = 8; k4 = true; m2 = true; g1 = true; serves = serves.All }) ∷ [] }) ∷ []

-- What is served then.
abbrev pub unmap_by_all_items : List Item
unmap_by_all_items =
    (Command (event.Map 0 4096 order.K4 perm_r__u)) ∷
    (Command (event.Map 0 8192 order.K4 perm_r__u)) ∷
    (Command (event.Map 1 4096 order.K4 perm_r__u)) ∷
    (Referenced 1 4096 kind.Load) ∷
    (Referenced 2 8192 kind.Load) ∷
    (Command (event.Space 1)) ∷
    (Referenced 3 4096 kind.Load) ∷
    (Command (event.Unmap 0 4096 order.K4)) ∷
    (Referenced 4 4096 kind.Load) ∷
    (Command (event.Space 0)) ∷
    (Referenced 5 8192 kind.Load) ∷ []

-- The array holds pages 1 and 2 of space 0 and page 1 of space 1, each filled by a miss and a walk
-- of 3 loads. The protect of page 1 of space 0, with the purge `page`, removes the leaf alone: 1.
-- Then both others hit. So 2 hits, 3 misses, as many walks of 3 loads and fills. The addresses are
-- 0 + 1000 + 2000 + 2000 + 1000 = 6000.
abbrev pub protect_by_page_rows : List Row
protect_by_page_rows = (record plain_row { tlb = (record { level = 1; sets = 1; width = 8; k4 = true; m2 = true; g1 = true; serves = serves.All }) ∷ [] }) ∷ []

-- What is served then.
abbrev pub protect_by_page_items : List Item
protect_by_page_items =
    (Command (event.Map 0 4096 order.K4 perm_r__u)) ∷
    (Command (event.Map 0 8192 order.K4 perm_r__u)) ∷
    (Command (event.Map 1 4096 order.K4 perm_r__u)) ∷
    (Referenced 1 4096 kind.Load) ∷
    (Referenced 2 8192 kind.Load) ∷
    (Command (event.Space 1)) ∷
    (Referenced 3 4096 kind.Load) ∷
    (Command (event.Protect 0 4096 order.K4 perm_rw_u)) ∷
    (Referenced 4 4096 kind.Load) ∷
    (Command (event.Space 0)) ∷
    (Referenced 5 8192 kind.Load) ∷ []

-- The array holds pages 1 and 2 of space 0 and page 1 of space 1, each filled by a miss and a walk
-- of 3 loads. The protect of page 1 of space 0, with the purge `space`, removes both leaves of
-- space 0: 2. Then space 1's page hits and page 2 of space 0 misses. So 1 hits, 4 misses, as many
-- walks of 3 loads and fills. The addresses are 0 + 1000 + 2000 + 2000 + 1000 = 6000.
abbrev pub protect_by_space_rows : List Row
protect_by_space_rows = (record plain_row { purge = purge.Space; tlb = (record { level = 1; sets = 1; width = 8; k4 = true; m2 = true; g1 = true; serves = serves.All }) ∷ [] }) ∷ []

-- What is served then.
abbrev pub protect_by_space_items : List Item
protect_by_space_items =
    (Command (event.Map 0 4096 order.K4 perm_r__u)) ∷
    (Command (event.Map 0 8192 order.K4 perm_r__u)) ∷
    (Command (event.Map 1 4096 order.K4 perm_r__u)) ∷
    (Referenced 1 4096 kind.Load) ∷
    (Referenced 2 8192 kind.Load) ∷
    (Command (event.Space 1)) ∷
    (Referenced 3 4096 kind.Load) ∷
    (Command (event.Protect 0 4096 order.K4 perm_rw_u)) ∷
    (Referenced 4 4096 kind.Load) ∷
    (Command (event.Space 0)) ∷
    (Referenced 5 8192 kind.Load) ∷ []

-- The array holds pages 1 and 2 of space 0 and page 1 of space 1, each filled by a miss and a walk
-- of 3 loads. The protect of page 1 of space 0, with the purge `all`, removes all: 3. Then both
-- others miss. So 0 hits, 5 misses, as many walks of 3 loads and fills. The addresses are 0 + 1000
-- + 2000 + 2000 + 1000 = 6000.
abbrev pub protect_by_all_rows : List Row
protect_by_all_rows = (record plain_row { purge = purge.All; tlb = (record { level = 1; sets = 1; width = 8; k4 = true; m2 = true; g1 = true; serves = serves.All }) ∷ [] }) ∷ []

-- What is served then.
abbrev pub protect_by_all_items : List Item
protect_by_all_items =
    (Command (event.Map 0 4096 order.K4 perm_r__u)) ∷
    (Command (event.Map 0 8192 order.K4 perm_r__u)) ∷
    (Command (event.Map 1 4096 order.K4 perm_r__u)) ∷
    (Referenced 1 4096 kind.Load) ∷
    (Referenced 2 8192 kind.Load) ∷
    (Command (event.Space 1)) ∷
    (Referenced 3 4096 kind.Load) ∷
    (Command (event.Protect 0 4096 order.K4 perm_rw_u)) ∷
    (Referenced 4 4096 kind.Load) ∷
    (Command (event.Space 0)) ∷
    (Referenced 5 8192 kind.Load) ∷ []

-- The array holds pages 1 and 2 of space 0 and page 1 of space 1, each filled by a miss and a walk
-- of 3 loads. The move of page 1 of space 0, with the purge `page`, removes the leaf alone: 1. Then
-- both others hit. So 2 hits, 3 misses, as many walks of 3 loads and fills. The addresses are 0 +
-- 1000 + 2000 + 2000 + 1000 = 6000.
abbrev pub move_by_page_rows : List Row
move_by_page_rows = (record plain_row { tlb = (record { level = 1; sets = 1; width = 8; k4 = true; m2 = true; g1 = true; serves = serves.All }) ∷ [] }) ∷ []

-- What is served then.
abbrev pub move_by_page_items : List Item
move_by_page_items =
    (Command (event.Map 0 4096 order.K4 perm_r__u)) ∷
    (Command (event.Map 0 8192 order.K4 perm_r__u)) ∷
    (Command (event.Map 1 4096 order.K4 perm_r__u)) ∷
    (Referenced 1 4096 kind.Load) ∷
    (Referenced 2 8192 kind.Load) ∷
    (Command (event.Space 1)) ∷
    (Referenced 3 4096 kind.Load) ∷
    (Command (event.Move 0 4096 16384 order.K4)) ∷
    (Referenced 4 4096 kind.Load) ∷
    (Command (event.Space 0)) ∷
    (Referenced 5 8192 kind.Load) ∷ []

-- The array holds pages 1 and 2 of space 0 and page 1 of space 1, each filled by a miss and a walk
-- of 3 loads. The move of page 1 of space 0, with the purge `space`, removes both leaves of space
-- 0: 2. Then space 1's page hits and page 2 of space 0 misses. So 1 hits, 4 misses, as many walks
-- of 3 loads and fills. The addresses are 0 + 1000 + 2000 + 2000 + 1000 = 6000.
abbrev pub move_by_space_rows : List Row
move_by_space_rows = (record plain_row { purge = purge.Space; tlb = (record { level = 1; sets = 1; width = 8; k4 = true; m2 = true; g1 = true; serves = serves.All }) ∷ [] }) ∷ []

-- What is served then.
abbrev pub move_by_space_items : List Item
move_by_space_items =
    (Command (event.Map 0 4096 order.K4 perm_r__u)) ∷
    (Command (event.Map 0 8192 order.K4 perm_r__u)) ∷
    (Command (event.Map 1 4096 order.K4 perm_r__u)) ∷
    (Referenced 1 4096 kind.Load) ∷
    (Referenced 2 8192 kind.Load) ∷
    (Command (event.Space 1)) ∷
    (Referenced 3 4096 kind.Load) ∷
    (Command (event.Move 0 4096 16384 order.K4)) ∷
    (Referenced 4 4096 kind.Load) ∷
    (Command (event.Space 0)) ∷
    (Referenced 5 8192 kind.Load) ∷ []

-- The array holds pages 1 and 2 of space 0 and page 1 of space 1, each filled by a miss and a walk
-- of 3 loads. The move of page 1 of space 0, with the purge `all`, removes all: 3. Then both others
-- miss. So 0 hits, 5 misses, as many walks of 3 loads and fills. The addresses are 0 + 1000 + 2000
-- + 2000 + 1000 = 6000.
abbrev pub move_by_all_rows : List Row
move_by_all_rows = (record plain_row { purge = purge.All; tlb = (record { level = 1; sets = 1; width = 8; k4 = true; m2 = true; g1 = true; serves = serves.All }) ∷ [] }) ∷ []

-- What is served then.
abbrev pub move_by_all_items : List Item
move_by_all_items =
    (Command (event.Map 0 4096 order.K4 perm_r__u)) ∷
    (Command (event.Map 0 8192 order.K4 perm_r__u)) ∷
    (Command (event.Map 1 4096 order.K4 perm_r__u)) ∷
    (Referenced 1 4096 kind.Load) ∷
    (Referenced 2 8192 kind.Load) ∷
    (Command (event.Space 1)) ∷
    (Referenced 3 4096 kind.Load) ∷
    (Command (event.Move 0 4096 16384 order.K4)) ∷
    (Referenced 4 4096 kind.Load) ∷
    (Command (event.Space 0)) ∷
    (Referenced 5 8192 kind.Load) ∷ []

-- Page 1 misses (3 loads, a fill). A map removes nothing, also with the purge `all`: page 1 hits.
abbrev pub a_map_purges_nothing_rows : List Row
a_map_purges_nothing_rows = (record plain_row { purge = purge.All; tlb = (record { level = 1; sets = 1; width = 8; k4 = true; m2 = true; g1 = true; serves = serves.All }) ∷ [] }) ∷ []

-- What is served then.
abbrev pub a_map_purges_nothing_items : List Item
a_map_purges_nothing_items =
    (Command (event.Map 0 4096 order.K4 perm_r__u)) ∷
    (Referenced 1 4096 kind.Load) ∷
    (Command (event.Map 0 8192 order.K4 perm_r__u)) ∷
    (Referenced 2 4096 kind.Load) ∷ []

-- Page 1 misses (3 loads, a fill). The unmap of page 2 is refused (4), as nothing is there, and the
-- protect of page 0 as 2 MiB too (nothing covers page 0): both leave the array. Page 1 hits.
abbrev pub a_refused_command_purges_nothing_rows : List Row
a_refused_command_purges_nothing_rows = (record plain_row { purge = purge.All; tlb = (record { level = 1; sets = 1; width = 8; k4 = true; m2 = true; g1 = true; serves = serves.All }) ∷ [] }) ∷ []

-- What is served then.
abbrev pub a_refused_command_purges_nothing_items : List Item
a_refused_command_purges_nothing_items =
    (Command (event.Map 0 4096 order.K4 perm_r__u)) ∷
    (Referenced 1 4096 kind.Load) ∷
    (Command (event.Unmap 0 8192 order.K4)) ∷
    (Command (event.Protect 0 0 order.M2 perm_r__u)) ∷
    (Referenced 2 4096 kind.Load) ∷ []

-- Two levels. Page 1 misses in both: a walk of 3 loads, 2 fills. Its unmap removes 2 entries. The
-- access after it misses in both and finds nothing: its walk is one load, since the nodes are gone
-- too.
abbrev pub a_purge_in_every_level_rows : List Row
a_purge_in_every_level_rows = (record plain_row { tlb = (record { level = 1; sets = 1; width = 2; k4 = true; m2 = true; g1 = true; serves = serves.All }) ∷ (record { level = 2; sets = 1; width = 4; k4 = true; m2 = true; g1 = true; serves = serves.All }) ∷ [] }) ∷ []

-- What is served then.
abbrev pub a_purge_in_every_level_items : List Item
a_purge_in_every_level_items =
    (Command (event.Map 0 4096 order.K4 perm_r__u)) ∷
    (Referenced 1 4096 kind.Load) ∷
    (Command (event.Unmap 0 4096 order.K4)) ∷
    (Referenced 2 4096 kind.Load) ∷ []

-- Walk caches of four tags. Page 1: a miss, 3 loads, a fill; the tags of its nodes of levels 1 and
-- 0 are filled. Its unmap with the purge `all` removes the one leaf from the array; both nodes are
-- still needed by page 2, so their tags stay: 1 removed. Page 2: a miss, the level 0 tag hits, 1
-- load, a fill. Its frame is 1.
abbrev pub node_tags_at_a_purge_of_all_rows : List Row
node_tags_at_a_purge_of_all_rows = (record plain_row { purge = purge.All; table = table.Radix 64 (4 ∷ 4 ∷ 0 ∷ 0 ∷ []); tlb = (record { level = 1; sets = 1; width = 8; k4 = true; m2 = true; g1 = true; serves = serves.All }) ∷ [] }) ∷ []

-- What is served then.
abbrev pub node_tags_at_a_purge_of_all_items : List Item
node_tags_at_a_purge_of_all_items =
    (Command (event.Map 0 4096 order.K4 perm_r__u)) ∷
    (Command (event.Map 0 8192 order.K4 perm_r__u)) ∷
    (Referenced 1 4096 kind.Load) ∷
    (Command (event.Unmap 0 4096 order.K4)) ∷
    (Referenced 2 8192 kind.Load) ∷ []

-- Space 0 has the range of pages 1 and 2 (frames 0 and 1), space 1 that of page 1 (frame 2). Of
-- their keys the hash of 2^52 + 1 is the less (092b.. below 5692..): space 1's range is the root,
-- read in 1 load, space 0's in 2. Page 1 of space 0: a miss, 2 loads, the range is cached. Page 2:
-- a miss, the cached range hits, no load. Page 1 of space 1: a miss, 1 load. So the array has 3
-- leaves and the range TLB 2 ranges, with 3 loads and 1 hit of it. The fence by the address of page
-- 1 removes that page's leaves of both spaces and both cached ranges: 4. Then page 1 of space 1 is
-- a walk of 1 load, page 1 of space 0 one of 2, and page 2 hits its array: 1 hit, 5 misses.
abbrev pub fence_of_addr_of_both_spaces_rows : List Row
fence_of_addr_of_both_spaces_rows = (record plain_row { table = table.Range 4 4; tlb = (record { level = 1; sets = 1; width = 8; k4 = true; m2 = true; g1 = true; serves = serves.All }) ∷ [] }) ∷ []

-- What is served then.
abbrev pub fence_of_addr_of_both_spaces_items : List Item
fence_of_addr_of_both_spaces_items =
    (Command (event.Map 0 4096 order.K4 perm_r__u)) ∷
    (Command (event.Map 0 8192 order.K4 perm_r__u)) ∷
    (Command (event.Map 1 4096 order.K4 perm_r__u)) ∷
    (Referenced 1 4096 kind.Load) ∷
    (Referenced 2 8192 kind.Load) ∷
    (Command (event.Space 1)) ∷
    (Referenced 3 4096 kind.Load) ∷
    (Command (event.Fence (scope.Addr 4096))) ∷
    (Referenced 4 4096 kind.Load) ∷
    (Command (event.Space 0)) ∷
    (Referenced 5 4096 kind.Load) ∷
    (Referenced 6 8192 kind.Load) ∷ []

-- Space 0 has the range of pages 1 and 2 (frames 0 and 1), space 1 that of page 1 (frame 2). Of
-- their keys the hash of 2^52 + 1 is the less (092b.. below 5692..): space 1's range is the root,
-- read in 1 load, space 0's in 2. Page 1 of space 0: a miss, 2 loads, the range is cached. Page 2:
-- a miss, the cached range hits, no load. Page 1 of space 1: a miss, 1 load. So the array has 3
-- leaves and the range TLB 2 ranges, with 3 loads and 1 hit of it. The fence by the address of page
-- 2 removes that page's leaf and the cached range of space 0, which holds page 2: 2. Then both
-- pages 1 hit, and page 2 is a walk of 2 loads: 2 hits, 4 misses.
abbrev pub fence_of_addr_of_one_space_rows : List Row
fence_of_addr_of_one_space_rows = (record plain_row { table = table.Range 4 4; tlb = (record { level = 1; sets = 1; width = 8; k4 = true; m2 = true; g1 = true; serves = serves.All }) ∷ [] }) ∷ []

-- What is served then.
abbrev pub fence_of_addr_of_one_space_items : List Item
fence_of_addr_of_one_space_items =
    (Command (event.Map 0 4096 order.K4 perm_r__u)) ∷
    (Command (event.Map 0 8192 order.K4 perm_r__u)) ∷
    (Command (event.Map 1 4096 order.K4 perm_r__u)) ∷
    (Referenced 1 4096 kind.Load) ∷
    (Referenced 2 8192 kind.Load) ∷
    (Command (event.Space 1)) ∷
    (Referenced 3 4096 kind.Load) ∷
    (Command (event.Fence (scope.Addr 8192))) ∷
    (Referenced 4 4096 kind.Load) ∷
    (Command (event.Space 0)) ∷
    (Referenced 5 4096 kind.Load) ∷
    (Referenced 6 8192 kind.Load) ∷ []

-- Space 0 has the range of pages 1 and 2 (frames 0 and 1), space 1 that of page 1 (frame 2). Of
-- their keys the hash of 2^52 + 1 is the less (092b.. below 5692..): space 1's range is the root,
-- read in 1 load, space 0's in 2. Page 1 of space 0: a miss, 2 loads, the range is cached. Page 2:
-- a miss, the cached range hits, no load. Page 1 of space 1: a miss, 1 load. So the array has 3
-- leaves and the range TLB 2 ranges, with 3 loads and 1 hit of it. The fence by page 1 of space 1
-- removes that leaf and that space's cached range: 2. Then page 1 of space 1 is a walk of 1 load,
-- and both pages of space 0 hit: 2 hits, 4 misses.
abbrev pub fence_of_page_of_space_1_rows : List Row
fence_of_page_of_space_1_rows = (record plain_row { table = table.Range 4 4; tlb = (record { level = 1; sets = 1; width = 8; k4 = true; m2 = true; g1 = true; serves = serves.All }) ∷ [] }) ∷ []

-- What is served then.
abbrev pub fence_of_page_of_space_1_items : List Item
fence_of_page_of_space_1_items =
    (Command (event.Map 0 4096 order.K4 perm_r__u)) ∷
    (Command (event.Map 0 8192 order.K4 perm_r__u)) ∷
    (Command (event.Map 1 4096 order.K4 perm_r__u)) ∷
    (Referenced 1 4096 kind.Load) ∷
    (Referenced 2 8192 kind.Load) ∷
    (Command (event.Space 1)) ∷
    (Referenced 3 4096 kind.Load) ∷
    (Command (event.Fence (scope.Page 1 4096))) ∷
    (Referenced 4 4096 kind.Load) ∷
    (Command (event.Space 0)) ∷
    (Referenced 5 4096 kind.Load) ∷
    (Referenced 6 8192 kind.Load) ∷ []

-- Space 0 has the range of pages 1 and 2 (frames 0 and 1), space 1 that of page 1 (frame 2). Of
-- their keys the hash of 2^52 + 1 is the less (092b.. below 5692..): space 1's range is the root,
-- read in 1 load, space 0's in 2. Page 1 of space 0: a miss, 2 loads, the range is cached. Page 2:
-- a miss, the cached range hits, no load. Page 1 of space 1: a miss, 1 load. So the array has 3
-- leaves and the range TLB 2 ranges, with 3 loads and 1 hit of it. The fence by page 1 of space 0
-- removes that leaf and that space's cached range: 2. Then page 1 of space 1 hits, page 1 of space
-- 0 is a walk of 2 loads, and page 2 hits: 2 hits, 4 misses.
abbrev pub fence_of_page_of_space_0_rows : List Row
fence_of_page_of_space_0_rows = (record plain_row { table = table.Range 4 4; tlb = (record { level = 1; sets = 1; width = 8; k4 = true; m2 = true; g1 = true; serves = serves.All }) ∷ [] }) ∷ []

-- What is served then.
abbrev pub fence_of_page_of_space_0_items : List Item
fence_of_page_of_space_0_items =
    (Command (event.Map 0 4096 order.K4 perm_r__u)) ∷
    (Command (event.Map 0 8192 order.K4 perm_r__u)) ∷
    (Command (event.Map 1 4096 order.K4 perm_r__u)) ∷
    (Referenced 1 4096 kind.Load) ∷
    (Referenced 2 8192 kind.Load) ∷
    (Command (event.Space 1)) ∷
    (Referenced 3 4096 kind.Load) ∷
    (Command (event.Fence (scope.Page 0 4096))) ∷
    (Referenced 4 4096 kind.Load) ∷
    (Command (event.Space 0)) ∷
    (Referenced 5 4096 kind.Load) ∷
    (Referenced 6 8192 kind.Load) ∷ []

-- Space 0 has the range of pages 1 and 2 (frames 0 and 1), space 1 that of page 1 (frame 2). Of
-- their keys the hash of 2^52 + 1 is the less (092b.. below 5692..): space 1's range is the root,
-- read in 1 load, space 0's in 2. Page 1 of space 0: a miss, 2 loads, the range is cached. Page 2:
-- a miss, the cached range hits, no load. Page 1 of space 1: a miss, 1 load. So the array has 3
-- leaves and the range TLB 2 ranges, with 3 loads and 1 hit of it. The fence by page 2 of space 1
-- removes nothing: that page has a leaf and a range in space 0 alone. Then all hit.
abbrev pub fence_of_page_of_no_leaf_rows : List Row
fence_of_page_of_no_leaf_rows = (record plain_row { table = table.Range 4 4; tlb = (record { level = 1; sets = 1; width = 8; k4 = true; m2 = true; g1 = true; serves = serves.All }) ∷ [] }) ∷ []

-- What is served then.
abbrev pub fence_of_page_of_no_leaf_items : List Item
fence_of_page_of_no_leaf_items =
    (Command (event.Map 0 4096 order.K4 perm_r__u)) ∷
    (Command (event.Map 0 8192 order.K4 perm_r__u)) ∷
    (Command (event.Map 1 4096 order.K4 perm_r__u)) ∷
    (Referenced 1 4096 kind.Load) ∷
    (Referenced 2 8192 kind.Load) ∷
    (Command (event.Space 1)) ∷
    (Referenced 3 4096 kind.Load) ∷
    (Command (event.Fence (scope.Page 1 8192))) ∷
    (Referenced 4 4096 kind.Load) ∷
    (Command (event.Space 0)) ∷
    (Referenced 5 4096 kind.Load) ∷
    (Referenced 6 8192 kind.Load) ∷ []

-- Space 0 has the range of pages 1 and 2 (frames 0 and 1), space 1 that of page 1 (frame 2). Of
-- their keys the hash of 2^52 + 1 is the less (092b.. below 5692..): space 1's range is the root,
-- read in 1 load, space 0's in 2. Page 1 of space 0: a miss, 2 loads, the range is cached. Page 2:
-- a miss, the cached range hits, no load. Page 1 of space 1: a miss, 1 load. So the array has 3
-- leaves and the range TLB 2 ranges, with 3 loads and 1 hit of it. The fence by space 0 removes its
-- two leaves and its range: 3. Then page 1 of space 1 hits, page 1 of space 0 is a walk of 2 loads
-- that fills the range, and page 2 misses and hits it: 1 hit, 5 misses.
abbrev pub fence_of_space_0_rows : List Row
fence_of_space_0_rows = (record plain_row { table = table.Range 4 4; tlb = (record { level = 1; sets = 1; width = 8; k4 = true; m2 = true; g1 = true; serves = serves.All }) ∷ [] }) ∷ []

-- What is served then.
abbrev pub fence_of_space_0_items : List Item
fence_of_space_0_items =
    (Command (event.Map 0 4096 order.K4 perm_r__u)) ∷
    (Command (event.Map 0 8192 order.K4 perm_r__u)) ∷
    (Command (event.Map 1 4096 order.K4 perm_r__u)) ∷
    (Referenced 1 4096 kind.Load) ∷
    (Referenced 2 8192 kind.Load) ∷
    (Command (event.Space 1)) ∷
    (Referenced 3 4096 kind.Load) ∷
    (Command (event.Fence (scope.Space 0))) ∷
    (Referenced 4 4096 kind.Load) ∷
    (Command (event.Space 0)) ∷
    (Referenced 5 4096 kind.Load) ∷
    (Referenced 6 8192 kind.Load) ∷ []

-- Space 0 has the range of pages 1 and 2 (frames 0 and 1), space 1 that of page 1 (frame 2). Of
-- their keys the hash of 2^52 + 1 is the less (092b.. below 5692..): space 1's range is the root,
-- read in 1 load, space 0's in 2. Page 1 of space 0: a miss, 2 loads, the range is cached. Page 2:
-- a miss, the cached range hits, no load. Page 1 of space 1: a miss, 1 load. So the array has 3
-- leaves and the range TLB 2 ranges, with 3 loads and 1 hit of it. The fence of all removes 3
-- leaves and 2 ranges: 5. Then page 1 of space 1 is a walk of 1 load, page 1 of space 0 one of 2,
-- and page 2 hits the range filled by it: 6 misses.
abbrev pub fence_of_all_rows : List Row
fence_of_all_rows = (record plain_row { table = table.Range 4 4; tlb = (record { level = 1; sets = 1; width = 8; k4 = true; m2 = true; g1 = true; serves = serves.All }) ∷ [] }) ∷ []

-- What is served then.
abbrev pub fence_of_all_items : List Item
fence_of_all_items =
    (Command (event.Map 0 4096 order.K4 perm_r__u)) ∷
    (Command (event.Map 0 8192 order.K4 perm_r__u)) ∷
    (Command (event.Map 1 4096 order.K4 perm_r__u)) ∷
    (Referenced 1 4096 kind.Load) ∷
    (Referenced 2 8192 kind.Load) ∷
    (Command (event.Space 1)) ∷
    (Referenced 3 4096 kind.Load) ∷
    (Command (event.Fence scope.All)) ∷
    (Referenced 4 4096 kind.Load) ∷
    (Command (event.Space 0)) ∷
    (Referenced 5 4096 kind.Load) ∷
    (Referenced 6 8192 kind.Load) ∷ []

-- Page 1 of both spaces, no TLB array, walk caches of four tags. The first walk of each space is 3
-- loads, with no cache hit, since tags have the space; it fills a tag of level 1 and one of level
-- 0. A fence by address removes no tag: then each space's walk begins at level 0, 1 load. Loads 3 +
-- 3 + 1 + 1 = 8. The frames are 0 and 1.
abbrev pub node_tags_at_a_fence_by_addr_rows : List Row
node_tags_at_a_fence_by_addr_rows = (record plain_row { table = table.Radix 64 (4 ∷ 4 ∷ 0 ∷ 0 ∷ []) }) ∷ []

-- What is served then.
abbrev pub node_tags_at_a_fence_by_addr_items : List Item
node_tags_at_a_fence_by_addr_items =
    (Command (event.Map 0 4096 order.K4 perm_r__u)) ∷
    (Command (event.Map 1 4096 order.K4 perm_r__u)) ∷
    (Referenced 1 4096 kind.Load) ∷
    (Command (event.Space 1)) ∷
    (Referenced 2 4096 kind.Load) ∷
    (Command (event.Fence (scope.Addr 4096))) ∷
    (Referenced 3 4096 kind.Load) ∷
    (Command (event.Space 0)) ∷
    (Referenced 4 4096 kind.Load) ∷ []

-- Page 1 of both spaces, no TLB array, walk caches of four tags. The first walk of each space is 3
-- loads, with no cache hit, since tags have the space; it fills a tag of level 1 and one of level
-- 0. A fence by page removes no tag: then each space's walk begins at level 0, 1 load. Loads 3 + 3
-- + 1 + 1 = 8. The frames are 0 and 1.
abbrev pub node_tags_at_a_fence_by_page_rows : List Row
node_tags_at_a_fence_by_page_rows = (record plain_row { table = table.Radix 64 (4 ∷ 4 ∷ 0 ∷ 0 ∷ []) }) ∷ []

-- What is served then.
abbrev pub node_tags_at_a_fence_by_page_items : List Item
node_tags_at_a_fence_by_page_items =
    (Command (event.Map 0 4096 order.K4 perm_r__u)) ∷
    (Command (event.Map 1 4096 order.K4 perm_r__u)) ∷
    (Referenced 1 4096 kind.Load) ∷
    (Command (event.Space 1)) ∷
    (Referenced 2 4096 kind.Load) ∷
    (Command (event.Fence (scope.Page 0 4096))) ∷
    (Referenced 3 4096 kind.Load) ∷
    (Command (event.Space 0)) ∷
    (Referenced 4 4096 kind.Load) ∷ []

-- Page 1 of both spaces, no TLB array, walk caches of four tags. The first walk of each space is 3
-- loads, with no cache hit, since tags have the space; it fills a tag of level 1 and one of level
-- 0. A fence by space 1 removes its two tags: then its walk is 3 loads. Page 513 of space 0 is
-- unmapped, and begins at the tag of level 1: 1 load. Loads 3 + 3 + 3 + 1 = 10, 1 cache hit. The
-- frames are 0 and 1.
abbrev pub node_tags_at_a_fence_by_space_rows : List Row
node_tags_at_a_fence_by_space_rows = (record plain_row { table = table.Radix 64 (4 ∷ 4 ∷ 0 ∷ 0 ∷ []) }) ∷ []

-- What is served then.
abbrev pub node_tags_at_a_fence_by_space_items : List Item
node_tags_at_a_fence_by_space_items =
    (Command (event.Map 0 4096 order.K4 perm_r__u)) ∷
    (Command (event.Map 1 4096 order.K4 perm_r__u)) ∷
    (Referenced 1 4096 kind.Load) ∷
    (Command (event.Space 1)) ∷
    (Referenced 2 4096 kind.Load) ∷
    (Command (event.Fence (scope.Space 1))) ∷
    (Referenced 3 4096 kind.Load) ∷
    (Command (event.Space 0)) ∷
    (Referenced 4 2101248 kind.Load) ∷ []

-- Page 1 of both spaces, no TLB array, walk caches of four tags. The first walk of each space is 3
-- loads, with no cache hit, since tags have the space; it fills a tag of level 1 and one of level
-- 0. A fence of all removes the four tags: then each walk is 3 loads. Loads 3 + 3 + 3 + 3 = 12. The
-- frames are 0 and 1.
abbrev pub node_tags_at_a_fence_of_all_rows : List Row
node_tags_at_a_fence_of_all_rows = (record plain_row { table = table.Radix 64 (4 ∷ 4 ∷ 0 ∷ 0 ∷ []) }) ∷ []

-- What is served then.
abbrev pub node_tags_at_a_fence_of_all_items : List Item
node_tags_at_a_fence_of_all_items =
    (Command (event.Map 0 4096 order.K4 perm_r__u)) ∷
    (Command (event.Map 1 4096 order.K4 perm_r__u)) ∷
    (Referenced 1 4096 kind.Load) ∷
    (Command (event.Space 1)) ∷
    (Referenced 2 4096 kind.Load) ∷
    (Command (event.Fence scope.All)) ∷
    (Referenced 3 4096 kind.Load) ∷
    (Command (event.Space 0)) ∷
    (Referenced 4 4096 kind.Load) ∷ []

-- Page 1 of both spaces in two ways of 16 slots, no TLB array, section caches of four. With no
-- section cached all three orders are possible, 2 loads each: 6; the walk fills its 2 MiB and its 1
-- GiB section. With both cached 4 KiB alone is possible: 2 loads. A fence by address removes no
-- section: then each walk is 2 loads, with 2 cache hits. Loads 6 + 6 + 2 + 2 = 16. The frames are 0
-- and 1.
abbrev pub sections_at_a_fence_by_addr_rows : List Row
sections_at_a_fence_by_addr_rows = (record plain_row { table = table.Cuckoo 2 4 4 100 4 1 4 4 (4 ∷ 4 ∷ []) }) ∷ []

-- What is served then.
abbrev pub sections_at_a_fence_by_addr_items : List Item
sections_at_a_fence_by_addr_items =
    (Command (event.Map 0 4096 order.K4 perm_r__u)) ∷
    (Command (event.Map 1 4096 order.K4 perm_r__u)) ∷
    (Referenced 1 4096 kind.Load) ∷
    (Command (event.Space 1)) ∷
    (Referenced 2 4096 kind.Load) ∷
    (Command (event.Fence (scope.Addr 4096))) ∷
    (Referenced 3 4096 kind.Load) ∷
    (Command (event.Space 0)) ∷
    (Referenced 4 4096 kind.Load) ∷ []

-- Page 1 of both spaces in two ways of 16 slots, no TLB array, section caches of four. With no
-- section cached all three orders are possible, 2 loads each: 6; the walk fills its 2 MiB and its 1
-- GiB section. With both cached 4 KiB alone is possible: 2 loads. A fence by page removes no
-- section: then each walk is 2 loads, with 2 cache hits. Loads 6 + 6 + 2 + 2 = 16. The frames are 0
-- and 1.
abbrev pub sections_at_a_fence_by_page_rows : List Row
sections_at_a_fence_by_page_rows = (record plain_row { table = table.Cuckoo 2 4 4 100 4 1 4 4 (4 ∷ 4 ∷ []) }) ∷ []

-- What is served then.
abbrev pub sections_at_a_fence_by_page_items : List Item
sections_at_a_fence_by_page_items =
    (Command (event.Map 0 4096 order.K4 perm_r__u)) ∷
    (Command (event.Map 1 4096 order.K4 perm_r__u)) ∷
    (Referenced 1 4096 kind.Load) ∷
    (Command (event.Space 1)) ∷
    (Referenced 2 4096 kind.Load) ∷
    (Command (event.Fence (scope.Page 0 4096))) ∷
    (Referenced 3 4096 kind.Load) ∷
    (Command (event.Space 0)) ∷
    (Referenced 4 4096 kind.Load) ∷ []

-- Page 1 of both spaces in two ways of 16 slots, no TLB array, section caches of four. With no
-- section cached all three orders are possible, 2 loads each: 6; the walk fills its 2 MiB and its 1
-- GiB section. A fence by space 1 removes its two sections: then its walk is 6 loads. Page 513 of
-- space 0 is unmapped; of its sections that of 1 GiB is cached, and leaves 4 KiB alone possible: 2
-- loads. Loads 6 + 6 + 6 + 2 = 20, 1 cache hit. The frames are 0 and 1.
abbrev pub sections_at_a_fence_by_space_rows : List Row
sections_at_a_fence_by_space_rows = (record plain_row { table = table.Cuckoo 2 4 4 100 4 1 4 4 (4 ∷ 4 ∷ []) }) ∷ []

-- What is served then.
abbrev pub sections_at_a_fence_by_space_items : List Item
sections_at_a_fence_by_space_items =
    (Command (event.Map 0 4096 order.K4 perm_r__u)) ∷
    (Command (event.Map 1 4096 order.K4 perm_r__u)) ∷
    (Referenced 1 4096 kind.Load) ∷
    (Command (event.Space 1)) ∷
    (Referenced 2 4096 kind.Load) ∷
    (Command (event.Fence (scope.Space 1))) ∷
    (Referenced 3 4096 kind.Load) ∷
    (Command (event.Space 0)) ∷
    (Referenced 4 2101248 kind.Load) ∷ []

-- Page 1 of both spaces in two ways of 16 slots, no TLB array, section caches of four. With no
-- section cached all three orders are possible, 2 loads each: 6; the walk fills its 2 MiB and its 1
-- GiB section. With both cached 4 KiB alone is possible: 2 loads. A fence of all removes the four
-- sections: then each walk is 6 loads. Loads 24. The frames are 0 and 1.
abbrev pub sections_at_a_fence_of_all_rows : List Row
sections_at_a_fence_of_all_rows = (record plain_row { table = table.Cuckoo 2 4 4 100 4 1 4 4 (4 ∷ 4 ∷ []) }) ∷ []

-- What is served then.
abbrev pub sections_at_a_fence_of_all_items : List Item
sections_at_a_fence_of_all_items =
    (Command (event.Map 0 4096 order.K4 perm_r__u)) ∷
    (Command (event.Map 1 4096 order.K4 perm_r__u)) ∷
    (Referenced 1 4096 kind.Load) ∷
    (Command (event.Space 1)) ∷
    (Referenced 2 4096 kind.Load) ∷
    (Command (event.Fence scope.All)) ∷
    (Referenced 3 4096 kind.Load) ∷
    (Command (event.Space 0)) ∷
    (Referenced 4 4096 kind.Load) ∷ []

-- A 2 MiB leaf at page 512 and a 4 KiB leaf at page 1, both cached: loads 2 + 3. A fence by the
-- address of page 700 removes the leaf that covers it: 1. A fence by page 1 of space 0, at byte
-- 4095 of the page, removes the other: 1. A third one finds nothing. Then both miss: loads 2 + 3.
-- The frames are 0 and 512: the addresses are 0 + 200000 + 0 + 200000 = 400000.
abbrev pub a_fence_inside_a_large_leaf_rows : List Row
a_fence_inside_a_large_leaf_rows = (record plain_row { frames = 1024; tlb = (record { level = 1; sets = 1; width = 8; k4 = true; m2 = true; g1 = true; serves = serves.All }) ∷ [] }) ∷ []

-- What is served then.
abbrev pub a_fence_inside_a_large_leaf_items : List Item
a_fence_inside_a_large_leaf_items =
    (Command (event.Map 0 2097152 order.M2 perm_r__u)) ∷
    (Command (event.Map 0 4096 order.K4 perm_r__u)) ∷
    (Referenced 1 2097152 kind.Load) ∷
    (Referenced 2 4096 kind.Load) ∷
    (Command (event.Fence (scope.Addr 2867200))) ∷
    (Command (event.Fence (scope.Page 0 8191))) ∷
    (Command (event.Fence (scope.Page 0 2101248))) ∷
    (Referenced 3 2097152 kind.Load) ∷
    (Referenced 4 4096 kind.Load) ∷ []
