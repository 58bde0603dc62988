-- TLB arrays that serve fetches or data, each row worked out by hand.
use Rattle.std.specs.Prelude.{ℕ, true, false, List, [], ◌∷◌}
use Rattle.xl_model.specs.declared.address.Order.TheVariants as order
use Rattle.xl_model.specs.declared.address.Kind.TheVariants as kind
use Rattle.xl_model.specs.declared.event.Event.TheVariants as event
use Rattle.xl_model.specs.declared.event.Scope.TheVariants as scope
use Rattle.xl_model.specs.declared.row.Serves.{Serves}
use Rattle.xl_model.specs.declared.row.Serves.TheVariants as serves
use Rattle.xl_model.specs.declared.row.TlbSpec.{TlbSpec}
use Rattle.xl_model.specs.Rows.{Row}
use Rattle.xl_model.specs.declared.script.Item.{Item}
use Rattle.xl_model.specs.declared.script.Item.TheVariants.{Command, Referenced}
use Rattle.xl_model_rows.specs.Plain.{plain_row, perm_r_xu, perm_rwxu}

-- An array for these accesses, at this level, of one set of `width` leaves of every order.
abbrev pub any_order : Serves → ℕ → ℕ → TlbSpec
any_order what level width = record { level = level; sets = 1; width = width; k4 = true; m2 = true; g1 = true; serves = what }

-- An array for these accesses, at this level, of one set of `width` leaves of 4 KiB.
abbrev pub k4_alone : Serves → ℕ → ℕ → TlbSpec
k4_alone what level width = record { level = level; sets = 1; width = width; k4 = true; m2 = false; g1 = false; serves = what }

-- Level 1 has one leaf for fetches (F) and one for data (D), level 2 four for all (S). Pages 1 and
-- 2 have frames 0 and 1. Fetch 1: F and S miss, a walk of 3, both are filled: F [1], S [1]. Load 2:
-- D and S miss, a walk of 3: D [2], S [2, 1]. Fetch 1: F hits. Load 2: D hits. Fetch 2: F misses, S
-- hits, F is filled: F [2]. Load 1: D misses, S hits: D [1], S [1, 2]. Fetch 1: F misses, S hits, F
-- [1]. F: 1 hit, 3 misses; D: 1 and 2; S: 3 and 2. Fills 2 + 2 + 1 + 1 + 1 = 7. Page 2 is accessed
-- three times: the addresses are 3000, hexadecimal.
abbrev pub split_first_levels_rows : List Row
split_first_levels_rows = (record plain_row { tlb = (any_order serves.Fetch 1 1) ∷ (any_order serves.Data 1 1) ∷ (any_order serves.All 2 4) ∷ [] }) ∷ []

-- What is served then.
abbrev pub split_first_levels_items : List Item
split_first_levels_items =
    (Command (event.Map 0 4096 order.K4 perm_r_xu)) ∷
    (Command (event.Map 0 8192 order.K4 perm_r_xu)) ∷
    (Referenced 1 4096 kind.Fetch) ∷
    (Referenced 2 8192 kind.Load) ∷
    (Referenced 3 4096 kind.Fetch) ∷
    (Referenced 4 8192 kind.Load) ∷
    (Referenced 5 8192 kind.Fetch) ∷
    (Referenced 6 4096 kind.Load) ∷
    (Referenced 7 4096 kind.Fetch) ∷ []

-- Level 1 has two leaves for fetches (F) and two for data (D), level 2 four for all (S). Page 1 has
-- frame 0. The fetch misses in F and S, walks by 3 loads, and fills both. The load of byte 8 misses
-- in D, hits in S and fills D. The fetch of byte 10 hits in F, the load of byte 20 in D. Each array
-- has 1 hit and 1 miss; fills 2 + 1 = 3. The addresses are 0 + 8 + 10 + 20 = 38, hexadecimal.
abbrev pub a_page_fetched_and_loaded_rows : List Row
a_page_fetched_and_loaded_rows = (record plain_row { tlb = (any_order serves.Fetch 1 2) ∷ (any_order serves.Data 1 2) ∷ (any_order serves.All 2 4) ∷ [] }) ∷ []

-- What is served then.
abbrev pub a_page_fetched_and_loaded_items : List Item
a_page_fetched_and_loaded_items =
    (Command (event.Map 0 4096 order.K4 perm_r_xu)) ∷
    (Referenced 1 4096 kind.Fetch) ∷
    (Referenced 2 4104 kind.Load) ∷
    (Referenced 3 4112 kind.Fetch) ∷
    (Referenced 4 4128 kind.Load) ∷ []

-- One level: four leaves of 4 KiB or 2 MiB for fetches (F), four of 4 KiB for data (D). Page 1 has
-- frame 0, the leaf of 2 MiB at page 512 frame 512. Load 512: D misses, a walk of 2, and D holds no
-- such leaf: no fill. Fetch 512: F misses, a walk of 2, a fill. Fetch 513: F hits. Load 513: D
-- misses, a walk of 2, no fill. Load 1: D misses, a walk of 3, a fill. Load 1: D hits. F: 1 hit, 1
-- miss; D: 1 and 3. Loads 2 + 2 + 2 + 3 = 9, fills 2. The addresses are 200000 + 200000 + 201000 +
-- 201000 + 0 + 0 = 802000, hexadecimal.
abbrev pub an_order_for_fetches_alone_rows : List Row
an_order_for_fetches_alone_rows = (record plain_row { frames = 1024; tlb = (record { level = 1; sets = 1; width = 4; k4 = true; m2 = true; g1 = false; serves = serves.Fetch }) ∷ (k4_alone serves.Data 1 4) ∷ [] }) ∷ []

-- What is served then.
abbrev pub an_order_for_fetches_alone_items : List Item
an_order_for_fetches_alone_items =
    (Command (event.Map 0 4096 order.K4 perm_r_xu)) ∷
    (Command (event.Map 0 2097152 order.M2 perm_r_xu)) ∷
    (Referenced 1 2097152 kind.Load) ∷
    (Referenced 2 2097152 kind.Fetch) ∷
    (Referenced 3 2101248 kind.Fetch) ∷
    (Referenced 4 2101248 kind.Load) ∷
    (Referenced 5 4096 kind.Load) ∷
    (Referenced 6 4096 kind.Load) ∷ []

-- One level: two leaves for fetches (F), two for data (D). Page 1 may be read and executed, and has
-- frame 0. The store misses in D, its walk of 3 loads fills D, and it is denied. The load of byte 8
-- hits in D. The second store hits in D and is denied. The fetch of byte 10 misses in F, walks and
-- fills F; that of byte 20 hits. F: 1 hit, 1 miss; D: 2 and 1. Walks 2, loads 6, fills 2. The
-- addresses are 8 + 10 + 20 = 38, hexadecimal.
abbrev pub a_denied_store_fills_the_data_array_rows : List Row
a_denied_store_fills_the_data_array_rows = (record plain_row { tlb = (any_order serves.Fetch 1 2) ∷ (any_order serves.Data 1 2) ∷ [] }) ∷ []

-- What is served then.
abbrev pub a_denied_store_fills_the_data_array_items : List Item
a_denied_store_fills_the_data_array_items =
    (Command (event.Map 0 4096 order.K4 perm_r_xu)) ∷
    (Referenced 1 4096 kind.Store) ∷
    (Referenced 2 4104 kind.Load) ∷
    (Referenced 3 4096 kind.Store) ∷
    (Referenced 4 4112 kind.Fetch) ∷
    (Referenced 5 4128 kind.Fetch) ∷ []

-- One level: two leaves for fetches (F), two for data (D). Pages 1 and 2 have frames 0 and 1. Fetch
-- 1: F [1]. Load 1: D [1]. Load 2: D [2, 1]. The unmap of page 1 removes it from both: 2
-- invalidated. Fetch 1: F misses, and a walk of 3 loads finds the empty word beside that of page 2:
-- unmapped, no fill. Load 2: D hits. F: 0 hits, 2 misses; D: 1 and 2. Walks 4, loads 12, fills 3.
-- The addresses are 0 + 0 + 1000 + 1000 = 2000, hexadecimal.
abbrev pub a_purge_of_both_arrays_rows : List Row
a_purge_of_both_arrays_rows = (record plain_row { tlb = (any_order serves.Fetch 1 2) ∷ (any_order serves.Data 1 2) ∷ [] }) ∷ []

-- What is served then.
abbrev pub a_purge_of_both_arrays_items : List Item
a_purge_of_both_arrays_items =
    (Command (event.Map 0 4096 order.K4 perm_r_xu)) ∷
    (Command (event.Map 0 8192 order.K4 perm_r_xu)) ∷
    (Referenced 1 4096 kind.Fetch) ∷
    (Referenced 2 4096 kind.Load) ∷
    (Referenced 3 8192 kind.Load) ∷
    (Command (event.Unmap 0 4096 order.K4)) ∷
    (Referenced 4 4096 kind.Fetch) ∷
    (Referenced 5 8192 kind.Load) ∷ []

-- One level: two leaves for fetches (F), two for data (D). Pages 1 and 2 have frames 0 and 1. Fetch
-- 1, fetch 2: F [2, 1]. Load 1: D [1]. The fence of page 1 removes it from both: F [2], D []: 2
-- invalidated. Fetch 2 hits. Fetch 1: F [1, 2]. Load 1: D [1]. The fence of all removes 2 + 1: 5
-- invalidated. Load 1: D misses again. F: 1 hit, 3 misses; D: 0 and 3. Walks 6 of 3 loads, fills 6.
-- Page 2 is accessed twice: the addresses are 2000, hexadecimal.
abbrev pub a_fence_of_both_arrays_rows : List Row
a_fence_of_both_arrays_rows = (record plain_row { tlb = (any_order serves.Fetch 1 2) ∷ (any_order serves.Data 1 2) ∷ [] }) ∷ []

-- What is served then.
abbrev pub a_fence_of_both_arrays_items : List Item
a_fence_of_both_arrays_items =
    (Command (event.Map 0 4096 order.K4 perm_r_xu)) ∷
    (Command (event.Map 0 8192 order.K4 perm_r_xu)) ∷
    (Referenced 1 4096 kind.Fetch) ∷
    (Referenced 2 8192 kind.Fetch) ∷
    (Referenced 3 4096 kind.Load) ∷
    (Command (event.Fence (scope.Page 0 4096))) ∷
    (Referenced 4 8192 kind.Fetch) ∷
    (Referenced 5 4096 kind.Fetch) ∷
    (Referenced 6 4096 kind.Load) ∷
    (Command (event.Fence scope.All)) ∷
    (Referenced 7 4096 kind.Load) ∷ []

-- Level 1 has one leaf each for fetches of 4 KiB (A) and of 2 MiB (B) and for data of 4 KiB (C) and
-- of 2 MiB (D); level 2 two of any order for data (E); level 3 four of any order for all (G). Pages
-- 1 and 2 have frames 0 and 1, the leaf of 2 MiB at page 512 (T) frame 512. Fetch 1: A, B, G miss,
-- a walk of 3, fills of A and G. Load T: C, D, E, G miss, a walk of 2, fills of D, E, G. Load 1: C,
-- D, E miss, G hits, fills of C and E: E [1, T]. Fetch T at page 513: A, B miss, G hits, a fill of
-- B. Load 2: C, D, E, G miss, a walk of 3, fills of C, E, G: C [2], E [2, 1]. Load 1: C, D miss, E
-- hits, a fill of C. Load T: C misses, D hits. Fetch 1: A hits, B misses. Hits and misses: A 1 and
-- 2, B 0 and 3, C 0 and 5, D 1 and 4, E 1 and 3, G 2 and 3. Fills 2 + 3 + 2 + 1 + 3 + 1 = 12, loads
-- 3 + 2 + 3 = 8. The addresses are 0 + 200000 + 0 + 201000 + 1000 + 0 + 200000 + 0 = 602000,
-- hexadecimal.
abbrev pub six_arrays_rows : List Row
six_arrays_rows = (record plain_row { frames = 1024; tlb = (k4_alone serves.Fetch 1 1) ∷ (record { level = 1; sets = 1; width = 1; k4 = false; m2 = true; g1 = false; serves = serves.Fetch }) ∷ (k4_alone serves.Data 1 1) ∷ (record { level = 1; sets = 1; width = 1; k4 = false; m2 = true; g1 = false; serves = serves.Data }) ∷ (any_order serves.Data 2 2) ∷ (any_order serves.All 3 4) ∷ [] }) ∷ []

-- What is served then.
abbrev pub six_arrays_items : List Item
six_arrays_items =
    (Command (event.Map 0 4096 order.K4 perm_r_xu)) ∷
    (Command (event.Map 0 8192 order.K4 perm_r_xu)) ∷
    (Command (event.Map 0 2097152 order.M2 perm_r_xu)) ∷
    (Referenced 1 4096 kind.Fetch) ∷
    (Referenced 2 2097152 kind.Load) ∷
    (Referenced 3 4096 kind.Load) ∷
    (Referenced 4 2101248 kind.Fetch) ∷
    (Referenced 5 8192 kind.Load) ∷
    (Referenced 6 4096 kind.Load) ∷
    (Referenced 7 2097152 kind.Load) ∷
    (Referenced 8 4096 kind.Fetch) ∷ []

-- Level 1 has two leaves for fetches (F), level 2 two for data (D), level 3 two for all (S). Pages
-- 1 and 2 have frames 0 and 1. Load 1: D and S miss, a walk of 3, fills of both. Fetch 1: F misses,
-- S hits, a fill of F alone. Load 1: D hits, and no level below is filled. Fetch 2: F and S miss, a
-- walk of 3, fills of both. Load 2: D misses, S hits, a fill of D alone. Fetch 1: F hits. F: 1 hit,
-- 2 misses; D: 1 and 2; S: 2 and 2. Fills 2 + 1 + 2 + 1 = 6. Page 2 is accessed twice: the
-- addresses are 2000, hexadecimal.
abbrev pub a_level_for_the_other_kind_rows : List Row
a_level_for_the_other_kind_rows = (record plain_row { tlb = (any_order serves.Fetch 1 2) ∷ (any_order serves.Data 2 2) ∷ (any_order serves.All 3 2) ∷ [] }) ∷ []

-- What is served then.
abbrev pub a_level_for_the_other_kind_items : List Item
a_level_for_the_other_kind_items =
    (Command (event.Map 0 4096 order.K4 perm_r_xu)) ∷
    (Command (event.Map 0 8192 order.K4 perm_r_xu)) ∷
    (Referenced 1 4096 kind.Load) ∷
    (Referenced 2 4096 kind.Fetch) ∷
    (Referenced 3 4096 kind.Load) ∷
    (Referenced 4 8192 kind.Fetch) ∷
    (Referenced 5 8192 kind.Load) ∷
    (Referenced 6 4096 kind.Fetch) ∷ []

-- One level: two leaves for fetches (F), two for data (D). Pages 1, 2 and 3 have frames 0, 1 and 2.
-- Fetch 1, fetch 2: F [2, 1]. Load 1: D misses and is filled, then hits; F is [2, 1] all the same.
-- Fetch 3: page 1 leaves, F [3, 2]. Fetch 1 misses: F [1, 3]. Fetch 3 hits: F [3, 1]. Fetch 2
-- misses. F: 1 hit, 5 misses; D: 1 and 1. Walks 6 of 3 loads, fills 6. Pages 2 and 3 are accessed
-- twice each: the addresses are 2000 + 4000 = 6000, hexadecimal.
abbrev pub a_load_touches_no_fetched_leaf_rows : List Row
a_load_touches_no_fetched_leaf_rows = (record plain_row { tlb = (any_order serves.Fetch 1 2) ∷ (any_order serves.Data 1 2) ∷ [] }) ∷ []

-- What is served then.
abbrev pub a_load_touches_no_fetched_leaf_items : List Item
a_load_touches_no_fetched_leaf_items =
    (Command (event.Map 0 4096 order.K4 perm_r_xu)) ∷
    (Command (event.Map 0 8192 order.K4 perm_r_xu)) ∷
    (Command (event.Map 0 12288 order.K4 perm_r_xu)) ∷
    (Referenced 1 4096 kind.Fetch) ∷
    (Referenced 2 8192 kind.Fetch) ∷
    (Referenced 3 4096 kind.Load) ∷
    (Referenced 4 4096 kind.Load) ∷
    (Referenced 5 12288 kind.Fetch) ∷
    (Referenced 6 4096 kind.Fetch) ∷
    (Referenced 7 12288 kind.Fetch) ∷
    (Referenced 8 8192 kind.Fetch) ∷ []

-- One level: one leaf of 4 KiB for fetches (F), one for data (D). Pages 1 and 2 have frames 0 and
-- 1. Fetch 1: F [1]. Store 2: D [2]. Fetch 1: F hits. Load 2: D hits. Fetch 2: F misses, F [2].
-- Store 2: D hits. Fetch 1: F misses. F: 1 hit, 3 misses; D: 2 and 1. Walks 4 of 3 loads, fills 4.
-- Page 2 is accessed four times: the addresses are 4000, hexadecimal.
abbrev pub one_order_for_each_kind_rows : List Row
one_order_for_each_kind_rows = (record plain_row { tlb = (k4_alone serves.Fetch 1 1) ∷ (k4_alone serves.Data 1 1) ∷ [] }) ∷ []

-- What is served then.
abbrev pub one_order_for_each_kind_items : List Item
one_order_for_each_kind_items =
    (Command (event.Map 0 4096 order.K4 perm_rwxu)) ∷
    (Command (event.Map 0 8192 order.K4 perm_rwxu)) ∷
    (Referenced 1 4096 kind.Fetch) ∷
    (Referenced 2 8192 kind.Store) ∷
    (Referenced 3 4096 kind.Fetch) ∷
    (Referenced 4 8192 kind.Load) ∷
    (Referenced 5 8192 kind.Fetch) ∷
    (Referenced 6 8192 kind.Store) ∷
    (Referenced 7 4096 kind.Fetch) ∷ []
