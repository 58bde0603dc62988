-- TLB arrays, each row worked out by hand: touches, fills of lower levels, sets.
use Rattle.std.specs.Prelude.{true, false, List, [], ◌∷◌}
use Rattle.xl_model.specs.declared.address.Order.TheVariants as order
use Rattle.xl_model.specs.declared.address.Kind.TheVariants as kind
use Rattle.xl_model.specs.declared.event.Event.TheVariants as event
use Rattle.xl_model.specs.Rows.{Row}
use Rattle.xl_model.specs.declared.script.Item.{Item}
use Rattle.xl_model.specs.declared.script.Item.TheVariants.{Command, Referenced}
use Rattle.xl_model.specs.declared.row.Serves.TheVariants as serves
use Rattle.xl_model_rows.specs.Plain.{plain_row, perm_r__u}

-- A touch at a full set, and the fill after it. One set of two leaves, newest first; a walk is 3
-- loads. Pages 1 and 2 miss and fill: [2, 1]. Page 1 hits and moves to the front: [1, 2]. Page 3
-- misses, and page 2 is evicted: [3, 1]. Page 1 hits: [1, 3]. Page 2 misses. So 2 hits and 4
-- misses, 4 walks of 3 loads, 4 fills. Pages 1, 2, 3 have frames 0, 1, 2: the addresses are 0 +
-- 1000 + 0 + 2000 + 0 + 1000 = 4000, hexadecimal.
abbrev pub a_touch_at_a_full_set_rows : List Row
a_touch_at_a_full_set_rows = (record plain_row { tlb = (record { level = 1; sets = 1; width = 2; k4 = true; m2 = true; g1 = true; serves = serves.All }) ∷ [] }) ∷ []

-- What is served then.
abbrev pub a_touch_at_a_full_set_items : List Item
a_touch_at_a_full_set_items =
    (Command (event.Map 0 4096 order.K4 perm_r__u)) ∷
    (Command (event.Map 0 8192 order.K4 perm_r__u)) ∷
    (Command (event.Map 0 12288 order.K4 perm_r__u)) ∷
    (Referenced 1 4096 kind.Load) ∷
    (Referenced 2 8192 kind.Load) ∷
    (Referenced 3 4096 kind.Load) ∷
    (Referenced 4 12288 kind.Load) ∷
    (Referenced 5 4096 kind.Load) ∷
    (Referenced 6 8192 kind.Load) ∷ []

-- A touch in the middle of a set of four. Pages 1 to 4 fill: [4, 3, 2, 1]. Page 2 hits: [2, 4, 3,
-- 1]. Page 5 misses, and page 1 leaves: [5, 2, 4, 3]. Page 3 hits: [3, 5, 2, 4]. Page 1 misses, and
-- page 4 leaves: [1, 3, 5, 2]. Page 4 misses. So 2 hits, 7 misses, 7 walks of 3 loads and 7 fills.
-- Page n has frame n - 1: the addresses are 0 + 1000 + 2000 + 3000 + 1000 + 4000 + 2000 + 0 + 3000
-- = 10000.
abbrev pub a_touch_in_the_middle_rows : List Row
a_touch_in_the_middle_rows = (record plain_row { tlb = (record { level = 1; sets = 1; width = 4; k4 = true; m2 = true; g1 = true; serves = serves.All }) ∷ [] }) ∷ []

-- What is served then.
abbrev pub a_touch_in_the_middle_items : List Item
a_touch_in_the_middle_items =
    (Command (event.Map 0 4096 order.K4 perm_r__u)) ∷
    (Command (event.Map 0 8192 order.K4 perm_r__u)) ∷
    (Command (event.Map 0 12288 order.K4 perm_r__u)) ∷
    (Command (event.Map 0 16384 order.K4 perm_r__u)) ∷
    (Command (event.Map 0 20480 order.K4 perm_r__u)) ∷
    (Referenced 1 4096 kind.Load) ∷
    (Referenced 2 8192 kind.Load) ∷
    (Referenced 3 12288 kind.Load) ∷
    (Referenced 4 16384 kind.Load) ∷
    (Referenced 5 8192 kind.Load) ∷
    (Referenced 6 20480 kind.Load) ∷
    (Referenced 7 12288 kind.Load) ∷
    (Referenced 8 4096 kind.Load) ∷
    (Referenced 9 16384 kind.Load) ∷ []

-- A hit in level 3 fills only the lower levels that hold the order. Level 1 holds one 4 KiB leaf,
-- level 2 one 2 MiB leaf, level 3 four of any order. Page 1: all miss, a walk of 3, fills of levels
-- 1 and 3. Page 2: the same, and page 1 leaves level 1. Page 512 (2 MiB): all miss, a walk of 2,
-- fills of levels 2 and 3. Page 1: levels 1 and 2 miss, level 3 hits and fills level 1 alone. Page
-- 1: level 1 hits, no other is looked at. Page 512: level 1 misses, level 2 hits, and level 1 holds
-- no 2 MiB leaf: no fill. Level 1: 1 hit, 5 misses; level 2: 1 and 4; level 3: 1 and 3. Fills 2 + 2
-- + 2 + 1 = 7. Loads 3 + 3 + 2 = 8. The frames are 0, 1 and 512: the addresses are 0 + 1000 +
-- 200000 + 0 + 0 + 200000 = 401000.
abbrev pub a_hit_in_the_third_level_rows : List Row
a_hit_in_the_third_level_rows = (record plain_row { frames = 1024; tlb = (record { level = 1; sets = 1; width = 1; k4 = true; m2 = false; g1 = false; serves = serves.All }) ∷ (record { level = 2; sets = 1; width = 1; k4 = false; m2 = true; g1 = false; serves = serves.All }) ∷ (record { level = 3; sets = 1; width = 4; k4 = true; m2 = true; g1 = true; serves = serves.All }) ∷ [] }) ∷ []

-- What is served then.
abbrev pub a_hit_in_the_third_level_items : List Item
a_hit_in_the_third_level_items =
    (Command (event.Map 0 4096 order.K4 perm_r__u)) ∷
    (Command (event.Map 0 8192 order.K4 perm_r__u)) ∷
    (Command (event.Map 0 2097152 order.M2 perm_r__u)) ∷
    (Referenced 1 4096 kind.Load) ∷
    (Referenced 2 8192 kind.Load) ∷
    (Referenced 3 2097152 kind.Load) ∷
    (Referenced 4 4096 kind.Load) ∷
    (Referenced 5 4096 kind.Load) ∷
    (Referenced 6 2097152 kind.Load) ∷ []

-- A hit in level 3 that fills two levels. Level 1 holds one leaf of 4 KiB or 2 MiB, level 2 one of
-- 4 KiB, level 3 four of any order. Page 1: all miss, 3 fills. Page 2: all miss, 3 fills; page 1
-- leaves levels 1 and 2. Page 1: levels 1 and 2 miss, level 3 hits, 2 fills. Page 1: level 1 hits.
-- Page 512 (2 MiB): all miss, fills of levels 1 and 3; page 1 leaves level 1. Page 1: level 1
-- misses, level 2 hits and fills level 1. Page 1: level 1 hits. Level 1: 2 hits, 5 misses; level 2:
-- 1 and 4; level 3: 1 and 3. Fills 3 + 3 + 2 + 2 + 1 = 11. Loads 3 + 3 + 2 = 8. The frames are 0, 1
-- and 512: the addresses add up to 1000 + 200000 = 201000.
abbrev pub a_hit_in_the_third_level_fills_two_rows : List Row
a_hit_in_the_third_level_fills_two_rows = (record plain_row { frames = 1024; tlb = (record { level = 1; sets = 1; width = 1; k4 = true; m2 = true; g1 = false; serves = serves.All }) ∷ (record { level = 2; sets = 1; width = 1; k4 = true; m2 = false; g1 = false; serves = serves.All }) ∷ (record { level = 3; sets = 1; width = 4; k4 = true; m2 = true; g1 = true; serves = serves.All }) ∷ [] }) ∷ []

-- What is served then.
abbrev pub a_hit_in_the_third_level_fills_two_items : List Item
a_hit_in_the_third_level_fills_two_items =
    (Command (event.Map 0 4096 order.K4 perm_r__u)) ∷
    (Command (event.Map 0 8192 order.K4 perm_r__u)) ∷
    (Command (event.Map 0 2097152 order.M2 perm_r__u)) ∷
    (Referenced 1 4096 kind.Load) ∷
    (Referenced 2 8192 kind.Load) ∷
    (Referenced 3 4096 kind.Load) ∷
    (Referenced 4 4096 kind.Load) ∷
    (Referenced 5 2097152 kind.Load) ∷
    (Referenced 6 4096 kind.Load) ∷
    (Referenced 7 4096 kind.Load) ∷ []

-- A hit in level 2 touches level 2. Level 1 has one leaf, level 2 two. Pages 1 and 2 miss in both:
-- level 1 [2], level 2 [2, 1]. Page 1: level 1 misses, level 2 hits and is [1, 2], level 1 is
-- filled: [1]. Page 3: both miss, level 2 is [3, 1]. Page 1: level 2 hits, level 1 is filled. Page
-- 2: both miss. Level 1: 0 hits, 6 misses; level 2: 2 and 4. Fills 2 + 2 + 1 + 2 + 1 + 2 = 10. Four
-- walks of 3 loads. The addresses are 0 + 1000 + 0 + 2000 + 0 + 1000 = 4000.
abbrev pub a_hit_in_a_later_level_touches_it_rows : List Row
a_hit_in_a_later_level_touches_it_rows = (record plain_row { tlb = (record { level = 1; sets = 1; width = 1; k4 = true; m2 = true; g1 = true; serves = serves.All }) ∷ (record { level = 2; sets = 1; width = 2; k4 = true; m2 = true; g1 = true; serves = serves.All }) ∷ [] }) ∷ []

-- What is served then.
abbrev pub a_hit_in_a_later_level_touches_it_items : List Item
a_hit_in_a_later_level_touches_it_items =
    (Command (event.Map 0 4096 order.K4 perm_r__u)) ∷
    (Command (event.Map 0 8192 order.K4 perm_r__u)) ∷
    (Command (event.Map 0 12288 order.K4 perm_r__u)) ∷
    (Referenced 1 4096 kind.Load) ∷
    (Referenced 2 8192 kind.Load) ∷
    (Referenced 3 4096 kind.Load) ∷
    (Referenced 4 12288 kind.Load) ∷
    (Referenced 5 4096 kind.Load) ∷
    (Referenced 6 8192 kind.Load) ∷ []

-- A hit in level 1 looks at no later level, and touches none. Both have two leaves. Pages 1 and 2
-- miss in both: [2, 1] and [2, 1]. Page 1: level 1 hits: [1, 2] and [2, 1]. Page 3: both miss: [3,
-- 1] and [3, 2]. Page 1: level 1 hits: [1, 3]. Page 2: level 1 misses, level 2 hits, level 1 is
-- filled. Level 1: 2 hits, 4 misses; level 2: 1 and 3. Fills 2 + 2 + 2 + 1 = 7, three walks of 3
-- loads. The addresses are 0 + 1000 + 0 + 2000 + 0 + 1000 = 4000.
abbrev pub a_hit_in_the_first_level_touches_it_alone_rows : List Row
a_hit_in_the_first_level_touches_it_alone_rows = (record plain_row { tlb = (record { level = 1; sets = 1; width = 2; k4 = true; m2 = true; g1 = true; serves = serves.All }) ∷ (record { level = 2; sets = 1; width = 2; k4 = true; m2 = true; g1 = true; serves = serves.All }) ∷ [] }) ∷ []

-- What is served then.
abbrev pub a_hit_in_the_first_level_touches_it_alone_items : List Item
a_hit_in_the_first_level_touches_it_alone_items =
    (Command (event.Map 0 4096 order.K4 perm_r__u)) ∷
    (Command (event.Map 0 8192 order.K4 perm_r__u)) ∷
    (Command (event.Map 0 12288 order.K4 perm_r__u)) ∷
    (Referenced 1 4096 kind.Load) ∷
    (Referenced 2 8192 kind.Load) ∷
    (Referenced 3 4096 kind.Load) ∷
    (Referenced 4 12288 kind.Load) ∷
    (Referenced 5 4096 kind.Load) ∷
    (Referenced 6 8192 kind.Load) ∷ []

-- Two sets of one leaf each. Page 1 is in set 1, page 2 in set 0, page 3 in set 1. Pages 1 and 2
-- miss, then both hit. Page 3 misses and takes the place of page 1; page 2 still hits. So 3 hits, 3
-- misses, 3 walks of 3 loads, 3 fills. The addresses are 0 + 1000 + 0 + 1000 + 2000 + 1000 = 5000.
abbrev pub two_sets_rows : List Row
two_sets_rows = (record plain_row { tlb = (record { level = 1; sets = 2; width = 1; k4 = true; m2 = false; g1 = false; serves = serves.All }) ∷ [] }) ∷ []

-- What is served then.
abbrev pub two_sets_items : List Item
two_sets_items =
    (Command (event.Map 0 4096 order.K4 perm_r__u)) ∷
    (Command (event.Map 0 8192 order.K4 perm_r__u)) ∷
    (Command (event.Map 0 12288 order.K4 perm_r__u)) ∷
    (Referenced 1 4096 kind.Load) ∷
    (Referenced 2 8192 kind.Load) ∷
    (Referenced 3 4096 kind.Load) ∷
    (Referenced 4 8192 kind.Load) ∷
    (Referenced 5 12288 kind.Load) ∷
    (Referenced 6 8192 kind.Load) ∷ []

-- The set of a 2 MiB leaf is (page / 512) mod 2. Two sets of one leaf, 4 KiB and 2 MiB. The leaf at
-- page 512 is block 1, in set 1; the one at page 1024 is block 2, in set 0; page 1 is in set 1.
-- Page 513 misses and fills set 1, page 1024 misses and fills set 0, page 512 hits in set 1. Page 1
-- misses and takes set 1. Page 1024 hits. Page 512 misses. So 2 hits, 4 misses, 4 fills; loads 2 +
-- 2 + 3 + 2 = 9. The leaves have frames 0, 512 and 1024: the addresses are 1000 + 200000 + 0 +
-- 400000 + 200000 + 0 = 801000.
abbrev pub sets_by_the_order_rows : List Row
sets_by_the_order_rows = (record plain_row { frames = 2048; tlb = (record { level = 1; sets = 2; width = 1; k4 = true; m2 = true; g1 = false; serves = serves.All }) ∷ [] }) ∷ []

-- What is served then.
abbrev pub sets_by_the_order_items : List Item
sets_by_the_order_items =
    (Command (event.Map 0 2097152 order.M2 perm_r__u)) ∷
    (Command (event.Map 0 4194304 order.M2 perm_r__u)) ∷
    (Command (event.Map 0 4096 order.K4 perm_r__u)) ∷
    (Referenced 1 2101248 kind.Load) ∷
    (Referenced 2 4194304 kind.Load) ∷
    (Referenced 3 2097152 kind.Load) ∷
    (Referenced 4 4096 kind.Load) ∷
    (Referenced 5 4194304 kind.Load) ∷
    (Referenced 6 2097152 kind.Load) ∷ []

-- One set of four leaves of any order. A 4 KiB leaf at page 0, a 2 MiB leaf at page 512, a 1 GiB
-- leaf at page 262144; their frames are 0, 512 and 262144. Each misses once, with walks of 3, 2 and
-- 1 loads, and then hits at another place of the leaf. The addresses are 0 + 201000 + 40005000 + 8
-- + 203000 + 40258000 = 8065c008 hexadecimal (page 513 is frame 513; page 262144 + 5 is frame
-- 262149; then byte 8, page 515, page 262144 + 600).
abbrev pub three_orders_in_one_array_rows : List Row
three_orders_in_one_array_rows = (record plain_row { frames = 524288; tlb = (record { level = 1; sets = 1; width = 4; k4 = true; m2 = true; g1 = true; serves = serves.All }) ∷ [] }) ∷ []

-- What is served then.
abbrev pub three_orders_in_one_array_items : List Item
three_orders_in_one_array_items =
    (Command (event.Map 0 0 order.K4 perm_r__u)) ∷
    (Command (event.Map 0 2097152 order.M2 perm_r__u)) ∷
    (Command (event.Map 0 1073741824 order.G1 perm_r__u)) ∷
    (Referenced 1 0 kind.Load) ∷
    (Referenced 2 2101248 kind.Load) ∷
    (Referenced 3 1073762304 kind.Load) ∷
    (Referenced 4 8 kind.Load) ∷
    (Referenced 5 2109440 kind.Load) ∷
    (Referenced 6 1076199424 kind.Load) ∷ []

-- A store on a read-only page misses, its walk of 3 loads finds the leaf, the store is denied, and
-- the array is filled. The load after it hits.
abbrev pub a_denied_access_fills_rows : List Row
a_denied_access_fills_rows = (record plain_row { tlb = (record { level = 1; sets = 1; width = 4; k4 = true; m2 = true; g1 = true; serves = serves.All }) ∷ [] }) ∷ []

-- What is served then.
abbrev pub a_denied_access_fills_items : List Item
a_denied_access_fills_items =
    (Command (event.Map 0 4096 order.K4 perm_r__u)) ∷
    (Referenced 1 4096 kind.Store) ∷
    (Referenced 2 4096 kind.Load) ∷ []

-- Address 2^38 = 4000000000 hexadecimal isn't canonical under Sv39: no hit, no miss, no walk. Page
-- 5 is unmapped: a miss and a walk of one load, that of the root's empty word; no fill. Page 5
-- again: the same.
abbrev pub accesses_that_fill_nothing_rows : List Row
accesses_that_fill_nothing_rows = (record plain_row { tlb = (record { level = 1; sets = 1; width = 4; k4 = true; m2 = true; g1 = true; serves = serves.All }) ∷ [] }) ∷ []

-- What is served then.
abbrev pub accesses_that_fill_nothing_items : List Item
accesses_that_fill_nothing_items =
    (Referenced 1 274877906944 kind.Load) ∷
    (Referenced 2 20480 kind.Load) ∷
    (Referenced 3 20480 kind.Load) ∷ []
