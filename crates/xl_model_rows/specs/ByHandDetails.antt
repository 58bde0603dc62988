-- Details that no other row shows, each worked out by hand: a set of more than two, user pages,
-- arrays of one level, fences inside large leaves, sections of 1 GiB, ranges of several spaces, what
-- a walk without a leaf touches, buckets of large leaves, refused moves, the upper half.
use Rattle.std.specs.Prelude.{ℕ, true, false, List, [], ◌∷◌, map}
use Rattle.xl_model.specs.declared.address.Order.TheVariants as order
use Rattle.xl_model.specs.declared.address.Kind.TheVariants as kind
use Rattle.xl_model.specs.declared.event.Event.TheVariants as event
use Rattle.xl_model.specs.declared.event.Scope.TheVariants as scope
use Rattle.xl_model.specs.declared.row.Serves.TheVariants as serves
use Rattle.xl_model.specs.declared.row.Table.TheVariants as table
use Rattle.xl_model.specs.Rows.{Row}
use Rattle.xl_model.specs.Shapes.{Shape, Cuckoo}
use Rattle.xl_model.specs.declared.script.Item.{Item}
use Rattle.xl_model.specs.declared.script.Item.TheVariants.{Command, Referenced}
use Rattle.xl_model_rows.specs.Plain.{plain_row, one_array, perm_r__u, perm_r_xu, perm_rw_u, perm_rwxu, perm_rwx_}

-- Four sets of one leaf each. Pages 1, 5 and 65 are in set 1, page 3 in set 3. Pages 1 and 3 miss,
-- then both hit. Page 5 misses and takes the place of page 1, which then misses, and so does 65,
-- and page 1 again. So 2 hits and 6 misses, each a walk of 3 loads. Pages 1, 3, 5, 65 have frames 0
-- to 3: the addresses are 0 + 1000 + 0 + 1000 + 2000 + 0 + 3000 + 0 = 7000.
abbrev pub four_sets_rows : List Row
four_sets_rows = (record plain_row { tlb = (record { level = 1; sets = 4; width = 1; k4 = true; m2 = false; g1 = false; serves = serves.All }) ∷ [] }) ∷ []

-- What is served then.
abbrev pub four_sets_items : List Item
four_sets_items =
    (Command (event.Map 0 4096 order.K4 perm_r__u)) ∷
    (Command (event.Map 0 12288 order.K4 perm_r__u)) ∷
    (Command (event.Map 0 20480 order.K4 perm_r__u)) ∷
    (Command (event.Map 0 266240 order.K4 perm_r__u)) ∷
    (Referenced 1 4096 kind.Load) ∷
    (Referenced 2 12288 kind.Load) ∷
    (Referenced 3 4096 kind.Load) ∷
    (Referenced 4 12288 kind.Load) ∷
    (Referenced 5 20480 kind.Load) ∷
    (Referenced 6 4096 kind.Load) ∷
    (Referenced 7 266240 kind.Load) ∷
    (Referenced 8 4096 kind.Load) ∷ []

-- The page may be read, written and executed, but not by user accesses: all three are denied, each
-- after a walk of 3 loads.
abbrev pub a_page_without_u_rows : List Row
a_page_without_u_rows = (plain_row) ∷ []

-- What is served then.
abbrev pub a_page_without_u_items : List Item
a_page_without_u_items =
    (Command (event.Map 0 4096 order.K4 perm_rwx_)) ∷
    (Referenced 1 4096 kind.Load) ∷
    (Referenced 2 4096 kind.Store) ∷
    (Referenced 3 4096 kind.Fetch) ∷ []

-- A level of two arrays, one for 4 KiB and one for 2 MiB. Each access looks at both, and each
-- counts its own: every access hits at most one, and misses the other. The first of each page
-- misses both: 1 hit and 3 misses in each. A walk to the 4 KiB leaf is 3 loads, to the 2 MiB leaf
-- 2. The leaves have frames 0 and 512: 0 + 200000 + 0 + 200000 = 400000.
abbrev pub two_arrays_in_one_level_rows : List Row
two_arrays_in_one_level_rows = (record plain_row { frames = 1024; tlb = (record { level = 1; sets = 1; width = 2; k4 = true; m2 = false; g1 = false; serves = serves.All }) ∷ (record { level = 1; sets = 1; width = 2; k4 = false; m2 = true; g1 = false; serves = serves.All }) ∷ [] }) ∷ []

-- What is served then.
abbrev pub two_arrays_in_one_level_items : List Item
two_arrays_in_one_level_items =
    (Command (event.Map 0 4096 order.K4 perm_r__u)) ∷
    (Command (event.Map 0 2097152 order.M2 perm_r__u)) ∷
    (Referenced 1 4096 kind.Load) ∷
    (Referenced 2 2097152 kind.Load) ∷
    (Referenced 3 4096 kind.Load) ∷
    (Referenced 4 2097152 kind.Load) ∷ []

-- The leaf of 2 MiB is cached; a fence by its second page removes it: 1 invalidated. Both accesses
-- walk, 2 loads each.
abbrev pub a_fence_by_page_inside_a_large_leaf_rows : List Row
a_fence_by_page_inside_a_large_leaf_rows = (record plain_row { frames = 1024; tlb = one_array }) ∷ []

-- What is served then.
abbrev pub a_fence_by_page_inside_a_large_leaf_items : List Item
a_fence_by_page_inside_a_large_leaf_items =
    (Command (event.Map 0 2097152 order.M2 perm_r__u)) ∷
    (Referenced 1 2097152 kind.Load) ∷
    (Command (event.Fence (scope.Page 0 2101248))) ∷
    (Referenced 2 2097152 kind.Load) ∷ []

-- As the row above, with a fence by an address of the leaf's second page, in all spaces.
abbrev pub a_fence_by_addr_inside_a_large_leaf_rows : List Row
a_fence_by_addr_inside_a_large_leaf_rows = (record plain_row { frames = 1024; tlb = one_array }) ∷ []

-- What is served then.
abbrev pub a_fence_by_addr_inside_a_large_leaf_items : List Item
a_fence_by_addr_inside_a_large_leaf_items =
    (Command (event.Map 0 2097152 order.M2 perm_r__u)) ∷
    (Referenced 1 2097152 kind.Load) ∷
    (Command (event.Fence (scope.Addr 2101248))) ∷
    (Referenced 2 2097152 kind.Load) ∷ []

-- One section of 1 GiB, which page 0 has. A move to another needs a second one while the first is
-- still in use, so it is refused for room (cause 8), and page 0 is still mapped: two loads for each
-- of three orders are 6.
abbrev pub a_move_between_1_gib_sections_rows : List Row
a_move_between_1_gib_sections_rows = (record plain_row { table = table.Cuckoo 2 4 4 100 4 1 4 1 (0 ∷ 0 ∷ []) }) ∷ []

-- What is served then.
abbrev pub a_move_between_1_gib_sections_items : List Item
a_move_between_1_gib_sections_items =
    (Command (event.Map 0 0 order.K4 perm_r__u)) ∷
    (Command (event.Move 0 0 1073741824 order.K4)) ∷
    (Referenced 1 0 kind.Load) ∷ []

-- Three pages in one range, of two that there may be. To move the middle one would leave two ranges
-- and make a third: refused for room (cause 8). Page 2 is still mapped, by one load, to frame 1.
abbrev pub a_move_that_parts_a_range_rows : List Row
a_move_that_parts_a_range_rows = (record plain_row { table = table.Range 2 0 }) ∷ []

-- What is served then.
abbrev pub a_move_that_parts_a_range_items : List Item
a_move_that_parts_a_range_items =
    (Command (event.Map 0 4096 order.K4 perm_r__u)) ∷
    (Command (event.Map 0 8192 order.K4 perm_r__u)) ∷
    (Command (event.Map 0 12288 order.K4 perm_r__u)) ∷
    (Command (event.Move 0 8192 32768 order.K4)) ∷
    (Referenced 1 8192 kind.Load) ∷ []

-- One section of 2 MiB, which page 0 has. A leaf of 1 GiB is a whole section of 1 GiB, so there is
-- room for it. Each walk looks two ways for each of three orders: 12 loads. The second leaf has
-- frame 262144, the address 40000000.
abbrev pub a_1_gib_leaf_takes_no_2_mib_section_rows : List Row
a_1_gib_leaf_takes_no_2_mib_section_rows = (record plain_row { frames = 524288; table = table.Cuckoo 2 4 4 100 4 1 1 4 (0 ∷ 0 ∷ []) }) ∷ []

-- What is served then.
abbrev pub a_1_gib_leaf_takes_no_2_mib_section_items : List Item
a_1_gib_leaf_takes_no_2_mib_section_items =
    (Command (event.Map 0 0 order.K4 perm_r__u)) ∷
    (Command (event.Map 0 1073741824 order.G1 perm_r__u)) ∷
    (Referenced 1 0 kind.Load) ∷
    (Referenced 2 1073741824 kind.Load) ∷ []

-- Page 1 of spaces 0 and 1, each cached by a walk. The unmap in space 0 removes its range, and not
-- that of space 1: the last access hits. The walks are 1 load, then 2 (the tree's root is the other
-- range).
abbrev pub an_unmap_beside_a_range_of_another_space_rows : List Row
an_unmap_beside_a_range_of_another_space_rows = (record plain_row { table = table.Range 4 4 }) ∷ []

-- What is served then.
abbrev pub an_unmap_beside_a_range_of_another_space_items : List Item
an_unmap_beside_a_range_of_another_space_items =
    (Command (event.Map 0 4096 order.K4 perm_r__u)) ∷
    (Command (event.Map 1 4096 order.K4 perm_r__u)) ∷
    (Referenced 1 4096 kind.Load) ∷
    (Command (event.Space 1)) ∷
    (Referenced 2 4096 kind.Load) ∷
    (Command (event.Unmap 0 4096 order.K4)) ∷
    (Referenced 3 4096 kind.Load) ∷ []

-- As the row above, with a fence of space 1: its cached range goes, and the last access walks
-- again, by one more load.
abbrev pub a_fence_of_space_1_over_cached_ranges_rows : List Row
a_fence_of_space_1_over_cached_ranges_rows = (record plain_row { table = table.Range 4 4 }) ∷ []

-- What is served then.
abbrev pub a_fence_of_space_1_over_cached_ranges_items : List Item
a_fence_of_space_1_over_cached_ranges_items =
    (Command (event.Map 0 4096 order.K4 perm_r__u)) ∷
    (Command (event.Map 1 4096 order.K4 perm_r__u)) ∷
    (Referenced 1 4096 kind.Load) ∷
    (Command (event.Space 1)) ∷
    (Referenced 2 4096 kind.Load) ∷
    (Command (event.Fence (scope.Space 1))) ∷
    (Referenced 3 4096 kind.Load) ∷ []

-- Ways of one slot each. The first leaf's walk caches its section; the second leaf displaces the
-- first: the section's way is another, so what is cached of it is removed: 1 invalidated. Both
-- walks look two ways for each of three orders.
abbrev pub a_displaced_1_gib_leaf_rows : List Row
a_displaced_1_gib_leaf_rows = (record plain_row { frames = 4194304; table = table.Cuckoo 2 0 2 100 4 1 8 8 (4 ∷ 4 ∷ []) }) ∷ []

-- What is served then.
abbrev pub a_displaced_1_gib_leaf_items : List Item
a_displaced_1_gib_leaf_items =
    (Command (event.Map 0 1073741824 order.G1 perm_r__u)) ∷
    (Referenced 1 1073741824 kind.Load) ∷
    (Command (event.Map 0 6442450944 order.G1 perm_r__u)) ∷
    (Referenced 2 1073741824 kind.Load) ∷ []

-- Pages 1, 19 and 22 of space 1, in a tree that is kept by hashes of keys of space 1: they are found
-- by 1, 2 and 3 loads, and page 1 again by 1.
abbrev pub ranges_of_space_1_rows : List Row
ranges_of_space_1_rows = (record plain_row { table = table.Range 8 0 }) ∷ []

-- What is served then.
abbrev pub ranges_of_space_1_items : List Item
ranges_of_space_1_items =
    (Command (event.Space 1)) ∷
    (Command (event.Map 1 4096 order.K4 perm_r__u)) ∷
    (Command (event.Map 1 77824 order.K4 perm_r__u)) ∷
    (Command (event.Map 1 90112 order.K4 perm_r__u)) ∷
    (Referenced 1 4096 kind.Load) ∷
    (Referenced 2 77824 kind.Load) ∷
    (Referenced 3 90112 kind.Load) ∷
    (Referenced 4 4096 kind.Load) ∷ []

-- A cache of two nodes of level 0. Pages 1, 513 and 1025 are in three of them. The walks of pages 1
-- and 513 are 3 loads each and fill the cache. Page 2 is unmapped: its node is cached, 1 load, and
-- comes to the front. So page 1025, 3 loads, takes the place of page 513's node, and page 1 begins
-- at its own again, 1 load. Loads 3 + 3 + 1 + 3 + 1 = 11, 2 cache hits. The frames are 0, 1 and 2:
-- the addresses are 0 + 1000 + 2000 + 0 = 3000.
abbrev pub an_unmapped_page_touches_a_node_tag_rows : List Row
an_unmapped_page_touches_a_node_tag_rows = (record plain_row { table = table.Radix 64 (2 ∷ 0 ∷ 0 ∷ 0 ∷ []) }) ∷ []

-- What is served then.
abbrev pub an_unmapped_page_touches_a_node_tag_items : List Item
an_unmapped_page_touches_a_node_tag_items =
    (Command (event.Map 0 4096 order.K4 perm_r__u)) ∷
    (Command (event.Map 0 2101248 order.K4 perm_r__u)) ∷
    (Command (event.Map 0 4198400 order.K4 perm_r__u)) ∷
    (Referenced 1 4096 kind.Load) ∷
    (Referenced 2 2101248 kind.Load) ∷
    (Referenced 3 8192 kind.Load) ∷
    (Referenced 4 4198400 kind.Load) ∷
    (Referenced 5 4096 kind.Load) ∷ []

-- Eight buckets, by the hash's lowest three bits. The 4 KiB tag of page 262144 has 4, as that of
-- page 4, which is there: 2 loads. The tag of 2 MiB block 512, 2^60 + 512, has 2, an empty bucket: 1
-- load. That of 1 GiB block 1, 2^61 + 1, has 1: 2 loads. In sum 5. The leaf's frame is 262144.
abbrev pub a_1_gib_leaf_hashed_rows : List Row
a_1_gib_leaf_hashed_rows = (record plain_row { frames = 524288; table = table.Hashed 8 8 }) ∷ []

-- What is served then.
abbrev pub a_1_gib_leaf_hashed_items : List Item
a_1_gib_leaf_hashed_items =
    (Command (event.Map 0 16384 order.K4 perm_r__u)) ∷
    (Command (event.Map 0 1073741824 order.G1 perm_r__u)) ∷
    (Referenced 1 1073741824 kind.Load) ∷ []

-- Eight buckets, as above: page 2 has 2, and so has the tag of 2 MiB block 3,
-- 2^60 + 3. So bucket 2 is [2^60 + 3, 2], and page 2 is found by 3 loads. Page 0 is unmapped: its
-- tag has 0, the tag of 2 MiB block 0, 2^60, has 1, and both buckets are empty, 1 load each; that of
-- 1 GiB block 0, 2^61, has 2, 3 loads. In sum 8. Page 2 has frame 0.
abbrev pub buckets_of_large_tags_rows : List Row
buckets_of_large_tags_rows = (record plain_row { frames = 1024; table = table.Hashed 8 8 }) ∷ []

-- What is served then.
abbrev pub buckets_of_large_tags_items : List Item
buckets_of_large_tags_items =
    (Command (event.Map 0 8192 order.K4 perm_r__u)) ∷
    (Command (event.Map 0 6291456 order.M2 perm_r__u)) ∷
    (Referenced 1 8192 kind.Load) ∷
    (Referenced 2 0 kind.Load) ∷ []

-- Level 1 takes leaves of 4 KiB and 2 MiB, level 2 those of 1 GiB. The first access misses in both,
-- walks by 1 load and fills level 2 alone; the second misses in level 1 and hits in level 2.
abbrev pub an_array_of_1_gib_leaves_rows : List Row
an_array_of_1_gib_leaves_rows = (record plain_row { frames = 262144; tlb = (record { level = 1; sets = 1; width = 4; k4 = true; m2 = true; g1 = false; serves = serves.All }) ∷ (record { level = 2; sets = 1; width = 4; k4 = false; m2 = false; g1 = true; serves = serves.All }) ∷ [] }) ∷ []

-- What is served then.
abbrev pub an_array_of_1_gib_leaves_items : List Item
an_array_of_1_gib_leaves_items =
    (Command (event.Map 0 1073741824 order.G1 perm_r__u)) ∷
    (Referenced 1 1073745920 kind.Load) ∷
    (Referenced 2 1073745920 kind.Load) ∷ []

-- Five nodes: two roots, two for page 1, and one is free. A move to the next GiB needs two, so it is
-- refused by 8, and the leaf's entry stays in the array: the second access hits. A map of page 513
-- needs one node, and is done.
abbrev pub a_move_refused_for_room_rows : List Row
a_move_refused_for_room_rows = (record plain_row { table = table.Radix 5 (0 ∷ 0 ∷ 0 ∷ 0 ∷ []); tlb = one_array }) ∷ []

-- What is served then.
abbrev pub a_move_refused_for_room_items : List Item
a_move_refused_for_room_items =
    (Command (event.Map 0 4096 order.K4 perm_r__u)) ∷
    (Referenced 1 4096 kind.Load) ∷
    (Command (event.Move 0 4096 1073745920 order.K4)) ∷
    (Referenced 2 4096 kind.Load) ∷
    (Command (event.Map 0 2101248 order.K4 perm_r__u)) ∷ []

-- Address ffffffc000001000 is of the upper half: its page is 2^26 + 1. Each fence removes the leaf,
-- so all three accesses walk, by 3 loads, and fill.
abbrev pub fences_in_the_upper_half_rows : List Row
fences_in_the_upper_half_rows = (record plain_row { tlb = one_array }) ∷ []

-- What is served then.
abbrev pub fences_in_the_upper_half_items : List Item
fences_in_the_upper_half_items =
    (Command (event.Map 0 18446743798831648768 order.K4 perm_r__u)) ∷
    (Referenced 1 18446743798831648768 kind.Load) ∷
    (Command (event.Fence (scope.Page 0 18446743798831648768))) ∷
    (Referenced 2 18446743798831648768 kind.Load) ∷
    (Command (event.Fence (scope.Addr 18446743798831648768))) ∷
    (Referenced 3 18446743798831648768 kind.Load) ∷ []

-- The same page: of its 27 bits the highest nine are 256, the next 0, the lowest 1. Its node of
-- level 1 is number 2, that of level 0 number 3, after the two roots. The pointers are 801 and c01,
-- and the leaf's word is d7 (V, R, W, U, A and D).
abbrev pub an_image_of_the_upper_half_rows : List Row
an_image_of_the_upper_half_rows = plain_row ∷ []

-- What is served then.
abbrev pub an_image_of_the_upper_half_items : List Item
an_image_of_the_upper_half_items = (Command (event.Map 0 18446743798831648768 order.K4 perm_rw_u)) ∷ []

-- Two ways of four slots. Keys 0 and 2 begin in way 1, for their hashes of way 2 are odd; their slots
-- there are 0 and 2. The words of both leaves are d3 (V, R, U, A and D), that of key 2 with frame 1:
-- 211 and 1024 + 211. The protect gives key 2 W, 4 more.
abbrev pub a_protected_leaf_has_another_word_row : Row
a_protected_leaf_has_another_word_row = record plain_row { table = table.Cuckoo 2 2 2 100 1 1 4 4 (0 ∷ 0 ∷ []) }

-- What is served then.
abbrev pub a_protected_leaf_has_another_word_items : List Item
a_protected_leaf_has_another_word_items =
    (Command (event.Map 0 0 order.K4 perm_r__u)) ∷
    (Command (event.Map 0 8192 order.K4 perm_r__u)) ∷
    (Command (event.Protect 0 8192 order.K4 perm_rw_u)) ∷ []

-- The words that the ways of the 4 KiB leaves keep.
abbrev pub k4_words : Shape → List (List ℕ)
k4_words (Cuckoo rules ways) = map (λ w. map (λ e. e.word) w.entries) ways.k4
k4_words shape = []

-- Ways of one slot. Key 0 fills one of them, to 100 hundredths, which is more than 99: it begins to
-- grow.
abbrev pub a_full_way_above_its_threshold_rows : List Row
a_full_way_above_its_threshold_rows = (record plain_row { table = table.Cuckoo 2 0 4 99 1 1 4 4 (0 ∷ 0 ∷ []) }) ∷ []

-- What is served then.
abbrev pub a_full_way_above_its_threshold_items : List Item
a_full_way_above_its_threshold_items = (Command (event.Map 0 0 order.K4 perm_r__u)) ∷ []

-- Pages 1 and 513 are in two sections of 2 MiB, and in the only section of 1 GiB.
abbrev pub two_sections_in_one_rows : List Row
two_sections_in_one_rows = (record plain_row { table = table.Cuckoo 2 4 4 100 4 1 4 1 (0 ∷ 0 ∷ []) }) ∷ []

-- What is served then.
abbrev pub two_sections_in_one_items : List Item
two_sections_in_one_items =
    (Command (event.Map 0 4096 order.K4 perm_r__u)) ∷
    (Command (event.Map 0 2101248 order.K4 perm_r__u)) ∷ []

-- Room for one section of 2 MiB. Page 1 of space 1 is in another than page 1 of space 0: refused by
-- 8.
abbrev pub sections_of_two_spaces_rows : List Row
sections_of_two_spaces_rows = (record plain_row { table = table.Cuckoo 2 4 4 100 4 1 1 4 (0 ∷ 0 ∷ []) }) ∷ []

-- What is served then.
abbrev pub sections_of_two_spaces_items : List Item
sections_of_two_spaces_items =
    (Command (event.Map 0 4096 order.K4 perm_r__u)) ∷
    (Command (event.Map 1 4096 order.K4 perm_r__u)) ∷ []

-- Room for three ranges. Each of four pages in a row differs from the one before it in one bit of
-- its permission: in x, in w, in u. So there are four ranges, and the last map is refused by 8.
abbrev pub ranges_are_of_one_permission_rows : List Row
ranges_are_of_one_permission_rows = (record plain_row { table = table.Range 3 0 }) ∷ []

-- What is served then.
abbrev pub ranges_are_of_one_permission_items : List Item
ranges_are_of_one_permission_items =
    (Command (event.Map 0 4096 order.K4 perm_r__u)) ∷
    (Command (event.Map 0 8192 order.K4 perm_r_xu)) ∷
    (Command (event.Map 0 12288 order.K4 perm_rwxu)) ∷
    (Command (event.Map 0 16384 order.K4 perm_rwx_)) ∷ []
