-- Tables of ranges, each row worked out by hand: what is read, cached and removed.
use Rattle.std.specs.Prelude.{List, [], ◌∷◌}
use Rattle.xl_model.specs.declared.address.Order.TheVariants as order
use Rattle.xl_model.specs.declared.address.Kind.TheVariants as kind
use Rattle.xl_model.specs.declared.event.Event.TheVariants as event
use Rattle.xl_model.specs.declared.row.Table.TheVariants as table
use Rattle.xl_model.specs.Rows.{Row}
use Rattle.xl_model.specs.declared.script.Item.{Item}
use Rattle.xl_model.specs.declared.script.Item.TheVariants.{Command, Referenced}
use Rattle.xl_model_rows.specs.Plain.{plain_row, perm_r__u, perm_rw_u}

-- Ranges of one page each at 1, 3, 5, 7, 9, 11, 13: frames 0 to 6 are consecutive, but the pages
-- aren't. The order of their hashes (the least first) is 7 (12ae), 3 (1e53), 11 (3462), 1 (5692), 9
-- (826c), 5 (b6bf), 13 (dcfa). A range is read where its hash is the least of those from it to the
-- place. Page 8 is a gap: to the left 7 is read, and nothing beyond it is less; to the right 9,
-- then 11 is less, 13 is not: 3 loads. Page 6: left 5, then 3, not 1; right 7, nothing beyond: 3
-- loads. Page 11 is a range: itself, 9 is not less than it, 7 is; 13 is not: 2 loads. Page 5:
-- itself; left 3, not 1; right 7, not 9 and beyond: 3 loads. Page 0: right 1, then 3, not 5, then
-- 7, not 9, 11, 13: 3 loads. Page 20: left 13, then 11, not 9, then 7, no other: 3 loads. In sum 3
-- + 3 + 2 + 3 + 3 + 3 = 17. Page 11 has frame 5, page 5 frame 2: the addresses are 5000 + 2000 =
-- 7000.
abbrev pub reads_on_both_sides_of_a_gap_rows : List Row
reads_on_both_sides_of_a_gap_rows = (record plain_row { table = table.Range 8 0 }) ∷ []

-- What is served then.
abbrev pub reads_on_both_sides_of_a_gap_items : List Item
reads_on_both_sides_of_a_gap_items =
    (Command (event.Map 0 4096 order.K4 perm_r__u)) ∷
    (Command (event.Map 0 12288 order.K4 perm_r__u)) ∷
    (Command (event.Map 0 20480 order.K4 perm_r__u)) ∷
    (Command (event.Map 0 28672 order.K4 perm_r__u)) ∷
    (Command (event.Map 0 36864 order.K4 perm_r__u)) ∷
    (Command (event.Map 0 45056 order.K4 perm_r__u)) ∷
    (Command (event.Map 0 53248 order.K4 perm_r__u)) ∷
    (Referenced 1 32768 kind.Load) ∷
    (Referenced 2 24576 kind.Load) ∷
    (Referenced 3 45056 kind.Load) ∷
    (Referenced 4 20480 kind.Load) ∷
    (Referenced 5 0 kind.Load) ∷
    (Referenced 6 81920 kind.Load) ∷ []

-- Pages 1 to 3 are one range (frames 0 to 2), page 9 another (frame 3), page 7 a third (frame 4).
-- The hashes are, the least first: 7 (12ae), 1 (5692), 9 (826c). Page 3 is in the range at 1: it is
-- read, and 7 is less than it, 9 is not less than 7: 2 loads. Page 4 is the gap after it: left 1,
-- right 7: 2 loads. Page 8: left 7, right 9: 2 loads. Page 0: right 1, then 7: 2 loads. The address
-- of page 3 is 2000.
abbrev pub reads_inside_a_long_range_rows : List Row
reads_inside_a_long_range_rows = (record plain_row { table = table.Range 8 0 }) ∷ []

-- What is served then.
abbrev pub reads_inside_a_long_range_items : List Item
reads_inside_a_long_range_items =
    (Command (event.Map 0 4096 order.K4 perm_r__u)) ∷
    (Command (event.Map 0 8192 order.K4 perm_r__u)) ∷
    (Command (event.Map 0 12288 order.K4 perm_r__u)) ∷
    (Command (event.Map 0 36864 order.K4 perm_r__u)) ∷
    (Command (event.Map 0 28672 order.K4 perm_r__u)) ∷
    (Referenced 1 12288 kind.Load) ∷
    (Referenced 2 16384 kind.Load) ∷
    (Referenced 3 32768 kind.Load) ∷
    (Referenced 4 0 kind.Load) ∷ []

-- Page 1 of space 0 (hash 5692) and page 1 of space 1 (hash 092b, of 2^52 + 1), which is the root.
-- Page 5 of space 0 is a gap between them: both are read, 2 loads. Page 1 of space 0: 2 loads. Page
-- 0 of space 0: the range at 1 and then the root, 2 loads. In space 1, page 1: the root, 1 load;
-- page 9, beyond it: 1 load. The frames are 0 and 1.
abbrev pub ranges_of_both_spaces_in_one_treap_rows : List Row
ranges_of_both_spaces_in_one_treap_rows = (record plain_row { table = table.Range 8 0 }) ∷ []

-- What is served then.
abbrev pub ranges_of_both_spaces_in_one_treap_items : List Item
ranges_of_both_spaces_in_one_treap_items =
    (Command (event.Map 0 4096 order.K4 perm_r__u)) ∷
    (Command (event.Map 1 4096 order.K4 perm_r__u)) ∷
    (Referenced 1 20480 kind.Load) ∷
    (Referenced 2 4096 kind.Load) ∷
    (Referenced 3 0 kind.Load) ∷
    (Command (event.Space 1)) ∷
    (Referenced 4 4096 kind.Load) ∷
    (Referenced 5 36864 kind.Load) ∷ []

-- A range TLB of two. Page 1 alone is a range: 1 load, cached: [1 to 1]. Page 2 joins it, with
-- frame 1; the map purges nothing. Page 2: the cached range doesn't hold it, 1 load, filled beside
-- the shorter: [1 to 2, 1 to 1]. Page 1: both hold it, the newest hits and stays in front: no load.
-- Page 8 (hash d56b, above 5692): the root at 1 and itself, 2 loads, filled, and the shorter range
-- leaves: [8, 1 to 2]. Page 2: hits, no load. Loads 1 + 1 + 2 = 4, 2 cache hits. The addresses are
-- 0 + 1000 + 0 + 2000 + 1000 = 4000.
abbrev pub the_newest_of_two_cached_ranges_rows : List Row
the_newest_of_two_cached_ranges_rows = (record plain_row { table = table.Range 8 2 }) ∷ []

-- What is served then.
abbrev pub the_newest_of_two_cached_ranges_items : List Item
the_newest_of_two_cached_ranges_items =
    (Command (event.Map 0 4096 order.K4 perm_r__u)) ∷
    (Referenced 1 4096 kind.Load) ∷
    (Command (event.Map 0 8192 order.K4 perm_r__u)) ∷
    (Referenced 2 8192 kind.Load) ∷
    (Referenced 3 4096 kind.Load) ∷
    (Command (event.Map 0 32768 order.K4 perm_r__u)) ∷
    (Referenced 4 32768 kind.Load) ∷
    (Referenced 5 8192 kind.Load) ∷ []

-- A range TLB of two; ranges at 1, 4 and 8, the root is 1 (5692), then 4 (b7a4), then 8 (d56b): 1, 2 and 3 loads. Page
-- 1: 1 load, [1]. Page 4: 2 loads, [4, 1]. Page 1: hits, [1, 4]. Page 8: 3 loads, [8, 1]. Page 1: hits. Page 4: 2 loads.
-- Loads 1 + 2 + 3 + 2 = 8. The frames are 0, 1 and 2: the addresses are 0 + 1000 + 0 + 2000 + 0 + 1000 = 4000.
abbrev pub a_touch_of_a_cached_range_rows : List Row
a_touch_of_a_cached_range_rows = (record plain_row { table = table.Range 8 2 }) ∷ []

-- What is served then.
abbrev pub a_touch_of_a_cached_range_items : List Item
a_touch_of_a_cached_range_items =
    (Command (event.Map 0 4096 order.K4 perm_r__u)) ∷
    (Command (event.Map 0 16384 order.K4 perm_r__u)) ∷
    (Command (event.Map 0 32768 order.K4 perm_r__u)) ∷
    (Referenced 1 4096 kind.Load) ∷
    (Referenced 2 16384 kind.Load) ∷
    (Referenced 3 4096 kind.Load) ∷
    (Referenced 4 32768 kind.Load) ∷
    (Referenced 5 4096 kind.Load) ∷
    (Referenced 6 16384 kind.Load) ∷ []

-- Space 0 has the ranges 1 to 2 (hash 5692) and 5 (b6bf), space 1 that of page 1 (hash 092b of 2^52
-- + 1, the root). Page 1 of space 0: 2 loads, the root and itself. Page 5: itself, the range at 1
-- to its left and the root to its right, both of less hash: 3 loads. Page 1 of space 1: 1 load.
-- Three ranges are cached. The unmap of page 2 of space 0 removes the range that holds it, and
-- neither page 5's nor that of space 1, which has no page 2: 1 removed. Page 1 of space 1: hits.
-- Then page 5 of space 0: hits. Page 1: 2 loads. Loads 2 + 3 + 1 + 2 = 8. The frames are 0, 1, 2
-- and 3: the addresses are 0 + 2000 + 3000 + 3000 + 2000 + 0 = a000.
abbrev pub an_unmap_beside_cached_ranges_rows : List Row
an_unmap_beside_cached_ranges_rows = (record plain_row { table = table.Range 8 4 }) ∷ []

-- What is served then.
abbrev pub an_unmap_beside_cached_ranges_items : List Item
an_unmap_beside_cached_ranges_items =
    (Command (event.Map 0 4096 order.K4 perm_r__u)) ∷
    (Command (event.Map 0 8192 order.K4 perm_r__u)) ∷
    (Command (event.Map 0 20480 order.K4 perm_r__u)) ∷
    (Command (event.Map 1 4096 order.K4 perm_r__u)) ∷
    (Referenced 1 4096 kind.Load) ∷
    (Referenced 2 20480 kind.Load) ∷
    (Command (event.Space 1)) ∷
    (Referenced 3 4096 kind.Load) ∷
    (Command (event.Unmap 0 8192 order.K4)) ∷
    (Referenced 4 4096 kind.Load) ∷
    (Command (event.Space 0)) ∷
    (Referenced 5 20480 kind.Load) ∷
    (Referenced 6 4096 kind.Load) ∷ []

-- Page 1 is cached as a range of one page, 1 load; page 2 joins it, and the range of two is cached,
-- 1 load. The unmap of page 2 removes the range that holds page 2: 1. Page 1 hits the shorter one:
-- no load.
abbrev pub an_unmap_beside_a_shorter_range_rows : List Row
an_unmap_beside_a_shorter_range_rows = (record plain_row { table = table.Range 8 4 }) ∷ []

-- What is served then.
abbrev pub an_unmap_beside_a_shorter_range_items : List Item
an_unmap_beside_a_shorter_range_items =
    (Command (event.Map 0 4096 order.K4 perm_r__u)) ∷
    (Referenced 1 4096 kind.Load) ∷
    (Command (event.Map 0 8192 order.K4 perm_r__u)) ∷
    (Referenced 2 8192 kind.Load) ∷
    (Command (event.Unmap 0 8192 order.K4)) ∷
    (Referenced 3 4096 kind.Load) ∷ []

-- As before, but page 1 is unmapped, which both cached ranges hold: 2 removed. Page 2 is then a
-- walk of 1 load.
abbrev pub an_unmap_under_two_cached_ranges_rows : List Row
an_unmap_under_two_cached_ranges_rows = (record plain_row { table = table.Range 8 4 }) ∷ []

-- What is served then.
abbrev pub an_unmap_under_two_cached_ranges_items : List Item
an_unmap_under_two_cached_ranges_items =
    (Command (event.Map 0 4096 order.K4 perm_r__u)) ∷
    (Referenced 1 4096 kind.Load) ∷
    (Command (event.Map 0 8192 order.K4 perm_r__u)) ∷
    (Referenced 2 8192 kind.Load) ∷
    (Command (event.Unmap 0 4096 order.K4)) ∷
    (Referenced 3 8192 kind.Load) ∷ []

-- Ranges 1 to 3 (hash 5692, the root) and 9 (826c). Page 1: 1 load. Page 9: 2 loads. The protect of
-- page 2 removes the range that holds it: 1. Page 9 hits. The ranges are now 1, 2, 3 and 9; the
-- least hash is that of 3 (1e53), then 1 (5692), 9 (826c), 2 (dbd2). Page 3: 1 load. Page 2: 3 and
-- 1 are less: 3 loads. The addresses are 0 + 3000 + 3000 + 2000 + 1000 = 9000.
abbrev pub a_protect_beside_cached_ranges_rows : List Row
a_protect_beside_cached_ranges_rows = (record plain_row { table = table.Range 8 4 }) ∷ []

-- What is served then.
abbrev pub a_protect_beside_cached_ranges_items : List Item
a_protect_beside_cached_ranges_items =
    (Command (event.Map 0 4096 order.K4 perm_r__u)) ∷
    (Command (event.Map 0 8192 order.K4 perm_r__u)) ∷
    (Command (event.Map 0 12288 order.K4 perm_r__u)) ∷
    (Command (event.Map 0 36864 order.K4 perm_r__u)) ∷
    (Referenced 1 4096 kind.Load) ∷
    (Referenced 2 36864 kind.Load) ∷
    (Command (event.Protect 0 8192 order.K4 perm_rw_u)) ∷
    (Referenced 3 36864 kind.Load) ∷
    (Referenced 4 12288 kind.Load) ∷
    (Referenced 5 8192 kind.Load) ∷ []

-- Ranges 1 to 2 (hash 5692, the root) and 9 (826c). Page 1: 1 load. Page 9: 2 loads. The move of
-- page 2 to page 3 removes the range that holds page 2: 1. Page 9 hits. The ranges are now 1, 3 and
-- 9; the root is 3 (1e53). Page 3: 1 load, frame 1. Page 1: 2 loads. The addresses are 0 + 2000 +
-- 2000 + 1000 + 0 = 5000.
abbrev pub a_move_beside_cached_ranges_rows : List Row
a_move_beside_cached_ranges_rows = (record plain_row { table = table.Range 8 4 }) ∷ []

-- What is served then.
abbrev pub a_move_beside_cached_ranges_items : List Item
a_move_beside_cached_ranges_items =
    (Command (event.Map 0 4096 order.K4 perm_r__u)) ∷
    (Command (event.Map 0 8192 order.K4 perm_r__u)) ∷
    (Command (event.Map 0 36864 order.K4 perm_r__u)) ∷
    (Referenced 1 4096 kind.Load) ∷
    (Referenced 2 36864 kind.Load) ∷
    (Command (event.Move 0 8192 12288 order.K4)) ∷
    (Referenced 3 36864 kind.Load) ∷
    (Referenced 4 12288 kind.Load) ∷
    (Referenced 5 4096 kind.Load) ∷ []

-- A table of one range. 2 MiB leaves at pages 512 and 1024 have frames 0 and 512, consecutive in
-- both: one range. A 4 KiB leaf at page 1536 would have frame 1024, consecutive too, but of another
-- order: a second range, refused (8). Page 1025: 1 load, frame 513.
abbrev pub ranges_are_of_one_order_rows : List Row
ranges_are_of_one_order_rows = (record plain_row { frames = 2048; table = table.Range 1 0 }) ∷ []

-- What is served then.
abbrev pub ranges_are_of_one_order_items : List Item
ranges_are_of_one_order_items =
    (Command (event.Map 0 2097152 order.M2 perm_r__u)) ∷
    (Command (event.Map 0 4194304 order.M2 perm_r__u)) ∷
    (Command (event.Map 0 6291456 order.K4 perm_r__u)) ∷
    (Referenced 1 4198400 kind.Load) ∷ []

-- A table of one range. Page 1 of space 0 has frame 0; page 2 of space 1 would have frame 1 and
-- continue in pages and frames, but is of another space: refused (8). Page 2 of space 0, with the
-- same frame, joins. Page 2: 1 load.
abbrev pub ranges_are_of_one_space_rows : List Row
ranges_are_of_one_space_rows = (record plain_row { table = table.Range 1 0 }) ∷ []

-- What is served then.
abbrev pub ranges_are_of_one_space_items : List Item
ranges_are_of_one_space_items =
    (Command (event.Map 0 4096 order.K4 perm_r__u)) ∷
    (Command (event.Map 1 8192 order.K4 perm_r__u)) ∷
    (Command (event.Map 0 8192 order.K4 perm_r__u)) ∷
    (Referenced 1 8192 kind.Load) ∷ []

-- A table of two ranges. Page 1 has frame 0, page 9 frame 1. Page 2 would have frame 2, which
-- doesn't follow frame 0: a third range, refused (8). Page 10, with frame 2, continues after page
-- 9: accepted. The root is 1 (5692, below 826c): page 10 is 2 loads.
abbrev pub ranges_are_consecutive_in_frames_rows : List Row
ranges_are_consecutive_in_frames_rows = (record plain_row { table = table.Range 2 0 }) ∷ []

-- What is served then.
abbrev pub ranges_are_consecutive_in_frames_items : List Item
ranges_are_consecutive_in_frames_items =
    (Command (event.Map 0 4096 order.K4 perm_r__u)) ∷
    (Command (event.Map 0 36864 order.K4 perm_r__u)) ∷
    (Command (event.Map 0 8192 order.K4 perm_r__u)) ∷
    (Command (event.Map 0 40960 order.K4 perm_r__u)) ∷
    (Referenced 1 40960 kind.Load) ∷ []
