-- Hashed and clustered tables, each row worked out by hand: the places of tags.
use Rattle.std.specs.Prelude.{List, [], ◌∷◌}
use Rattle.xl_model.specs.declared.address.Order.TheVariants as order
use Rattle.xl_model.specs.declared.address.Kind.TheVariants as kind
use Rattle.xl_model.specs.declared.event.Event.TheVariants as event
use Rattle.xl_model.specs.declared.row.Table.TheVariants as table
use Rattle.xl_model.specs.Rows.{Row}
use Rattle.xl_model.specs.declared.script.Item.{Item}
use Rattle.xl_model.specs.declared.script.Item.TheVariants.{Command, Referenced}
use Rattle.xl_model_rows.specs.Plain.{plain_row, perm_r__u, perm_rw_u}

-- One bucket, newest first. Pages 1, 2, 3: [3, 2, 1]. Page 1 moves to page 5: [5, 3, 2]. Page 5:
-- the head and 1 entry, 2 loads. Page 2: the head and 3 entries, 4 loads. The frames are 0 and 1.
abbrev pub a_moved_tag_is_in_front_rows : List Row
a_moved_tag_is_in_front_rows = (record plain_row { table = table.Hashed 1 8 }) ∷ []

-- What is served then.
abbrev pub a_moved_tag_is_in_front_items : List Item
a_moved_tag_is_in_front_items =
    (Command (event.Map 0 4096 order.K4 perm_r__u)) ∷
    (Command (event.Map 0 8192 order.K4 perm_r__u)) ∷
    (Command (event.Map 0 12288 order.K4 perm_r__u)) ∷
    (Command (event.Move 0 4096 20480 order.K4)) ∷
    (Referenced 1 20480 kind.Load) ∷
    (Referenced 2 8192 kind.Load) ∷ []

-- One bucket: [3, 2, 1]. A protect of page 1 leaves it last: the head and 3 entries, 4 loads. Page
-- 3: 2 loads. The frames are 0 and 2; the protected page takes a store.
abbrev pub a_protect_leaves_the_place_rows : List Row
a_protect_leaves_the_place_rows = (record plain_row { table = table.Hashed 1 8 }) ∷ []

-- What is served then.
abbrev pub a_protect_leaves_the_place_items : List Item
a_protect_leaves_the_place_items =
    (Command (event.Map 0 4096 order.K4 perm_r__u)) ∷
    (Command (event.Map 0 8192 order.K4 perm_r__u)) ∷
    (Command (event.Map 0 12288 order.K4 perm_r__u)) ∷
    (Command (event.Protect 0 4096 order.K4 perm_rw_u)) ∷
    (Referenced 1 4096 kind.Store) ∷
    (Referenced 2 12288 kind.Load) ∷ []

-- One bucket: [3, 2, 1]. Without page 2: [3, 1]. Page 1: the head and 2 entries, 3 loads. Page 2 is
-- absent: three orders, each the head and 2 entries: 9 loads. Page 2 comes again, with frame 1: [2,
-- 3, 1]. Page 2: 2 loads. Page 1: 4 loads. The addresses are 0 + 1000 + 0.
abbrev pub a_removal_closes_up_rows : List Row
a_removal_closes_up_rows = (record plain_row { table = table.Hashed 1 8 }) ∷ []

-- What is served then.
abbrev pub a_removal_closes_up_items : List Item
a_removal_closes_up_items =
    (Command (event.Map 0 4096 order.K4 perm_r__u)) ∷
    (Command (event.Map 0 8192 order.K4 perm_r__u)) ∷
    (Command (event.Map 0 12288 order.K4 perm_r__u)) ∷
    (Command (event.Unmap 0 8192 order.K4)) ∷
    (Referenced 1 4096 kind.Load) ∷
    (Referenced 2 8192 kind.Load) ∷
    (Command (event.Map 0 8192 order.K4 perm_r__u)) ∷
    (Referenced 3 8192 kind.Load) ∷
    (Referenced 4 4096 kind.Load) ∷ []

-- Two buckets by the hash's lowest bit. Of pages 0, 2, 3 and 1 the bits are 0, 0, 0 and 1: bucket 0
-- is [3, 2, 0], bucket 1 is [1]. Page 1: 2 loads. Page 0: the head and 3 entries, 4 loads. Page 4
-- has bit 0 and is absent: 4 loads; then the 2 MiB tag of block 0, bit 1: the head and 1 entry, 2
-- loads; then the 1 GiB tag of block 0, bit 0: 4 loads; in sum 10. The frames of pages 1 and 0 are
-- 3 and 0.
abbrev pub two_buckets_rows : List Row
two_buckets_rows = (record plain_row { table = table.Hashed 2 8 }) ∷ []

-- What is served then.
abbrev pub two_buckets_items : List Item
two_buckets_items =
    (Command (event.Map 0 0 order.K4 perm_r__u)) ∷
    (Command (event.Map 0 8192 order.K4 perm_r__u)) ∷
    (Command (event.Map 0 12288 order.K4 perm_r__u)) ∷
    (Command (event.Map 0 4096 order.K4 perm_r__u)) ∷
    (Referenced 1 4096 kind.Load) ∷
    (Referenced 2 0 kind.Load) ∷
    (Referenced 3 16384 kind.Load) ∷ []

-- A clustered table of one bucket. Page 1 makes block 0 of 4 KiB pages; the 2 MiB leaf at page 512
-- makes block 0 of 2 MiB pages (it is the second of sixteen); the newest is in front: [2 MiB block,
-- 4 KiB block]. Page 2: the head, 2 blocks, and its slot, which is empty: 4 loads; then 2 MiB: the
-- head, 1 block, and slot 0, empty: 3 loads; then 1 GiB: the head and 2 blocks: 3 loads; unmapped
-- after 10. Page 512: 4 KiB pages of block 32 are absent: 3 loads; 2 MiB: 3 loads; in sum 6. Page
-- 1: 4 loads. The frames are 0 for page 1 and 512 for page 512.
abbrev pub empty_slots_of_two_blocks_rows : List Row
empty_slots_of_two_blocks_rows = (record plain_row { frames = 1024; table = table.Clustered 1 8 }) ∷ []

-- What is served then.
abbrev pub empty_slots_of_two_blocks_items : List Item
empty_slots_of_two_blocks_items =
    (Command (event.Map 0 4096 order.K4 perm_r__u)) ∷
    (Command (event.Map 0 2097152 order.M2 perm_r__u)) ∷
    (Referenced 1 8192 kind.Load) ∷
    (Referenced 2 2097152 kind.Load) ∷
    (Referenced 3 4096 kind.Load) ∷ []

-- One bucket. Page 1 makes block 0, page 17 block 1: [1, 0]. Page 2 is in block 0, which stays
-- after. Page 2: the head, 2 blocks, the slot: 4 loads. The same again. Page 17: 3 loads. The
-- frames are 2 and 1.
abbrev pub a_page_into_a_block_rows : List Row
a_page_into_a_block_rows = (record plain_row { table = table.Clustered 1 8 }) ∷ []

-- What is served then.
abbrev pub a_page_into_a_block_items : List Item
a_page_into_a_block_items =
    (Command (event.Map 0 4096 order.K4 perm_r__u)) ∷
    (Command (event.Map 0 69632 order.K4 perm_r__u)) ∷
    (Command (event.Map 0 8192 order.K4 perm_r__u)) ∷
    (Referenced 1 8192 kind.Load) ∷
    (Referenced 2 8192 kind.Load) ∷
    (Referenced 3 69632 kind.Load) ∷ []

-- One bucket: page 1 makes block 0, page 17 block 1, and page 2 is in block 0: [1, 0]. The unmap of
-- page 1 leaves block 0 with page 2: 4 loads. The unmap of page 2 removes it. Page 17: 3 loads.
-- Page 2 is absent: three times the head and 1 block: 6 loads. Page 1 makes block 0 again, in
-- front: [0, 1]. Page 17: 4 loads. The addresses are 2000 + 1000 + 1000 = 4000.
abbrev pub an_empty_block_is_removed_rows : List Row
an_empty_block_is_removed_rows = (record plain_row { table = table.Clustered 1 8 }) ∷ []

-- What is served then.
abbrev pub an_empty_block_is_removed_items : List Item
an_empty_block_is_removed_items =
    (Command (event.Map 0 4096 order.K4 perm_r__u)) ∷
    (Command (event.Map 0 69632 order.K4 perm_r__u)) ∷
    (Command (event.Map 0 8192 order.K4 perm_r__u)) ∷
    (Command (event.Unmap 0 4096 order.K4)) ∷
    (Referenced 1 8192 kind.Load) ∷
    (Command (event.Unmap 0 8192 order.K4)) ∷
    (Referenced 2 69632 kind.Load) ∷
    (Referenced 3 8192 kind.Load) ∷
    (Command (event.Map 0 4096 order.K4 perm_r__u)) ∷
    (Referenced 4 69632 kind.Load) ∷ []

-- One bucket: [1, 0]. Page 1 moves to page 3 of the same block, which isn't empty in between, and
-- stays after. Page 3: 4 loads. Page 17: 3 loads. The frames are 0 and 1. One block is left to
-- make, so a third block is refused (8).
abbrev pub a_move_within_a_block_rows : List Row
a_move_within_a_block_rows = (record plain_row { table = table.Clustered 1 2 }) ∷ []

-- What is served then.
abbrev pub a_move_within_a_block_items : List Item
a_move_within_a_block_items =
    (Command (event.Map 0 4096 order.K4 perm_r__u)) ∷
    (Command (event.Map 0 69632 order.K4 perm_r__u)) ∷
    (Command (event.Move 0 4096 12288 order.K4)) ∷
    (Referenced 1 12288 kind.Load) ∷
    (Referenced 2 69632 kind.Load) ∷
    (Command (event.Map 0 135168 order.K4 perm_r__u)) ∷ []

-- One bucket: page 1 of space 0, then page 1 of space 1 in front. In space 0: the head and 2
-- entries, 3 loads, frame 0. In space 1: 2 loads, frame 1.
abbrev pub tags_of_two_spaces_rows : List Row
tags_of_two_spaces_rows = (record plain_row { table = table.Hashed 1 8 }) ∷ []

-- What is served then.
abbrev pub tags_of_two_spaces_items : List Item
tags_of_two_spaces_items =
    (Command (event.Map 0 4096 order.K4 perm_r__u)) ∷
    (Command (event.Map 1 4096 order.K4 perm_r__u)) ∷
    (Referenced 1 4096 kind.Load) ∷
    (Command (event.Space 1)) ∷
    (Referenced 2 4096 kind.Load) ∷ []
