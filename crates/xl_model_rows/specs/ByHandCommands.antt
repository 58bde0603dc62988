-- Refusals in order and demand, each row worked out by hand, with its answer lines.
use Rattle.std.specs.Prelude.{List, [], ◌∷◌}
use Rattle.xl_model.specs.declared.address.Order.TheVariants as order
use Rattle.xl_model.specs.declared.address.Kind.TheVariants as kind
use Rattle.xl_model.specs.declared.event.Event.TheVariants as event
use Rattle.xl_model.specs.declared.event.Scope.TheVariants as scope
use Rattle.xl_model.specs.declared.row.Table.TheVariants as table
use Rattle.xl_model.specs.Rows.{Row}
use Rattle.xl_model.specs.declared.script.Item.{Item}
use Rattle.xl_model.specs.declared.script.Item.TheVariants.{Command, Declared, Referenced}
use Rattle.xl_model_rows.specs.Plain.{plain_row, perm_r__u, perm_rw_u, perm_r___}

-- One frame, a radix table of 4 frames: 2 roots, and 2 nodes that the first map takes, as it takes
-- the frame. Address 2^38 is not canonical under Sv39. In turn: space 2 isn't there, and the
-- address is neither canonical nor aligned: 1. Neither canonical nor aligned: 2. Not aligned, over
-- the leaf, and no frame: 3. Not aligned, and no leaf: 3. No leaf to move, and the target is taken:
-- 4. The 4 KiB leaf named as 2 MiB, and the target is taken: 5. The page is taken, and no frame: 6.
-- No frame, and no node for the next 2 MiB: 7. A move needs no frame, but a node: 8.
abbrev pub refusals_in_order_rows : List Row
refusals_in_order_rows = (record plain_row { frames = 1; table = table.Radix 4 (0 ∷ 0 ∷ 0 ∷ 0 ∷ []) }) ∷ []

-- What is served then.
abbrev pub refusals_in_order_items : List Item
refusals_in_order_items =
    (Command (event.Map 0 0 order.K4 perm_r__u)) ∷
    (Command (event.Map 2 274877908992 order.K4 perm_r__u)) ∷
    (Command (event.Map 0 274877908992 order.K4 perm_r__u)) ∷
    (Command (event.Map 0 2048 order.K4 perm_r__u)) ∷
    (Command (event.Unmap 0 10240 order.K4)) ∷
    (Command (event.Move 0 8192 0 order.K4)) ∷
    (Command (event.Move 0 0 0 order.M2)) ∷
    (Command (event.Map 0 0 order.K4 perm_r__u)) ∷
    (Command (event.Map 0 2097152 order.K4 perm_r__u)) ∷
    (Command (event.Move 0 0 2097152 order.K4)) ∷ []

-- Page 1 is mapped. In turn: no such space, whatever the addresses: 1. `from` is not aligned and
-- `to` not canonical: 2. `from` not canonical, `to` not aligned: 2. `from` has no leaf, `to` is not
-- aligned: 3. `from` is not aligned: 3. Page 1 as 2 MiB is not aligned: 3. Page 0 as 2 MiB has no
-- leaf, though the block has one: 4. Page 1 to page 2 is done. Page 1 is then empty: 4.
abbrev pub moves_refused_in_order_rows : List Row
moves_refused_in_order_rows = plain_row ∷ []

-- What is served then.
abbrev pub moves_refused_in_order_items : List Item
moves_refused_in_order_items =
    (Command (event.Map 0 4096 order.K4 perm_r__u)) ∷
    (Command (event.Move 2 274877906944 2048 order.K4)) ∷
    (Command (event.Move 0 2048 274877906944 order.K4)) ∷
    (Command (event.Move 0 274877906944 2048 order.K4)) ∷
    (Command (event.Move 0 12288 2048 order.K4)) ∷
    (Command (event.Move 0 6144 8192 order.K4)) ∷
    (Command (event.Move 0 4096 0 order.M2)) ∷
    (Command (event.Move 0 0 2097152 order.M2)) ∷
    (Command (event.Move 0 4096 8192 order.K4)) ∷
    (Command (event.Move 0 4096 12288 order.K4)) ∷ []

-- A 2 MiB leaf at page 512, a 4 KiB leaf at page 0. A protect: no such space, and not canonical: 1; not canonical, and not
-- aligned: 2; not aligned, and nothing there: 3; nothing there: 4; page 0 as 2 MiB: 5; page 513 as 4 KiB, inside the large leaf:
-- 5. An unmap: page 512 as 4 KiB, where the large leaf begins: 5; the leaf as it is: done; again: 4.
abbrev pub protects_and_unmaps_refused_in_order_rows : List Row
protects_and_unmaps_refused_in_order_rows = (record plain_row { frames = 1024 }) ∷ []

-- What is served then.
abbrev pub protects_and_unmaps_refused_in_order_items : List Item
protects_and_unmaps_refused_in_order_items =
    (Command (event.Map 0 2097152 order.M2 perm_r__u)) ∷
    (Command (event.Map 0 0 order.K4 perm_r__u)) ∷
    (Command (event.Protect 2 274877906944 order.K4 perm_r__u)) ∷
    (Command (event.Protect 0 274877908992 order.K4 perm_r__u)) ∷
    (Command (event.Protect 0 6144 order.K4 perm_r__u)) ∷
    (Command (event.Protect 0 4096 order.K4 perm_r__u)) ∷
    (Command (event.Protect 0 0 order.M2 perm_r__u)) ∷
    (Command (event.Protect 0 2101248 order.K4 perm_r__u)) ∷
    (Command (event.Unmap 0 2097152 order.K4)) ∷
    (Command (event.Unmap 0 2097152 order.M2)) ∷
    (Command (event.Unmap 0 2097152 order.M2)) ∷ []

-- Two spaces. Space 2 isn't there: 1, for a switch, a fence by space, and a fence by page whose
-- address isn't canonical either. An address that isn't canonical: 2, by page and by address. An
-- address needn't be aligned. Refused fences count in no other place: 2 fences, 2 accepted.
abbrev pub fences_and_spaces_refused_rows : List Row
fences_and_spaces_refused_rows = plain_row ∷ []

-- What is served then.
abbrev pub fences_and_spaces_refused_items : List Item
fences_and_spaces_refused_items =
    (Command (event.Space 2)) ∷
    (Command (event.Fence (scope.Space 2))) ∷
    (Command (event.Fence (scope.Page 2 274877906944))) ∷
    (Command (event.Fence (scope.Page 0 274877906944))) ∷
    (Command (event.Fence (scope.Addr 274877906944))) ∷
    (Command (event.Fence (scope.Addr 6145))) ∷
    (Command (event.Fence (scope.Page 1 6145))) ∷ []

-- Two ways of one slot that never grow, and one 2 MiB section. Keys 0 and 1 are in ways 1 and 0.
-- Page 513 would be in a second section, and its attempt would fail: 8, with no kick. Page 2 is in
-- the first: its attempt fails after two kicks, undone: 9.
abbrev pub no_room_before_the_cap_rows : List Row
no_room_before_the_cap_rows = (record plain_row { table = table.Cuckoo 2 0 0 50 2 1 1 4 (0 ∷ 0 ∷ []) }) ∷ []

-- What is served then.
abbrev pub no_room_before_the_cap_items : List Item
no_room_before_the_cap_items =
    (Command (event.Map 0 0 order.K4 perm_r__u)) ∷
    (Command (event.Map 0 4096 order.K4 perm_r__u)) ∷
    (Command (event.Map 0 2101248 order.K4 perm_r__u)) ∷
    (Command (event.Map 0 8192 order.K4 perm_r__u)) ∷ []

-- An area of space 1 has pages 0 to 15. Page 1 in space 0 is unmapped, 1 load, and nothing is
-- mapped. In space 1 it is unmapped, 1 load, then mapped at frame 0, then served: 3 loads.
abbrev pub an_area_of_another_space_rows : List Row
an_area_of_another_space_rows = plain_row ∷ []

-- What is served then.
abbrev pub an_area_of_another_space_items : List Item
an_area_of_another_space_items =
    (Declared (record { space = 1; page = 0; pages = 16; order = order.K4; perm = perm_r__u })) ∷
    (Referenced 1 4096 kind.Load) ∷
    (Command (event.Space 1)) ∷
    (Referenced 2 4096 kind.Load) ∷ []

-- Three areas over page 1: one of space 1 with r--u, then one of space 0 with rw-u, then one of
-- space 0 with r--u. A store in space 0 is mapped by the second, the first of its space, and
-- served: 1 + 3 loads. A fetch is denied, 3 loads.
abbrev pub two_areas_over_one_page_rows : List Row
two_areas_over_one_page_rows = plain_row ∷ []

-- What is served then.
abbrev pub two_areas_over_one_page_items : List Item
two_areas_over_one_page_items =
    (Declared (record { space = 1; page = 0; pages = 16; order = order.K4; perm = perm_r__u })) ∷
    (Declared (record { space = 0; page = 0; pages = 16; order = order.K4; perm = perm_rw_u })) ∷
    (Declared (record { space = 0; page = 0; pages = 16; order = order.K4; perm = perm_r__u })) ∷
    (Referenced 1 4096 kind.Store) ∷
    (Referenced 2 4096 kind.Fetch) ∷ []

-- An area of pages 512 to 1535 in blocks of 2 MiB. Address 234567 is unmapped, 1 load; its block at
-- 200000 is mapped at frame 0; served as 34567, 2 loads. Address 200008 is in the same block: 2
-- loads. Address 400000 is in the next: unmapped, the walk reads the node of level 1 too: 2 loads;
-- mapped at frame 512, 2 loads.
abbrev pub a_demand_of_a_large_page_rows : List Row
a_demand_of_a_large_page_rows = (record plain_row { frames = 1024 }) ∷ []

-- What is served then.
abbrev pub a_demand_of_a_large_page_items : List Item
a_demand_of_a_large_page_items =
    (Declared (record { space = 0; page = 512; pages = 1024; order = order.M2; perm = perm_r__u })) ∷
    (Referenced 1 2311527 kind.Load) ∷
    (Referenced 2 2097160 kind.Load) ∷
    (Referenced 3 4194304 kind.Load) ∷ []

-- Page 513 is mapped, frame 0. Pages 512 to 1023 are an area of 2 MiB pages. Page 514 is unmapped,
-- 3 loads (its nodes are those of page 513); the map overlaps the leaf of page 513: 6. No second
-- access. An area of 4 KiB pages at page 1: unmapped, the root's word is there, the node of level 1
-- has none: 2 loads; the one frame is taken: 7.
abbrev pub a_demand_that_is_refused_rows : List Row
a_demand_that_is_refused_rows = (record plain_row { frames = 1 }) ∷ []

-- What is served then.
abbrev pub a_demand_that_is_refused_items : List Item
a_demand_that_is_refused_items =
    (Command (event.Map 0 2101248 order.K4 perm_r__u)) ∷
    (Declared (record { space = 0; page = 512; pages = 512; order = order.M2; perm = perm_r__u })) ∷
    (Declared (record { space = 0; page = 0; pages = 16; order = order.K4; perm = perm_r__u })) ∷
    (Referenced 1 2105344 kind.Load) ∷
    (Referenced 2 4096 kind.Load) ∷ []

-- The area has all pages below 2^45. Page 1 is mapped read-only: a store is denied, 3 loads, and
-- nothing is mapped. Address 2^38 isn't canonical: no walk, no map. Page 2 is unmapped, 3 loads,
-- then mapped at frame 1 and served, 3 loads.
abbrev pub only_an_unmapped_access_demands_rows : List Row
only_an_unmapped_access_demands_rows = plain_row ∷ []

-- What is served then.
abbrev pub only_an_unmapped_access_demands_items : List Item
only_an_unmapped_access_demands_items =
    (Command (event.Map 0 4096 order.K4 perm_r__u)) ∷
    (Declared (record { space = 0; page = 0; pages = 35184372088832; order = order.K4; perm = perm_rw_u })) ∷
    (Referenced 1 4096 kind.Store) ∷
    (Referenced 2 274877906944 kind.Load) ∷
    (Referenced 3 8192 kind.Load) ∷ []

-- Pages 4 to 7. Page 4 before the area is declared: unmapped, 1 load. Then page 3: 1 load,
-- unmapped. Page 4: 1 load, mapped at frame 0, 3 loads. Page 7: unmapped, 3 loads, mapped at frame
-- 1, 3 loads. Page 8: 3 loads, unmapped.
abbrev pub the_edges_of_an_area_rows : List Row
the_edges_of_an_area_rows = plain_row ∷ []

-- What is served then.
abbrev pub the_edges_of_an_area_items : List Item
the_edges_of_an_area_items =
    (Referenced 1 16384 kind.Load) ∷
    (Declared (record { space = 0; page = 4; pages = 4; order = order.K4; perm = perm_r__u })) ∷
    (Referenced 2 12288 kind.Load) ∷
    (Referenced 3 16384 kind.Load) ∷
    (Referenced 4 28672 kind.Load) ∷
    (Referenced 5 32768 kind.Load) ∷ []

-- Address ffffffc000001000 is canonical under Sv39; its page in the table is 2^26 + 1, while its
-- address divided by 4096 is ffffffc000001. An area from 2^26 without u isn't meant; the second
-- one, at ffffffc000000, is: mapped with r--u and served. Loads 1 + 3.
abbrev pub an_area_of_high_addresses_rows : List Row
an_area_of_high_addresses_rows = plain_row ∷ []

-- What is served then.
abbrev pub an_area_of_high_addresses_items : List Item
an_area_of_high_addresses_items =
    (Declared (record { space = 0; page = 67108864; pages = 16; order = order.K4; perm = perm_r___ })) ∷
    (Declared (record { space = 0; page = 4503599560261632; pages = 16; order = order.K4; perm = perm_r__u })) ∷
    (Referenced 1 18446743798831648776 kind.Load) ∷ []
