-- Accesses of every kind, page sizes and modes.
use Rattle.std.specs.Prelude.{List, [], ◌∷◌, codes}
use Rattle.xl_model.specs.declared.address.Mode.TheVariants as mode
use Rattle.xl_model.specs.declared.address.Order.TheVariants as order
use Rattle.xl_model.specs.declared.address.Kind.TheVariants as kind
use Rattle.xl_model.specs.declared.event.Event.TheVariants as event
use Rattle.xl_model.specs.Rows.{Row}
use Rattle.xl_model.specs.declared.script.Item.{Item}
use Rattle.xl_model.specs.declared.script.Item.TheVariants.{Command, Declared, Referenced}
use Rattle.xl_model_rows.specs.Plain.{plain_row, one_array, perm_r__u, perm_rw_u, perm_rwxu}

-- A captured trace with one demand area: six pages fault once each and get frames 0 to 5.
abbrev pub a_realistic_run_rows : List Row
a_realistic_run_rows = (record plain_row { tlb = one_array }) ∷ []

-- What is served then.
abbrev pub a_realistic_run_items : List Item
a_realistic_run_items =
    (Declared (record { space = 0; page = 0; pages = 67108864; order = order.K4; perm = perm_rwxu })) ∷
    (Referenced 1 2344848 kind.Fetch) ∷
    (Referenced 2 2344850 kind.Fetch) ∷
    (Referenced 3 3196066204 kind.Store) ∷
    (Referenced 4 2434091 kind.Fetch) ∷
    (Referenced 5 3196066128 kind.Load) ∷
    (Referenced 6 2348150 kind.Fetch) ∷
    (Referenced 7 2454652 kind.Load) ∷
    (Referenced 7 2454652 kind.Store) ∷
    (Referenced 8 2350112 kind.Fetch) ∷
    (Referenced 9 2443618 kind.Fetch) ∷
    (Referenced 10 3196067763 kind.Load) ∷
    (Referenced 11 2433797 kind.Fetch) ∷
    (Referenced 12 2444011 kind.Load) ∷
    (Referenced 13 2455960 kind.Store) ∷ []

-- No command and no access.
abbrev pub nothing_served_rows : List Row
nothing_served_rows = plain_row ∷ []

-- What is served then.
abbrev pub nothing_served_items : List Item
nothing_served_items =
    []

-- Leaves of the three sizes: walks of 3, 2 and 1 loads under Sv39.
abbrev pub page_sizes_sv39_rows : List Row
page_sizes_sv39_rows = (record plain_row { frames = 524288 }) ∷ []

-- What is served then.
abbrev pub page_sizes_sv39_items : List Item
page_sizes_sv39_items =
    (Command (event.Map 0 0 order.K4 perm_rwxu)) ∷
    (Command (event.Map 0 2097152 order.M2 perm_rwxu)) ∷
    (Command (event.Map 0 1073741824 order.G1 perm_rwxu)) ∷
    (Referenced 1 0 kind.Load) ∷
    (Referenced 2 2097152 kind.Load) ∷
    (Referenced 3 1073741824 kind.Load) ∷ []

-- The same under Sv48: 4, 3 and 2 loads.
abbrev pub page_sizes_sv48_rows : List Row
page_sizes_sv48_rows = (record plain_row { mode = mode.Sv48; frames = 524288 }) ∷ []

-- What is served then.
abbrev pub page_sizes_sv48_items : List Item
page_sizes_sv48_items =
    (Command (event.Map 0 0 order.K4 perm_rwxu)) ∷
    (Command (event.Map 0 2097152 order.M2 perm_rwxu)) ∷
    (Command (event.Map 0 1073741824 order.G1 perm_rwxu)) ∷
    (Referenced 1 0 kind.Load) ∷
    (Referenced 2 2097152 kind.Load) ∷
    (Referenced 3 1073741824 kind.Load) ∷ []

-- The same under Sv57: 5, 4 and 3 loads.
abbrev pub page_sizes_sv57_rows : List Row
page_sizes_sv57_rows = (record plain_row { mode = mode.Sv57; frames = 524288 }) ∷ []

-- What is served then.
abbrev pub page_sizes_sv57_items : List Item
page_sizes_sv57_items =
    (Command (event.Map 0 0 order.K4 perm_rwxu)) ∷
    (Command (event.Map 0 2097152 order.M2 perm_rwxu)) ∷
    (Command (event.Map 0 1073741824 order.G1 perm_rwxu)) ∷
    (Referenced 1 0 kind.Load) ∷
    (Referenced 2 2097152 kind.Load) ∷
    (Referenced 3 1073741824 kind.Load) ∷ []

-- An answer line of an unmapped load.
abbrev pub an_unmapped_load_rows : List Row
an_unmapped_load_rows = plain_row ∷ []

-- What is served then.
abbrev pub an_unmapped_load_items : List Item
an_unmapped_load_items =
    (Referenced 1 4096 kind.Load) ∷ []

-- An address that is canonical in one of two rows.
abbrev pub two_modes_rows : List Row
two_modes_rows = plain_row ∷ (record plain_row { name = codes "b"; mode = mode.Sv48 }) ∷ []

-- What is served then.
abbrev pub two_modes_items : List Item
two_modes_items =
    (Referenced 1 274877906944 kind.Load) ∷ []

-- Addresses at the ends of the three modes.
abbrev pub three_modes_rows : List Row
three_modes_rows = plain_row ∷ (record plain_row { name = codes "b"; mode = mode.Sv48 }) ∷ (record plain_row { name = codes "c"; mode = mode.Sv57 }) ∷ []

-- What is served then.
abbrev pub three_modes_items : List Item
three_modes_items =
    (Referenced 1 36028797018963968 kind.Load) ∷
    (Referenced 2 72057594037927936 kind.Load) ∷ []

-- A modify of two pages: both loads, then both stores.
abbrev pub a_modify_over_a_page_boundary_rows : List Row
a_modify_over_a_page_boundary_rows = plain_row ∷ []

-- What is served then.
abbrev pub a_modify_over_a_page_boundary_items : List Item
a_modify_over_a_page_boundary_items =
    (Command (event.Map 0 4096 order.K4 perm_rw_u)) ∷
    (Command (event.Map 0 8192 order.K4 perm_rw_u)) ∷
    (Referenced 1 8190 kind.Load) ∷
    (Referenced 1 8192 kind.Load) ∷
    (Referenced 1 8190 kind.Store) ∷
    (Referenced 1 8192 kind.Store) ∷ []

-- The last byte of the address space, Sv39.
abbrev pub the_top_of_the_range_rows : List Row
the_top_of_the_range_rows = plain_row ∷ []

-- What is served then.
abbrev pub the_top_of_the_range_items : List Item
the_top_of_the_range_items =
    (Command (event.Map 0 18446744073709547520 order.K4 perm_r__u)) ∷
    (Referenced 1 18446744073709551615 kind.Load) ∷ []

-- The last byte of the address space, Sv57.
abbrev pub the_top_of_the_range_sv57_rows : List Row
the_top_of_the_range_sv57_rows = (record plain_row { mode = mode.Sv57 }) ∷ []

-- What is served then.
abbrev pub the_top_of_the_range_sv57_items : List Item
the_top_of_the_range_sv57_items =
    (Command (event.Map 0 18446744073709547520 order.K4 perm_r__u)) ∷
    (Referenced 1 18446744073709551615 kind.Load) ∷ []

-- Two accesses of nothing: one load each.
abbrev pub two_unmapped_accesses_rows : List Row
two_unmapped_accesses_rows = plain_row ∷ []

-- What is served then.
abbrev pub two_unmapped_accesses_items : List Item
two_unmapped_accesses_items =
    (Referenced 1 67150000 kind.Fetch) ∷
    (Referenced 2 67150000 kind.Load) ∷ []

-- A served load, a denied store and an unmapped load.
abbrev pub a_first_run_rows : List Row
a_first_run_rows = (record plain_row { frames = 4096; spaces = 1 }) ∷ []

-- What is served then.
abbrev pub a_first_run_items : List Item
a_first_run_items =
    (Command (event.Map 0 4096 order.K4 perm_r__u)) ∷
    (Referenced 1 4104 kind.Load) ∷
    (Referenced 2 4104 kind.Store) ∷
    (Referenced 3 8192 kind.Load) ∷ []

-- Two pages demanded by a modify and a fetch of one area.
abbrev pub demanded_pages_rows : List Row
demanded_pages_rows = plain_row ∷ []

-- What is served then.
abbrev pub demanded_pages_items : List Item
demanded_pages_items =
    (Declared (record { space = 0; page = 65536; pages = 4096; order = order.K4; perm = perm_rwxu })) ∷
    (Referenced 1 268527040 kind.Load) ∷
    (Referenced 1 268527040 kind.Store) ∷
    (Referenced 2 268440696 kind.Fetch) ∷ []
