-- Rows with several sets, whose curves were worked out by another program, and what they are served.
use Rattle.std.specs.Prelude.{List, [], ◌∷◌}
use Rattle.xl_model.specs.declared.address.Order.TheVariants as order
use Rattle.xl_model.specs.declared.address.Kind.TheVariants as kind
use Rattle.xl_model.specs.declared.event.Event.TheVariants as event
use Rattle.xl_model.specs.declared.event.Scope.TheVariants as scope
use Rattle.xl_model.specs.declared.row.Purge.TheVariants as purge
use Rattle.xl_model.specs.declared.script.Item.{Item}
use Rattle.xl_model.specs.declared.script.Item.TheVariants.{Command, Declared, Referenced}
use Rattle.xl_model.specs.Rows.{Row}
use Rattle.xl_curve_rows.specs.CurveRows.{plain_row, perm_r__u, perm_rw_u}

-- 256 sets: pages 256, 512 and 768 share set 0, and page 257 is alone in set 1.
abbrev pub many_sets_row : Row
many_sets_row = plain_row

-- What is served then.
abbrev pub many_sets_items : List Item
many_sets_items =
    (Command (event.Map 0 1048576 order.K4 perm_r__u)) ∷
    (Command (event.Map 0 1052672 order.K4 perm_r__u)) ∷
    (Command (event.Map 0 2097152 order.K4 perm_r__u)) ∷
    (Command (event.Map 0 3145728 order.K4 perm_r__u)) ∷
    (Referenced 1 1048576 kind.Load) ∷
    (Referenced 2 1052672 kind.Load) ∷
    (Referenced 3 2097152 kind.Load) ∷
    (Referenced 4 3145728 kind.Load) ∷
    (Referenced 5 1048576 kind.Load) ∷
    (Referenced 6 1052672 kind.Load) ∷
    (Referenced 7 2097152 kind.Load) ∷
    (Referenced 8 1052672 kind.Load) ∷
    (Referenced 9 3145728 kind.Load) ∷ []

-- Three sets: leaves of 2 MiB of blocks 1 and 4 share set 1. One is unmapped and mapped anew.
abbrev pub large_leaves_of_three_sets_row : Row
large_leaves_of_three_sets_row = record plain_row { frames = 1048576 }

-- What is served then.
abbrev pub large_leaves_of_three_sets_items : List Item
large_leaves_of_three_sets_items =
    (Command (event.Map 0 2097152 order.M2 perm_r__u)) ∷
    (Command (event.Map 0 8388608 order.M2 perm_r__u)) ∷
    (Command (event.Map 0 0 order.K4 perm_r__u)) ∷
    (Referenced 1 2097152 kind.Load) ∷
    (Referenced 2 8388608 kind.Load) ∷
    (Referenced 3 4190208 kind.Load) ∷
    (Referenced 4 10481664 kind.Load) ∷
    (Referenced 5 0 kind.Load) ∷
    (Referenced 6 2097152 kind.Load) ∷
    (Command (event.Unmap 0 2097152 order.M2)) ∷
    (Referenced 7 8388608 kind.Load) ∷
    (Command (event.Map 0 2097152 order.M2 perm_r__u)) ∷
    (Referenced 8 2097152 kind.Load) ∷
    (Referenced 9 8388608 kind.Load) ∷
    (Referenced 10 0 kind.Load) ∷ []

-- A fence of a page that is not the first of its leaf removes the leaf, in its space alone.
abbrev pub fences_in_large_leaves_row : Row
fences_in_large_leaves_row = record plain_row { frames = 1048576 }

-- What is served then.
abbrev pub fences_in_large_leaves_items : List Item
fences_in_large_leaves_items =
    (Command (event.Map 0 2097152 order.M2 perm_r__u)) ∷
    (Command (event.Map 0 1073741824 order.G1 perm_r__u)) ∷
    (Command (event.Map 0 4096 order.K4 perm_r__u)) ∷
    (Referenced 1 2097152 kind.Load) ∷
    (Referenced 2 1073741824 kind.Load) ∷
    (Referenced 3 4096 kind.Load) ∷
    (Command (event.Fence (scope.Page 0 4190208))) ∷
    (Referenced 4 2097152 kind.Load) ∷
    (Referenced 5 1073741824 kind.Load) ∷
    (Referenced 6 4096 kind.Load) ∷
    (Command (event.Fence (scope.Addr 2147479552))) ∷
    (Referenced 7 2101248 kind.Load) ∷
    (Referenced 8 1075838976 kind.Load) ∷
    (Referenced 9 4096 kind.Load) ∷
    (Command (event.Fence (scope.Page 1 2097152))) ∷
    (Referenced 10 2097152 kind.Load) ∷
    (Referenced 11 1073741824 kind.Load) ∷
    (Referenced 12 4096 kind.Load) ∷ []

-- A fence of an address removes the leaves of each space that cover it.
abbrev pub fences_of_an_address_row : Row
fences_of_an_address_row = plain_row

-- What is served then.
abbrev pub fences_of_an_address_items : List Item
fences_of_an_address_items =
    (Command (event.Map 0 4096 order.K4 perm_r__u)) ∷
    (Command (event.Map 0 8192 order.K4 perm_r__u)) ∷
    (Command (event.Map 1 4096 order.K4 perm_r__u)) ∷
    (Referenced 1 4096 kind.Load) ∷
    (Referenced 2 8192 kind.Load) ∷
    (Command (event.Space 1)) ∷
    (Referenced 3 4096 kind.Load) ∷
    (Command (event.Fence (scope.Addr 4096))) ∷
    (Referenced 4 4096 kind.Load) ∷
    (Command (event.Space 0)) ∷
    (Referenced 5 4096 kind.Load) ∷
    (Referenced 6 8192 kind.Load) ∷
    (Command (event.Fence (scope.Addr 8192))) ∷
    (Referenced 7 8192 kind.Load) ∷
    (Referenced 8 4096 kind.Load) ∷ []

-- A purge by space takes the leaves of the space from each set.
abbrev pub a_purge_by_space_in_each_set_row : Row
a_purge_by_space_in_each_set_row = record plain_row { purge = purge.Space }

-- What is served then.
abbrev pub a_purge_by_space_in_each_set_items : List Item
a_purge_by_space_in_each_set_items =
    (Command (event.Map 0 4096 order.K4 perm_r__u)) ∷
    (Command (event.Map 0 8192 order.K4 perm_r__u)) ∷
    (Command (event.Map 0 12288 order.K4 perm_r__u)) ∷
    (Command (event.Map 0 16384 order.K4 perm_r__u)) ∷
    (Command (event.Map 1 8192 order.K4 perm_r__u)) ∷
    (Referenced 1 4096 kind.Load) ∷
    (Referenced 2 8192 kind.Load) ∷
    (Referenced 3 12288 kind.Load) ∷
    (Referenced 4 16384 kind.Load) ∷
    (Command (event.Space 1)) ∷
    (Referenced 5 8192 kind.Load) ∷
    (Command (event.Space 0)) ∷
    (Command (event.Unmap 0 16384 order.K4)) ∷
    (Referenced 6 4096 kind.Load) ∷
    (Referenced 7 8192 kind.Load) ∷
    (Referenced 8 12288 kind.Load) ∷
    (Command (event.Space 1)) ∷
    (Referenced 9 8192 kind.Load) ∷
    (Referenced 10 8192 kind.Load) ∷ []

-- A purge of all takes the leaves of every space from each set.
abbrev pub a_purge_of_all_in_each_set_row : Row
a_purge_of_all_in_each_set_row = record plain_row { purge = purge.All }

-- What is served then.
abbrev pub a_purge_of_all_in_each_set_items : List Item
a_purge_of_all_in_each_set_items =
    (Command (event.Map 0 4096 order.K4 perm_r__u)) ∷
    (Command (event.Map 0 8192 order.K4 perm_r__u)) ∷
    (Command (event.Map 0 12288 order.K4 perm_r__u)) ∷
    (Command (event.Map 1 4096 order.K4 perm_r__u)) ∷
    (Referenced 1 4096 kind.Load) ∷
    (Referenced 2 8192 kind.Load) ∷
    (Referenced 3 12288 kind.Load) ∷
    (Command (event.Space 1)) ∷
    (Referenced 4 4096 kind.Load) ∷
    (Command (event.Space 0)) ∷
    (Command (event.Move 0 12288 32768 order.K4)) ∷
    (Referenced 5 4096 kind.Load) ∷
    (Referenced 6 8192 kind.Load) ∷
    (Referenced 7 32768 kind.Load) ∷
    (Command (event.Space 1)) ∷
    (Referenced 8 4096 kind.Load) ∷
    (Referenced 9 4096 kind.Load) ∷ []

-- A purge of a page takes the leaf of its own space alone.
abbrev pub a_purge_of_a_page_in_its_set_row : Row
a_purge_of_a_page_in_its_set_row = plain_row

-- What is served then.
abbrev pub a_purge_of_a_page_in_its_set_items : List Item
a_purge_of_a_page_in_its_set_items =
    (Command (event.Map 0 4096 order.K4 perm_r__u)) ∷
    (Command (event.Map 0 8192 order.K4 perm_r__u)) ∷
    (Command (event.Map 0 12288 order.K4 perm_r__u)) ∷
    (Command (event.Map 0 16384 order.K4 perm_r__u)) ∷
    (Command (event.Map 1 16384 order.K4 perm_r__u)) ∷
    (Referenced 1 4096 kind.Load) ∷
    (Referenced 2 8192 kind.Load) ∷
    (Referenced 3 12288 kind.Load) ∷
    (Referenced 4 16384 kind.Load) ∷
    (Command (event.Space 1)) ∷
    (Referenced 5 16384 kind.Load) ∷
    (Command (event.Space 0)) ∷
    (Command (event.Protect 0 16384 order.K4 perm_rw_u)) ∷
    (Referenced 6 4096 kind.Load) ∷
    (Referenced 7 16384 kind.Load) ∷
    (Command (event.Space 1)) ∷
    (Referenced 8 16384 kind.Load) ∷
    (Command (event.Space 0)) ∷
    (Command (event.Unmap 0 16384 order.K4)) ∷
    (Referenced 9 4096 kind.Load) ∷
    (Referenced 10 8192 kind.Load) ∷
    (Referenced 11 16384 kind.Load) ∷ []

-- A moved leaf is filled in the set of its new place, and its old place is absent.
abbrev pub a_move_to_another_set_row : Row
a_move_to_another_set_row = plain_row

-- What is served then.
abbrev pub a_move_to_another_set_items : List Item
a_move_to_another_set_items =
    (Command (event.Map 0 4096 order.K4 perm_r__u)) ∷
    (Command (event.Map 0 8192 order.K4 perm_r__u)) ∷
    (Command (event.Map 0 12288 order.K4 perm_r__u)) ∷
    (Referenced 1 4096 kind.Load) ∷
    (Referenced 2 8192 kind.Load) ∷
    (Referenced 3 12288 kind.Load) ∷
    (Command (event.Move 0 4096 20480 order.K4)) ∷
    (Referenced 4 20480 kind.Load) ∷
    (Referenced 5 8192 kind.Load) ∷
    (Referenced 6 20480 kind.Load) ∷
    (Referenced 7 4096 kind.Load) ∷
    (Referenced 8 12288 kind.Load) ∷ []

-- A store to an area without that permission is absent at first; its page is mapped, and the second
-- access, which is denied, fills the leaf.
abbrev pub a_demand_that_denies_row : Row
a_demand_that_denies_row = plain_row

-- What is served then.
abbrev pub a_demand_that_denies_items : List Item
a_demand_that_denies_items =
    (Declared (record { space = 0; page = 1; pages = 2; order = order.K4; perm = perm_r__u })) ∷
    (Referenced 1 4096 kind.Store) ∷
    (Referenced 2 4096 kind.Load) ∷
    (Referenced 3 4096 kind.Store) ∷
    (Referenced 4 8192 kind.Store) ∷
    (Referenced 5 8192 kind.Load) ∷ []
