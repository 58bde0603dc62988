-- Tables of ranges.
use Rattle.std.specs.Prelude.{List, [], ◌∷◌}
use Rattle.xl_model.specs.declared.address.Order.TheVariants as order
use Rattle.xl_model.specs.declared.address.Kind.TheVariants as kind
use Rattle.xl_model.specs.declared.event.Event.TheVariants as event
use Rattle.xl_model.specs.declared.row.Table.TheVariants as table
use Rattle.xl_model.specs.Rows.{Row}
use Rattle.xl_model.specs.declared.script.Item.{Item}
use Rattle.xl_model.specs.declared.script.Item.TheVariants.{Command, Referenced}
use Rattle.xl_model_rows.specs.Plain.{plain_row, perm_r__u, perm_rw_u}

-- An unmap that would part a range is refused; one at its end is done.
abbrev pub no_range_left_rows : List Row
no_range_left_rows = (record plain_row { table = table.Range 1 0 }) ∷ []

-- What is served then.
abbrev pub no_range_left_items : List Item
no_range_left_items =
    (Command (event.Map 0 4096 order.K4 perm_r__u)) ∷
    (Command (event.Map 0 8192 order.K4 perm_r__u)) ∷
    (Command (event.Map 0 12288 order.K4 perm_r__u)) ∷
    (Command (event.Unmap 0 8192 order.K4)) ∷
    (Command (event.Unmap 0 12288 order.K4)) ∷
    (Referenced 1 8192 kind.Load) ∷
    (Referenced 2 12288 kind.Load) ∷ []

-- The range at page 0 is the root, though it comes second: 1, 2, 0 and 2 loads.
abbrev pub depth_rows : List Row
depth_rows = (record plain_row { table = table.Range 4 4 }) ∷ []

-- What is served then.
abbrev pub depth_items : List Item
depth_items =
    (Command (event.Map 0 20480 order.K4 perm_r__u)) ∷
    (Command (event.Map 0 0 order.K4 perm_r__u)) ∷
    (Referenced 1 0 kind.Load) ∷
    (Referenced 2 20480 kind.Load) ∷
    (Referenced 3 20480 kind.Load) ∷
    (Referenced 4 24576 kind.Load) ∷ []

-- A protect parts a range in three, and another joins them.
abbrev pub three_ranges_rows : List Row
three_ranges_rows = (record plain_row { table = table.Range 3 0 }) ∷ []

-- What is served then.
abbrev pub three_ranges_items : List Item
three_ranges_items =
    (Command (event.Map 0 4096 order.K4 perm_r__u)) ∷
    (Command (event.Map 0 8192 order.K4 perm_r__u)) ∷
    (Command (event.Map 0 12288 order.K4 perm_r__u)) ∷
    (Command (event.Protect 0 8192 order.K4 perm_rw_u)) ∷
    (Command (event.Protect 0 8192 order.K4 perm_r__u)) ∷ []

-- There is no room for three ranges.
abbrev pub two_ranges_rows : List Row
two_ranges_rows = (record plain_row { table = table.Range 2 0 }) ∷ []

-- What is served then.
abbrev pub two_ranges_items : List Item
two_ranges_items =
    (Command (event.Map 0 4096 order.K4 perm_r__u)) ∷
    (Command (event.Map 0 8192 order.K4 perm_r__u)) ∷
    (Command (event.Map 0 12288 order.K4 perm_r__u)) ∷
    (Command (event.Protect 0 8192 order.K4 perm_rw_u)) ∷
    (Command (event.Protect 0 8192 order.K4 perm_r__u)) ∷ []

-- The only range taken: a move and a protect.
abbrev pub ranges_used_up_rows : List Row
ranges_used_up_rows = (record plain_row { table = table.Range 1 0 }) ∷ []

-- What is served then.
abbrev pub ranges_used_up_items : List Item
ranges_used_up_items =
    (Command (event.Map 0 4096 order.K4 perm_r__u)) ∷
    (Command (event.Move 0 4096 8192 order.K4)) ∷
    (Command (event.Map 0 12288 order.K4 perm_r__u)) ∷
    (Command (event.Protect 0 4096 order.K4 perm_rw_u)) ∷
    (Referenced 1 4096 kind.Store) ∷ []
