-- Elastic cuckoo tables: growth, caps and sections.
use Rattle.std.specs.Prelude.{List, [], ◌∷◌}
use Rattle.xl_model.specs.declared.address.Mode.TheVariants as mode
use Rattle.xl_model.specs.declared.address.Order.TheVariants as order
use Rattle.xl_model.specs.declared.address.Kind.TheVariants as kind
use Rattle.xl_model.specs.declared.event.Event.TheVariants as event
use Rattle.xl_model.specs.declared.row.Table.TheVariants as table
use Rattle.xl_model.specs.Rows.{Row}
use Rattle.xl_model.specs.declared.script.Item.{Item}
use Rattle.xl_model.specs.declared.script.Item.TheVariants.{Command, Referenced}
use Rattle.xl_model_rows.specs.Plain.{plain_row, perm_r__u}

-- Three ways: 9 loads without cached sections, 3 with them.
abbrev pub sections_rows : List Row
sections_rows = (record plain_row { table = table.Cuckoo 3 2 4 50 4 1 4 4 (4 ∷ 4 ∷ []) }) ∷ []

-- What is served then.
abbrev pub sections_items : List Item
sections_items =
    (Command (event.Map 0 0 order.K4 perm_r__u)) ∷
    (Referenced 1 0 kind.Load) ∷
    (Referenced 2 0 kind.Load) ∷
    (Referenced 3 4096 kind.Load) ∷ []

-- Every access falls between two migrated slots of a growing way.
abbrev pub growth_rows : List Row
growth_rows = (record plain_row { table = table.Cuckoo 2 0 2 50 1 1 4 4 (0 ∷ 0 ∷ []) }) ∷ []

-- What is served then.
abbrev pub growth_items : List Item
growth_items =
    (Command (event.Map 0 0 order.K4 perm_r__u)) ∷
    (Referenced 1 0 kind.Load) ∷
    (Command (event.Map 0 5056786432 order.K4 perm_r__u)) ∷
    (Referenced 2 0 kind.Load) ∷
    (Referenced 3 5056786432 kind.Load) ∷
    (Command (event.Unmap 0 0 order.K4)) ∷
    (Command (event.Map 0 0 order.K4 perm_r__u)) ∷
    (Referenced 4 0 kind.Load) ∷
    (Referenced 5 5056786432 kind.Load) ∷
    (Command (event.Unmap 0 0 order.K4)) ∷
    (Command (event.Map 0 0 order.K4 perm_r__u)) ∷
    (Referenced 6 0 kind.Load) ∷
    (Referenced 7 5056786432 kind.Load) ∷
    (Command (event.Unmap 0 0 order.K4)) ∷
    (Command (event.Map 0 0 order.K4 perm_r__u)) ∷
    (Referenced 8 0 kind.Load) ∷
    (Referenced 9 5056786432 kind.Load) ∷ []

-- A third key finds no place in two ways of one slot each.
abbrev pub a_way_at_its_cap_rows : List Row
a_way_at_its_cap_rows = (record plain_row { table = table.Cuckoo 2 0 0 50 2 1 4 4 (0 ∷ 0 ∷ []) }) ∷ []

-- What is served then.
abbrev pub a_way_at_its_cap_items : List Item
a_way_at_its_cap_items =
    (Command (event.Map 0 0 order.K4 perm_r__u)) ∷
    (Command (event.Map 0 5056786432 order.K4 perm_r__u)) ∷
    (Command (event.Map 0 4096 order.K4 perm_r__u)) ∷
    (Referenced 1 0 kind.Load) ∷
    (Referenced 2 5056786432 kind.Load) ∷
    (Referenced 3 4096 kind.Load) ∷ []

-- Every section taken: a map and a move are refused, and leave nothing.
abbrev pub sections_used_up_rows : List Row
sections_used_up_rows = (record plain_row { table = table.Cuckoo 3 2 4 50 4 1 1 4 (4 ∷ 4 ∷ []) }) ∷ []

-- What is served then.
abbrev pub sections_used_up_items : List Item
sections_used_up_items =
    (Command (event.Map 0 0 order.K4 perm_r__u)) ∷
    (Command (event.Map 0 2097152 order.K4 perm_r__u)) ∷
    (Command (event.Move 0 0 2097152 order.K4)) ∷
    (Command (event.Unmap 0 0 order.K4)) ∷
    (Command (event.Map 0 2097152 order.K4 perm_r__u)) ∷
    (Referenced 1 2097152 kind.Load) ∷ []

-- A cached section that is a leaf: one load alone.
abbrev pub a_way_known_rows : List Row
a_way_known_rows = (record plain_row { frames = 1024; table = table.Cuckoo 3 2 4 50 4 1 4 4 (4 ∷ 4 ∷ []) }) ∷ []

-- What is served then.
abbrev pub a_way_known_items : List Item
a_way_known_items =
    (Command (event.Map 0 2097152 order.M2 perm_r__u)) ∷
    (Referenced 1 2097152 kind.Load) ∷
    (Referenced 2 2097152 kind.Load) ∷
    (Referenced 3 2097152 kind.Load) ∷ []

-- A displaced leaf changes its way, and its cached section leaves.
abbrev pub a_displaced_leaf_rows : List Row
a_displaced_leaf_rows = (record plain_row { mode = mode.Sv48; frames = 1024; table = table.Cuckoo 2 0 2 50 1 1 4 4 (4 ∷ 4 ∷ []) }) ∷ []

-- What is served then.
abbrev pub a_displaced_leaf_items : List Item
a_displaced_leaf_items =
    (Command (event.Map 0 0 order.M2 perm_r__u)) ∷
    (Referenced 1 0 kind.Load) ∷
    (Referenced 2 0 kind.Load) ∷
    (Command (event.Map 0 2589074653184 order.M2 perm_r__u)) ∷
    (Referenced 3 0 kind.Load) ∷
    (Referenced 4 0 kind.Load) ∷ []
