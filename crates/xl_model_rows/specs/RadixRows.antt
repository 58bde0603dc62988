-- Radix tables: nodes, walk caches and images.
use Rattle.std.specs.Prelude.{List, [], ◌∷◌}
use Rattle.xl_model.specs.declared.address.Mode.TheVariants as mode
use Rattle.xl_model.specs.declared.address.Order.TheVariants as order
use Rattle.xl_model.specs.declared.address.Kind.TheVariants as kind
use Rattle.xl_model.specs.declared.event.Event.TheVariants as event
use Rattle.xl_model.specs.declared.row.Table.TheVariants as table
use Rattle.xl_model.specs.Rows.{Row}
use Rattle.xl_model.specs.declared.script.Item.{Item}
use Rattle.xl_model.specs.declared.script.Item.TheVariants.{Command, Referenced}
use Rattle.xl_model_rows.specs.Plain.{plain_row, perm_r__u}

-- The only node is the root: a 4 KiB leaf has no nodes, a 1 GiB leaf needs none.
abbrev pub no_node_left_rows : List Row
no_node_left_rows = (record plain_row { frames = 262144; spaces = 1; table = table.Radix 1 (0 ∷ 0 ∷ 0 ∷ 0 ∷ []) }) ∷ []

-- What is served then.
abbrev pub no_node_left_items : List Item
no_node_left_items =
    (Command (event.Map 0 4096 order.K4 perm_r__u)) ∷
    (Command (event.Map 0 0 order.G1 perm_r__u)) ∷
    (Referenced 1 4096 kind.Load) ∷ []

-- Walks of 3, 1 and 1 loads, and two node tags that leave with their nodes.
abbrev pub walk_caches_rows : List Row
walk_caches_rows = (record plain_row { table = table.Radix 64 (4 ∷ 4 ∷ 0 ∷ 0 ∷ []) }) ∷ []

-- What is served then.
abbrev pub walk_caches_items : List Item
walk_caches_items =
    (Command (event.Map 0 4096 order.K4 perm_r__u)) ∷
    (Command (event.Map 0 8192 order.K4 perm_r__u)) ∷
    (Referenced 1 4096 kind.Load) ∷
    (Referenced 2 8192 kind.Load) ∷
    (Command (event.Unmap 0 4096 order.K4)) ∷
    (Command (event.Unmap 0 8192 order.K4)) ∷
    (Referenced 3 4096 kind.Load) ∷ []

-- A walk that begins at the node of level 1.
abbrev pub a_walk_from_the_middle_rows : List Row
a_walk_from_the_middle_rows = (record plain_row { mode = mode.Sv48; table = table.Radix 64 (4 ∷ 4 ∷ 4 ∷ 0 ∷ []) }) ∷ []

-- What is served then.
abbrev pub a_walk_from_the_middle_items : List Item
a_walk_from_the_middle_items =
    (Command (event.Map 0 4096 order.K4 perm_r__u)) ∷
    (Command (event.Map 0 2097152 order.K4 perm_r__u)) ∷
    (Referenced 1 4096 kind.Load) ∷
    (Referenced 2 2097152 kind.Load) ∷ []

-- A walk that begins at the node of level 0, Sv57.
abbrev pub walk_caches_sv57_rows : List Row
walk_caches_sv57_rows = (record plain_row { mode = mode.Sv57; table = table.Radix 64 (4 ∷ 4 ∷ 4 ∷ 4 ∷ []) }) ∷ []

-- What is served then.
abbrev pub walk_caches_sv57_items : List Item
walk_caches_sv57_items =
    (Command (event.Map 0 4096 order.K4 perm_r__u)) ∷
    (Command (event.Map 0 8192 order.K4 perm_r__u)) ∷
    (Referenced 1 4096 kind.Load) ∷
    (Referenced 2 8192 kind.Load) ∷ []

-- Every node taken: a map and a move are refused, and leave nothing.
abbrev pub nodes_used_up_rows : List Row
nodes_used_up_rows = (record plain_row { spaces = 1; table = table.Radix 3 (0 ∷ 0 ∷ 0 ∷ 0 ∷ []) }) ∷ []

-- What is served then.
abbrev pub nodes_used_up_items : List Item
nodes_used_up_items =
    (Command (event.Map 0 4096 order.K4 perm_r__u)) ∷
    (Command (event.Map 0 2097152 order.K4 perm_r__u)) ∷
    (Command (event.Move 0 4096 2097152 order.K4)) ∷
    (Command (event.Unmap 0 4096 order.K4)) ∷
    (Command (event.Map 0 2097152 order.K4 perm_r__u)) ∷
    (Referenced 1 2097152 kind.Load) ∷ []

-- The words of a root, a node of level 1 and a node of level 0.
abbrev pub an_image_rows : List Row
an_image_rows = plain_row ∷ []

-- What is served then.
abbrev pub an_image_items : List Item
an_image_items =
    (Command (event.Map 0 4096 order.K4 perm_r__u)) ∷ []
