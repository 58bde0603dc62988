-- Hashed and clustered tables.
use Rattle.std.specs.Prelude.{List, [], ◌∷◌}
use Rattle.xl_model.specs.declared.address.Order.TheVariants as order
use Rattle.xl_model.specs.declared.address.Kind.TheVariants as kind
use Rattle.xl_model.specs.declared.event.Event.TheVariants as event
use Rattle.xl_model.specs.declared.row.Table.TheVariants as table
use Rattle.xl_model.specs.Rows.{Row}
use Rattle.xl_model.specs.declared.script.Item.{Item}
use Rattle.xl_model.specs.declared.script.Item.TheVariants.{Command, Referenced}
use Rattle.xl_model_rows.specs.Plain.{plain_row, perm_r__u}

-- One bucket with three entries: 4, 3, 2 loads, and 12 for an absent page.
abbrev pub hashed_rows : List Row
hashed_rows = (record plain_row { table = table.Hashed 1 4 }) ∷ []

-- What is served then.
abbrev pub hashed_items : List Item
hashed_items =
    (Command (event.Map 0 4096 order.K4 perm_r__u)) ∷
    (Command (event.Map 0 8192 order.K4 perm_r__u)) ∷
    (Command (event.Map 0 12288 order.K4 perm_r__u)) ∷
    (Referenced 1 4096 kind.Load) ∷
    (Referenced 2 8192 kind.Load) ∷
    (Referenced 3 12288 kind.Load) ∷
    (Referenced 4 16384 kind.Load) ∷ []

-- Two blocks in one bucket: 4, 3 and 10 loads.
abbrev pub clustered_rows : List Row
clustered_rows = (record plain_row { table = table.Clustered 1 4 }) ∷ []

-- What is served then.
abbrev pub clustered_items : List Item
clustered_items =
    (Command (event.Map 0 4096 order.K4 perm_r__u)) ∷
    (Command (event.Map 0 8192 order.K4 perm_r__u)) ∷
    (Command (event.Map 0 65536 order.K4 perm_r__u)) ∷
    (Referenced 1 4096 kind.Load) ∷
    (Referenced 2 65536 kind.Load) ∷
    (Referenced 3 12288 kind.Load) ∷ []

-- A 2 MiB leaf beside a 4 KiB leaf, hashed.
abbrev pub hashed_large_rows : List Row
hashed_large_rows = (record plain_row { frames = 1024; table = table.Hashed 1 4 }) ∷ []

-- What is served then.
abbrev pub hashed_large_items : List Item
hashed_large_items =
    (Command (event.Map 0 2097152 order.M2 perm_r__u)) ∷
    (Command (event.Map 0 4096 order.K4 perm_r__u)) ∷
    (Referenced 1 2097152 kind.Load) ∷
    (Referenced 2 4096 kind.Load) ∷ []

-- A 2 MiB leaf beside a 4 KiB leaf, clustered.
abbrev pub clustered_large_rows : List Row
clustered_large_rows = (record plain_row { frames = 1024; table = table.Clustered 1 4 }) ∷ []

-- What is served then.
abbrev pub clustered_large_items : List Item
clustered_large_items =
    (Command (event.Map 0 2097152 order.M2 perm_r__u)) ∷
    (Command (event.Map 0 4096 order.K4 perm_r__u)) ∷
    (Referenced 1 2097152 kind.Load) ∷
    (Referenced 2 4096 kind.Load) ∷ []

-- Every entry taken: a map and a move are refused, and leave nothing.
abbrev pub entries_used_up_rows : List Row
entries_used_up_rows = (record plain_row { table = table.Hashed 1 1 }) ∷ []

-- What is served then.
abbrev pub entries_used_up_items : List Item
entries_used_up_items =
    (Command (event.Map 0 4096 order.K4 perm_r__u)) ∷
    (Command (event.Map 0 8192 order.K4 perm_r__u)) ∷
    (Command (event.Move 0 4096 8192 order.K4)) ∷
    (Referenced 1 4096 kind.Load) ∷
    (Referenced 2 8192 kind.Load) ∷ []

-- Every block taken: a page in a block that is there still has room.
abbrev pub blocks_used_up_rows : List Row
blocks_used_up_rows = (record plain_row { table = table.Clustered 1 1 }) ∷ []

-- What is served then.
abbrev pub blocks_used_up_items : List Item
blocks_used_up_items =
    (Command (event.Map 0 0 order.K4 perm_r__u)) ∷
    (Command (event.Map 0 4096 order.K4 perm_r__u)) ∷
    (Command (event.Map 0 8192 order.K4 perm_r__u)) ∷
    (Command (event.Map 0 12288 order.K4 perm_r__u)) ∷
    (Command (event.Map 0 16384 order.K4 perm_r__u)) ∷
    (Command (event.Map 0 20480 order.K4 perm_r__u)) ∷
    (Command (event.Map 0 24576 order.K4 perm_r__u)) ∷
    (Command (event.Map 0 28672 order.K4 perm_r__u)) ∷
    (Command (event.Map 0 32768 order.K4 perm_r__u)) ∷
    (Command (event.Map 0 36864 order.K4 perm_r__u)) ∷
    (Command (event.Map 0 40960 order.K4 perm_r__u)) ∷
    (Command (event.Map 0 45056 order.K4 perm_r__u)) ∷
    (Command (event.Map 0 49152 order.K4 perm_r__u)) ∷
    (Command (event.Map 0 53248 order.K4 perm_r__u)) ∷
    (Command (event.Map 0 57344 order.K4 perm_r__u)) ∷
    (Command (event.Map 0 65536 order.K4 perm_r__u)) ∷
    (Command (event.Move 0 0 65536 order.K4)) ∷
    (Command (event.Move 0 0 61440 order.K4)) ∷
    (Referenced 1 61440 kind.Load) ∷
    (Referenced 2 0 kind.Load) ∷ []
