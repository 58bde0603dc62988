-- Commands, frames and refusals.
use Rattle.std.specs.Prelude.{List, [], ◌∷◌}
use Rattle.xl_model.specs.declared.address.Order.TheVariants as order
use Rattle.xl_model.specs.declared.address.Kind.TheVariants as kind
use Rattle.xl_model.specs.declared.event.Event.TheVariants as event
use Rattle.xl_model.specs.Rows.{Row}
use Rattle.xl_model.specs.declared.script.Item.{Item}
use Rattle.xl_model.specs.declared.script.Item.TheVariants.{Command, Referenced}
use Rattle.xl_model_rows.specs.Plain.{plain_row, perm_r__u, perm_rw_u}

-- A move to its own place overlaps the moved leaf; a move elsewhere is done.
abbrev pub a_move_onto_itself_rows : List Row
a_move_onto_itself_rows = plain_row ∷ []

-- What is served then.
abbrev pub a_move_onto_itself_items : List Item
a_move_onto_itself_items =
    (Command (event.Map 0 4096 order.K4 perm_r__u)) ∷
    (Command (event.Move 0 4096 4096 order.K4)) ∷
    (Command (event.Move 0 4096 20480 order.K4)) ∷
    (Referenced 1 20480 kind.Load) ∷
    (Referenced 2 4096 kind.Load) ∷ []

-- The same on a row of one space.
abbrev pub a_move_onto_itself_again_rows : List Row
a_move_onto_itself_again_rows = (record plain_row { frames = 4096; spaces = 1 }) ∷ []

-- What is served then.
abbrev pub a_move_onto_itself_again_items : List Item
a_move_onto_itself_again_items =
    (Command (event.Map 0 4096 order.K4 perm_r__u)) ∷
    (Command (event.Move 0 4096 4096 order.K4)) ∷
    (Command (event.Move 0 4096 20480 order.K4)) ∷
    (Referenced 1 20480 kind.Load) ∷
    (Referenced 2 4096 kind.Load) ∷ []

-- A 2 MiB leaf wants 512 frames.
abbrev pub no_block_of_511_frames_rows : List Row
no_block_of_511_frames_rows = (record plain_row { frames = 511 }) ∷ []

-- What is served then.
abbrev pub no_block_of_511_frames_items : List Item
no_block_of_511_frames_items =
    (Command (event.Map 0 0 order.M2 perm_r__u)) ∷ []

-- One frame taken, and no aligned block of 512 is left of 1023.
abbrev pub no_block_of_1023_frames_rows : List Row
no_block_of_1023_frames_rows = (record plain_row { frames = 1023 }) ∷ []

-- What is served then.
abbrev pub no_block_of_1023_frames_items : List Item
no_block_of_1023_frames_items =
    (Command (event.Map 0 0 order.K4 perm_r__u)) ∷
    (Command (event.Map 0 2097152 order.M2 perm_r__u)) ∷ []

-- One frame taken, and the second block of 512 is free of 1024.
abbrev pub a_block_of_1024_frames_rows : List Row
a_block_of_1024_frames_rows = (record plain_row { frames = 1024 }) ∷ []

-- What is served then.
abbrev pub a_block_of_1024_frames_items : List Item
a_block_of_1024_frames_items =
    (Command (event.Map 0 0 order.K4 perm_r__u)) ∷
    (Command (event.Map 0 2097152 order.M2 perm_r__u)) ∷ []

-- Refusals 1 to 7, each once.
abbrev pub seven_refusals_rows : List Row
seven_refusals_rows = (record plain_row { frames = 512; spaces = 1 }) ∷ []

-- What is served then.
abbrev pub seven_refusals_items : List Item
seven_refusals_items =
    (Command (event.Map 9 0 order.K4 perm_r__u)) ∷
    (Command (event.Map 0 274877906944 order.K4 perm_r__u)) ∷
    (Command (event.Map 0 2048 order.K4 perm_r__u)) ∷
    (Command (event.Unmap 0 4096 order.K4)) ∷
    (Command (event.Map 0 0 order.M2 perm_rw_u)) ∷
    (Command (event.Unmap 0 4096 order.K4)) ∷
    (Command (event.Map 0 4096 order.K4 perm_r__u)) ∷
    (Command (event.Map 0 2097152 order.K4 perm_r__u)) ∷ []

-- Frames 0, 512, and 0 again.
abbrev pub a_freed_block_taken_again_rows : List Row
a_freed_block_taken_again_rows = (record plain_row { frames = 4096; spaces = 1 }) ∷ []

-- What is served then.
abbrev pub a_freed_block_taken_again_items : List Item
a_freed_block_taken_again_items =
    (Command (event.Map 0 2097152 order.M2 perm_rw_u)) ∷
    (Command (event.Map 0 4096 order.K4 perm_r__u)) ∷
    (Command (event.Unmap 0 2097152 order.M2)) ∷
    (Command (event.Map 0 4194304 order.M2 perm_r__u)) ∷
    (Referenced 1 4096 kind.Load) ∷
    (Referenced 2 4194595 kind.Load) ∷ []
