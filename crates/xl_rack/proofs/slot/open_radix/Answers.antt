use Rattle.xl_rack.proofs.Common.{◌∙◌, ◌≡◌, levels_of, List, opening, refl, Row, row_of, ℕ}
use Rattle.xl_radix_walk.specs.Row.{opening_table}
use Rattle.xl_model.specs.declared.row.Table.TheVariants as table
use Rattle.xl_rack.proofs.slot.open_radix.Goals as goal

opens-as : (levels : ℕ) (row : Row) (frames : ℕ) (widths : List ℕ) → levels_of row.mode ≡ levels → row.table ≡ table.Radix frames widths
    → opening_table levels frames row.spaces widths ≡ (opening row).table
unfolding opening
opens-as levels row frames widths h t = rw (h, t) refl

pub open-requires-2-clause-table : goal.open-requires-2-clause-table
open-requires-2-clause-table g c =
    c.in_ok-table.ensures ∙ opens-as g.row.LEVELS (row_of c.args.row) c.args.table_frames c.args.widths c.requires.levels c.requires.table
