use Rattle.xl_rack.proofs.Common.{◌∙◌, ◌≡◌, opening, opening_caches, opening_shape, refl, Row, row_of, ℕ}
use Rattle.xl_range.specs.Rows.{opening_table}
use Rattle.xl_model.specs.declared.row.Table.TheVariants as table
use Rattle.xl_rack.proofs.slot.open_ranges.Goals as goal

opens-as : (row : Row) (ranges width : ℕ) → row.table ≡ table.Range ranges width → opening_table ranges width ≡ (opening row).table
unfolding opening opening_shape opening_caches
opens-as row ranges width t = rw t refl

pub open-requires-2-clause-table : goal.open-requires-2-clause-table
open-requires-2-clause-table c = c.in_ok-table.ensures ∙ opens-as (row_of c.args.row) c.args.ranges c.args.range_tlb c.requires.table
