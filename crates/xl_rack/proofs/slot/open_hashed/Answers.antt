use Rattle.xl_rack.proofs.Common.{◌∙◌, ◌≡◌, [], chained, One, opening, opening_caches, opening_shape, refl, Row, row_of, ℕ}
use Rattle.xl_model.specs.declared.row.Table.TheVariants as table
use Rattle.xl_rack.proofs.slot.open_hashed.Goals as goal

opens-as : (row : Row) (buckets entries : ℕ) → row.table ≡ table.Hashed buckets entries → chained One buckets entries 0 [] [] ≡ (opening row).table
unfolding opening opening_shape opening_caches
opens-as row buckets entries t = rw t refl

pub open-requires-2-clause-table : goal.open-requires-2-clause-table
open-requires-2-clause-table c = c.in_ok-table.ensures ∙ opens-as (row_of c.args.row) c.args.buckets c.args.entries c.requires.table
