use Rattle.xl_rack.proofs.Common.{◌∙◌, ◌≡◌, [], chained, opening, opening_caches, opening_shape, refl, Row, row_of, Sixteen, ℕ}
use Rattle.xl_model.specs.declared.row.Table.TheVariants as table
use Rattle.xl_rack.proofs.slot.open_clustered.Goals as goal

opens-as : (row : Row) (buckets blocks : ℕ) → row.table ≡ table.Clustered buckets blocks → chained Sixteen buckets blocks 0 [] [] ≡ (opening row).table
unfolding opening opening_shape opening_caches
opens-as row buckets blocks t = rw t refl

pub open-requires-2-clause-table : goal.open-requires-2-clause-table
open-requires-2-clause-table c = c.in_ok-table.ensures ∙ opens-as (row_of c.args.row) c.args.buckets c.args.blocks c.requires.table
