use Rattle.xl_rack.proofs.Common.{◌∙◌, ◌≡◌, IsCuckoo, List, opening, opening_caches, opening_shape, refl, Row, row_of, subst, ℕ}
use Rattle.xl_cuckoo_walk.specs.Openings.{opening_table}
use Rattle.xl_model.specs.declared.row.Table.TheVariants as table
use Rattle.xl_rack.proofs.slot.open_cuckoo.Goals as goal

opens-as : (row : Row) (count ways start cap threshold limit migrate few many : ℕ) (widths : List ℕ) → IsCuckoo count row.table
    → row.table ≡ table.Cuckoo ways start cap threshold limit migrate few many widths
    → opening_table count start cap (record { threshold = threshold; kick_limit = limit; migrate = migrate; sections_2m = few; sections_1g = many }) widths ≡ (opening row).table
unfolding opening opening_shape opening_caches
opens-as row count ways start cap threshold limit migrate few many widths is t = let n : ways ≡ count = subst (IsCuckoo count) t is in rw (t, n) refl

pub open-requires-2-clause-table : goal.open-requires-2-clause-table
open-requires-2-clause-table g c =
    let at = c.in-Cuckoo in
    c.in_ok-table.ensures
    ∙ opens-as (row_of c.args.row) g.row.D at.ways at.start_bits at.cap_bits at.threshold at.kick_limit at.migrate at.sections_2m at.sections_1g at.caches c.requires.table at.is
