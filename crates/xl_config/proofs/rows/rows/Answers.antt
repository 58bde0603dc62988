use Rattle.xl_config.proofs.Common.{array_view, map, row_of}
use Rattle.xl_config.proofs.FitLemmas.{rows_fit}
use Rattle.xl_config.proofs.rows.rows.Goals as goal

pub returns-in-Ok-clause-fit : goal.returns-in-Ok-clause-fit
returns-in-Ok-clause-fit c =
    rows_fit (λ rows. map row_of rows.items) (array_view c.in-Ok.values.now) c.rows_from.result c.rows_from.ensures.reading
