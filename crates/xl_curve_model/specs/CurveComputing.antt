-- One word that opens every definition, of rows and of curves, for proofs that compute with them all.
use Rattle.std.specs.Prelude.{⊤}
use Rattle.xl_model.specs.Computing.{computing}
use Rattle.xl_curve_model.specs.Curves.{curve_accessed, curve_missed, curve_without, opening_curve, hits_at}
use Rattle.xl_curve_model.specs.CurveRun.{curve_after, charted_item, curve_of_run}
use Rattle.xl_curve_model.specs.CurveLines.{with_lookups, curve_line}

-- Every definition is open.
unfoldable pub computing_curves : ⊤
unfolding computing curve_accessed curve_missed curve_without opening_curve hits_at curve_after charted_item curve_of_run with_lookups curve_line
computing_curves = tt
