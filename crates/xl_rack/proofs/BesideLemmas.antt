-- Parts that rows are served, and curves of which none is left.
use Rattle.xl_rack.proofs.Common.{◌∷◌, ◌≡◌, [], arith, each_curve, length, List, refl, row_after, Served}
use Rattle.xl_curve_model.specs.Curves.{HitCurve}
use Rattle.xl_rack.proofs.BatchLemmas.{row-stays}
use Rattle.xl_rack.specs.declared.beside.Part.{Part}
use Rattle.xl_rack.specs.declared.beside.Part.TheVariants as part

pub part-stays : (p : Part) (v : Served) → (row_after p v).row ≡ v.row
part-stays (part.Event e) v = refl
part-stays (part.Accesses accesses areas) v = row-stays accesses.now areas.now v

pub no-curves : (f : Served → HitCurve → HitCurve) (rows : List Served) (curves : List HitCurve) → length curves ≡ 0 → curves ≡ each_curve f rows curves
no-curves f [] curves h = refl
no-curves f (r ∷ rows) [] h = refl
no-curves f (r ∷ rows) (c ∷ curves) h = absurd (omega arith)
