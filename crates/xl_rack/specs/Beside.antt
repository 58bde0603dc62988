-- Rows that are served, each with a curve that follows it.
use Rattle.std.specs.Prelude.{List, [], ◌∷◌}
use Rattle.xl_model.specs.declared.event.Event.{Event}
use Rattle.xl_model.specs.declared.script.Area.{Area}
use Rattle.xl_model.specs.Scenes.{Served}
use Rattle.xl_lackey.specs.declared.skim.Access.{Access}
use Rattle.xl_serving.specs.Batches.{item_of}
use Rattle.xl_curve_model.specs.Curves.{HitCurve}
use Rattle.xl_curve_model.specs.CurveRun.{curve_after}
use Rattle.xl_chart.specs.Charts.{curve_item}
use Rattle.xl_machine.specs.Served.{after_of}
use Rattle.xl_rack.specs.Batches.{access_served, row_served}
use Rattle.xl_rack.specs.declared.beside.Part.{Part}
use Rattle.xl_rack.specs.declared.beside.Part.TheVariants as part

-- Each curve, changed by its own row: the first curve by the first row, and so on. A curve without
-- a row stays.
abbrev pub each_curve : (Served → HitCurve → HitCurve) → List Served → List HitCurve → List HitCurve
each_curve f [] curves = curves
each_curve f (r ∷ rows) [] = []
each_curve f (r ∷ rows) (c ∷ curves) = f r c ∷ each_curve f rows curves

-- A curve after an event that its row is served.
abbrev pub curve_stepped : Event → Served → HitCurve → HitCurve
curve_stepped e v c = curve_after v.row e v.state c

-- A curve after some accesses that its row is served, each with the events of its demand.
abbrev pub curve_served : List Access → List Area → Served → HitCurve → HitCurve
curve_served [] areas v c = c
curve_served (a ∷ accesses) areas v c =
    curve_served accesses areas (access_served a.va a.kind areas v) (curve_item (item_of a) areas v c)

-- A row after a part that it is served.
abbrev pub row_after : Part → Served → Served
row_after (part.Event e) = after_of e
row_after (part.Accesses accesses areas) = row_served accesses.now areas.now

-- A curve after a part that its row is served.
abbrev pub curve_after_part : Part → Served → HitCurve → HitCurve
curve_after_part (part.Event e) = curve_stepped e
curve_after_part (part.Accesses accesses areas) = curve_served accesses.now areas.now
