-- A machine and a curve that are served together.
use Rattle.std.specs.Prelude.{◌≡◌, ℕ, List, Option, None}
use Rattle.xl_model.specs.declared.address.Kind.{Kind}
use Rattle.xl_model.specs.declared.event.Event.TheVariants as event
use Rattle.xl_model.specs.declared.event.Outcome.{Outcome}
use Rattle.xl_model.specs.declared.event.Outcome.TheVariants as outcome
use Rattle.xl_model.specs.declared.script.Area.{Area}
use Rattle.xl_model.specs.declared.script.Item.{Item}
use Rattle.xl_model.specs.Items.{area_wanted, wanted}
use Rattle.xl_model.specs.Rows.{Row}
use Rattle.xl_model.specs.Scenes.{Served}
use Rattle.xl_curve_model.specs.Curves.{HitCurve}
use Rattle.xl_curve_model.specs.CurveRun.{Charted, charted_event, charted_demand, charted_item}

-- The state of a machine, with a curve.
abbrev pub both : Served → HitCurve → Charted
both v c = record { state = v.state; curve = c }

-- The machine and the curve are as this leaves both; the row stays.
pub record IsServedBeside (f : Row → Charted → Charted) (v : Served) (c : HitCurve) (w : Served) (d : HitCurve) : Type 0 where
  pub machine : w ≡ record v { state = (f v.row (both v c)).state }
  pub curve : d ≡ (f v.row (both v c)).curve

-- Both after an access with the events of its demand.
abbrev pub charted_access : Row → ℕ → Kind → List Area → Charted → Charted
charted_access row va kind areas p =
    charted_demand (area_wanted row va kind areas p.state) row va (event.Access va kind) (charted_event row (event.Access va kind) p)

-- The area that the outcome of an access demands.
abbrev pub wanted_by : Outcome → Option Area → Option Area
wanted_by (outcome.Replied answer) area = wanted answer area
wanted_by result area = None

-- The curve of a row after an item.
abbrev pub curve_item : Item → List Area → Served → HitCurve → HitCurve
curve_item item areas v c = (charted_item v.row item areas (both v c)).curve
