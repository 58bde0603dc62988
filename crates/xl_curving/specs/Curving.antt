-- The form of hit curves: rows that are served as in the plain form, each with a curve that follows it.
use Rattle.std.specs.Prelude.{ℕ, false, List, [], ◌∷◌, ◌++◌, length, map, replicate, None, Result, Ok, Err}
use Rattle.xl_model.specs.declared.fault.InputFault.{InputFault}
use Rattle.xl_model.specs.declared.script.Area.{Area}
use Rattle.xl_model.specs.declared.script.Command.{Command}
use Rattle.xl_model.specs.declared.script.Item.{Item}
use Rattle.xl_model.specs.declared.script.Item.TheVariants as item
use Rattle.xl_model.specs.Courses.{Trail}
use Rattle.xl_model.specs.Scenes.{Served, Scene, scene_after}
use Rattle.xl_lackey.specs.declared.skim.Access.{Access}
use Rattle.xl_outside.specs.Folders.{Files}
use Rattle.xl_course.specs.Meanings.{Meaning, states_after}
use Rattle.xl_course.specs.Courses.{course}
use Rattle.xl_course.specs.Accounts.{Account, account, faulted}
use Rattle.xl_words.specs.Words.{AskedCurve, AskedPlain}
use Rattle.xl_serving.specs.Batches.{item_of}
use Rattle.xl_serving.specs.Inputs.{trail_for}
use Rattle.xl_serving.specs.Plain.{Start, items_of, plain_start, plain_rows}
use Rattle.xl_serving.specs.Serving.{scene_of}
use Rattle.xl_curve_model.specs.Curves.{HitCurve, opening_curve}
use Rattle.xl_curve_model.specs.CurveLines.{line_of}
use Rattle.xl_chart.specs.Charts.{curve_item}
use Rattle.xl_rack.specs.Beside.{each_curve}

-- All rows with the areas declared so far, and the curves of the rows.
pub record CurveScene : Type 0 where
  pub scene : Scene
  pub curves : List HitCurve

-- The same after an item: the rows as in the plain form, and each curve by what its row was served.
abbrev pub curve_scene_after : Item → CurveScene → CurveScene
curve_scene_after i s = record {
  scene = scene_after i s.scene;
  curves = each_curve (curve_item i s.scene.areas) s.scene.rows s.curves;
}

-- An item has no lines.
abbrev pub no_lines : Item → CurveScene → List ℕ
no_lines i s = []

-- What the form serves: the items of the plain form.
abbrev pub curved : Meaning Command Item CurveScene
curved = record { items = items_of; referenced = item.Referenced; after = curve_scene_after; lines = no_lines }

-- Rows, where these areas were declared, with these curves.
abbrev pub curve_scene_of : List Served → List Area → List HitCurve → CurveScene
curve_scene_of rows areas curves = record { scene = scene_of rows areas; curves = curves }

-- The same after queued accesses.
abbrev pub curves_drained : List Access → CurveScene → CurveScene
curves_drained accesses s = states_after curved (map item_of accesses) s

-- The line of each row's curve.
abbrev pub curve_lines : ℕ → List Served → List HitCurve → List ℕ
curve_lines sets [] curves = []
curve_lines sets (r ∷ rows) [] = []
curve_lines sets (r ∷ rows) (c ∷ curves) = line_of r.row.name sets c ++ curve_lines sets rows curves

-- The end of the report.
abbrev pub curves_text : ℕ → CurveScene → List ℕ
curves_text sets s = curve_lines sets s.scene.rows s.curves

-- These rows, each with a curve of this many sets, before any look-up.
abbrev pub with_curves : ℕ → Scene → CurveScene
with_curves sets s = record { scene = s; curves = replicate (length s.rows) (opening_curve sets) }

-- What is to be written from a start on: the account of the script's course over the trace.
abbrev pub curves_from : ℕ → Trail → Start → Account
curves_from sets t s =
    account curved false (curves_text sets) false (course curved s.steps t) (with_curves sets s.scene)

-- The same, where the configuration and the script are good.
abbrev pub curves_by : ℕ → Trail → Result Start InputFault → Account
curves_by sets t (Err f) = faulted f
curves_by sets t (Ok s) = curves_from sets t s

-- The words of a plain run over the same files.
abbrev pub plain_words : AskedCurve → AskedPlain
plain_words a = record {
  config = a.config;
  script = a.script;
  trace = a.trace;
  made = None;
  answers = false;
  image = false;
  json = false;
}

-- What a run of the form is to write over these files. It starts from what a plain run over them
-- starts from.
abbrev pub curve_account : AskedCurve → Files → Account
curve_account a files = curves_by a.sets (trail_for (plain_words a) files) (plain_start (plain_words a) files)

-- The rows that it leaves: those that the plain run leaves.
abbrev pub curve_rows : AskedCurve → Files → List Served
curve_rows a files = plain_rows (plain_words a) files
