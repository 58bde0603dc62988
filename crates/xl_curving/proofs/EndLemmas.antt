-- A run from its start: its course is that of the plain form, and the rows are what that leaves.
use Rattle.xl_curving.proofs.Common.{◌∙◌, ◌∷◌, ◌≡◌, [], Access, Accesses, account, ap, Area, at_end, at_last, before, Bool, Course, course, course_by, curve_scene_after, curve_scene_of, curved, curves_by, curves_drained, curves_from, curves_text, CurveScene, Ends, false, finish, HasServed, HitCurve, Item, items_in, length, List, None, Ok, opening_curve, Option, plain, printed_by, ran, ran_all, refl, replicate, Result, rows_by, rows_from, Scene, scene_of, Served, sink_same, SinkAfter, SinkMeaning, Some, Start, start_of, states_after, steps_of, subst, suc, sym, Trail, true, with_curves, zero, ℕ}
use Rattle.xl_course.specs.declared.form.Step.{Step}
use Rattle.xl_course.specs.declared.stop.Stop.{Stop}
use Rattle.xl_model.specs.declared.fault.InputFault.{InputFault}
use Rattle.xl_model.specs.declared.script.Command.{Command}
use Rattle.xl_course.specs.declared.form.Step.TheVariants as step

-- no lines
known-nothing : (answers : Bool) (items : List Item) (s : CurveScene) → printed_by curved answers items s ≡ []
known-nothing true [] s = refl
known-nothing false [] s = refl
known-nothing true (i ∷ items) s = known-nothing true items (curve_scene_after i s)
known-nothing false (i ∷ items) s = known-nothing false items (curve_scene_after i s)

-- items were served
pub served : {K : Type 0} (sink : SinkMeaning K) (answers : Bool) (items : List Item) (p q : CurveScene) (k : K)
    → q ≡ states_after curved items p → HasServed curved sink answers items p q k k true
served sink answers items p q k e = record {
  state_is = e;
  writes = subst (λ (text : List ℕ). SinkAfter sink text k k true) (sym (known-nothing answers items p)) (sink_same sink k);
}

-- the state of a form with an empty queue and no declared area
pub fresh : (batch : List Access) (rows : List Served) (areas : List Area) (curves : List HitCurve) (sets count : ℕ) → batch ≡ [] → areas ≡ [] → count ≡ length rows
    → curves ≡ replicate count (opening_curve sets) → curves_drained batch (curve_scene_of rows areas curves) ≡ with_curves sets (scene_of rows [])
fresh batch rows areas curves sets count idle none many e =
    ap (λ (xs : List Access). curves_drained xs (curve_scene_of rows areas curves)) idle
    ∙ ap (λ (xs : List Area). curve_scene_of rows xs curves) none
    ∙ ap (curve_scene_of rows []) (e ∙ ap (λ (n : ℕ). replicate n (opening_curve sets)) many)

-- the course is that of the plain form
same-last : (fault : Option InputFault) (f g : Trail → Course Item) → ((t : Trail) → f t ≡ g t) → at_last fault f ≡ at_last fault g
same-last None f g h = h (at_end None)
same-last (Some fault) f g h = refl

same-ran : (n : ℕ) (rs : List Accesses) (fault : Option InputFault) (f g : Trail → Course Item) → ((t : Trail) → f t ≡ g t) → ran curved n rs fault f ≡ ran plain n rs fault g
same-ran zero rs fault f g h = h (record { records = rs; fault = fault })
same-ran (suc n) [] fault f g h = same-last fault f g h
same-ran (suc n) (r ∷ rs) fault f g h = ap (before (items_in plain r)) (same-ran n rs fault f g h)

same-ran-all : (rs : List Accesses) (fault : Option InputFault) (f g : Trail → Course Item) → ((t : Trail) → f t ≡ g t) → ran_all curved rs fault f ≡ ran_all plain rs fault g
same-ran-all [] fault f g h = same-last fault f g h
same-ran-all (r ∷ rs) fault f g h = ap (before (items_in plain r)) (same-ran-all rs fault f g h)

same-step : (c : Step Command) (t : Trail) (f g : Trail → Course Item) → ((u : Trail) → f u ≡ g u) → course_by curved c t f ≡ course_by plain c t g
same-step (step.Own c) t f g h = ap (before (plain.items c)) (h t)
same-step (step.Run n) t f g h = same-ran n t.records t.fault f g h
same-step step.RunRest t f g h = same-ran-all t.records t.fault f g h

same-course : (steps : List (Step Command)) (t : Trail) → course curved steps t ≡ course plain steps t
same-course [] t = same-ran-all t.records t.fault finish finish (λ u. refl)
same-course (c ∷ steps) t = same-step c t (course curved steps) (course plain steps) (same-course steps)

-- the rows are those of the plain form
same-scene : (items : List Item) (s : CurveScene) → (states_after curved items s).scene ≡ states_after plain items s.scene
same-scene [] s = refl
same-scene (i ∷ items) s = same-scene items (curve_scene_after i s)

same-rows : (sets : ℕ) (t : Trail) (start : Start) → (states_after curved (course curved start.steps t).items (with_curves sets start.scene)).scene.rows ≡ rows_from t start
same-rows sets t start =
    ap (λ (s : Scene). s.rows) (same-scene (course curved start.steps t).items (with_curves sets start.scene))
    ∙ ap (λ (c : Course Item). (states_after plain c.items start.scene).rows) (same-course start.steps t)

-- a script was served over a trace, from a start on
pub course-ends : {K : Type 0} (roomy : K → ℕ → Type 0) (sets : ℕ) (rows left : List Served) (cs : List Command) (t u : Trail) (s : CurveScene) (r : Result (Unit {0}) Stop) (before after : Option (List ℕ)) (old new : K)
    → s ≡ with_curves sets (scene_of rows []) → t ≡ u
    → Ends r (account curved false (curves_text sets) false (course curved (steps_of cs) t) s) roomy before after old new (left ≡ (states_after curved (course curved (steps_of cs) t).items s).scene.rows)
    → Ends r (curves_from sets u (start_of rows cs)) roomy before after old new (left ≡ rows_from u (start_of rows cs))
course-ends roomy sets rows left cs t u s r before after old new e f x =
    let start = start_of rows cs in
    subst (λ (z : List Served). Ends r (curves_from sets u start) roomy before after old new (left ≡ z)) (same-rows sets u start)
    (subst (λ (v : Trail). Ends r (curves_from sets v start) roomy before after old new (left ≡ (states_after curved (course curved start.steps v).items (with_curves sets start.scene)).scene.rows)) f
    (subst (λ (z : CurveScene). Ends r (account curved false (curves_text sets) false (course curved (steps_of cs) t) z) roomy before after old new (left ≡ (states_after curved (course curved (steps_of cs) t).items z).scene.rows)) e x))

-- there was a start, and its course was served
pub started : {K : Type 0} (roomy : K → ℕ → Type 0) (sets : ℕ) (t : Trail) (start : Start) (by : Result Start InputFault) (r : Result (Unit {0}) Stop) (before after : Option (List ℕ)) (old new : K) (rows : List Served)
    → by ≡ Ok start → Ends r (curves_from sets t start) roomy before after old new (rows ≡ rows_from t start)
    → Ends r (curves_by sets t by) roomy before after old new (rows ≡ rows_by t by)
started roomy sets t start by r before after old new rows e x =
    subst (λ (z : Result Start InputFault). Ends r (curves_by sets t z) roomy before after old new (rows ≡ rows_by t z)) (sym e) x
