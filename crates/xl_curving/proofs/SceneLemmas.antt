-- Rows with their curves: what they are served row by row is what they are served item by item.
use Rattle.xl_curving.proofs.Common.{◌++◌, ◌+◌, ◌∙◌, ◌∷◌, ◌≡◌, [], Access, access_served, ap, Area, arith, Command, curve_scene_after, curve_scene_of, curve_served, curve_stepped, curved, curves_drained, CurveScene, Declared, drop, each_curve, HitCurve, Item, item_of, Kind, length, List, map, map-append, map-id, Referenced, refl, row_served, rows_after, Scene, scene_after, Served, slice_get, Some, states-append, states_after, suc, sym, take, take-append-le, take_all, ℕ}
use Rattle.std.proofs.lemmas.Simd.{map-map}
use Rattle.xl_chart.specs.Charts.{curve_item}
use Rattle.xl_course.proofs.ServedLemmas.{take_one}
use Rattle.xl_curve_model.specs.CurveRun.{charted_item}
use Rattle.xl_machine.specs.Served.{after_of}
use Rattle.xl_model.specs.Items.{state_after}
use Rattle.xl_model.specs.declared.event.Event.{Event}
use Rattle.xl_serving.proofs.BatchLemmas.{any-number}

-- curves that are changed alike
each-same : (f g : Served → HitCurve → HitCurve) (rows : List Served) (curves : List HitCurve) → ((v : Served) (c : HitCurve) → f v c ≡ g v c) → each_curve f rows curves ≡ each_curve g rows curves
each-same f g [] curves h = refl
each-same f g (r ∷ rows) [] h = refl
each-same f g (r ∷ rows) (c ∷ curves) h = ap (λ (d : HitCurve). d ∷ each_curve f rows curves) (h r c) ∙ ap (λ (ds : List HitCurve). g r c ∷ ds) (each-same f g rows curves h)

-- curves that stay
each-stays : (f : Served → HitCurve → HitCurve) (rows : List Served) (curves : List HitCurve) → ((v : Served) (c : HitCurve) → f v c ≡ c) → each_curve f rows curves ≡ curves
each-stays f [] curves h = refl
each-stays f (r ∷ rows) [] h = refl
each-stays f (r ∷ rows) (c ∷ curves) h = ap (λ (d : HitCurve). d ∷ each_curve f rows curves) (h r c) ∙ ap (λ (ds : List HitCurve). c ∷ ds) (each-stays f rows curves h)

-- an event
stepped-rows : (e : Event) (areas : List Area) (rows : List Served) → map (after_of e) rows ≡ rows_after (Command e) areas rows
unfolding state_after
stepped-rows e areas [] = refl
stepped-rows e areas (r ∷ rows) = ap (λ (rest : List Served). after_of e r ∷ rest) (stepped-rows e areas rows)

stepped-curve : (e : Event) (areas : List Area) (v : Served) (c : HitCurve) → curve_stepped e v c ≡ curve_item (Command e) areas v c
unfolding charted_item
stepped-curve e areas v c = refl

stepped-scene : (e : Event) (areas : List Area) (rows : List Served) → record { rows = map (after_of e) rows; areas = areas } ≡ scene_after (Command e) (record { rows = rows; areas = areas })
unfolding scene_after
stepped-scene e areas rows = ap (λ (z : List Served). record { rows = z; areas = areas }) (stepped-rows e areas rows)

pub stepped : (e : Event) (areas : List Area) (rows : List Served) (curves : List HitCurve)
    → curve_scene_of (map (after_of e) rows) areas (each_curve (curve_stepped e) rows curves) ≡ curve_scene_after (Command e) (curve_scene_of rows areas curves)
stepped e areas rows curves =
    ap (λ (s : Scene). record { scene = s; curves = each_curve (curve_stepped e) rows curves }) (stepped-scene e areas rows)
    ∙ ap (λ (cs : List HitCurve). record { scene = scene_after (Command e) (record { rows = rows; areas = areas }); curves = cs })
    (each-same (curve_stepped e) (curve_item (Command e) areas) rows curves (stepped-curve e areas))

-- an area
declared-rows : (area : Area) (areas : List Area) (rows : List Served) → rows ≡ rows_after (Declared area) areas rows
unfolding state_after
declared-rows area areas [] = refl
declared-rows area areas (r ∷ rows) = ap (λ (rest : List Served). r ∷ rest) (declared-rows area areas rows)

declared-curve : (area : Area) (areas : List Area) (v : Served) (c : HitCurve) → curve_item (Declared area) areas v c ≡ c
unfolding charted_item
declared-curve area areas v c = refl

declared-scene : (area : Area) (areas : List Area) (rows : List Served) → record { rows = rows; areas = areas ++ area ∷ [] } ≡ scene_after (Declared area) (record { rows = rows; areas = areas })
unfolding scene_after
declared-scene area areas rows = ap (λ (z : List Served). record { rows = z; areas = areas ++ area ∷ [] }) (declared-rows area areas rows)

pub declared : (area : Area) (areas : List Area) (rows : List Served) (curves : List HitCurve)
    → curve_scene_of rows (areas ++ area ∷ []) curves ≡ curve_scene_after (Declared area) (curve_scene_of rows areas curves)
declared area areas rows curves =
    ap (λ (s : Scene). record { scene = s; curves = curves }) (declared-scene area areas rows)
    ∙ ap (λ (cs : List HitCurve). record { scene = scene_after (Declared area) (record { rows = rows; areas = areas }); curves = cs })
    (sym (each-stays (curve_item (Declared area) areas) rows curves (declared-curve area areas)))

-- an access
accessed-rows : (a : Access) (areas : List Area) (rows : List Served) → map (access_served a.va a.kind areas) rows ≡ rows_after (item_of a) areas rows
unfolding state_after
accessed-rows a areas [] = refl
accessed-rows a areas (r ∷ rows) = ap (λ (rest : List Served). access_served a.va a.kind areas r ∷ rest) (accessed-rows a areas rows)

accessed-scene : (a : Access) (areas : List Area) (rows : List Served) → record { rows = map (access_served a.va a.kind areas) rows; areas = areas } ≡ scene_after (item_of a) (record { rows = rows; areas = areas })
unfolding scene_after
accessed-scene a areas rows = ap (λ (z : List Served). record { rows = z; areas = areas }) (accessed-rows a areas rows)

accessed : (a : Access) (areas : List Area) (rows : List Served) (curves : List HitCurve)
    → curve_scene_of (map (access_served a.va a.kind areas) rows) areas (each_curve (curve_item (item_of a) areas) rows curves) ≡ curve_scene_after (item_of a) (curve_scene_of rows areas curves)
accessed a areas rows curves =
    ap (λ (s : Scene). record { scene = s; curves = each_curve (curve_item (item_of a) areas) rows curves }) (accessed-scene a areas rows)

-- the first access, and then the others
in-turn : (a : Access) (accesses : List Access) (areas : List Area) (rows : List Served) (curves : List HitCurve)
    → each_curve (curve_served (a ∷ accesses) areas) rows curves ≡ each_curve (curve_served accesses areas) (map (access_served a.va a.kind areas) rows) (each_curve (curve_item (item_of a) areas) rows curves)
in-turn a accesses areas [] curves = refl
in-turn a accesses areas (r ∷ rows) [] = refl
in-turn a accesses areas (r ∷ rows) (c ∷ curves) =
    ap (λ (ds : List HitCurve). curve_served (a ∷ accesses) areas r c ∷ ds) (in-turn a accesses areas rows curves)

-- all accesses by the first row, then by the next
pub by-row : (accesses : List Access) (areas : List Area) (rows : List Served) (curves : List HitCurve)
    → curve_scene_of (map (row_served accesses areas) rows) areas (each_curve (curve_served accesses areas) rows curves) ≡ curves_drained accesses (curve_scene_of rows areas curves)
by-row [] areas rows curves =
    ap (λ (z : List Served). curve_scene_of z areas (each_curve (curve_served [] areas) rows curves)) (map-id rows)
    ∙ ap (curve_scene_of rows areas) (each-stays (curve_served [] areas) rows curves (λ v c. refl))
by-row (a ∷ accesses) areas rows curves =
    let served = map (access_served a.va a.kind areas) rows in
    let followed = each_curve (curve_item (item_of a) areas) rows curves in
    ap (λ (z : List Served). curve_scene_of z areas (each_curve (curve_served (a ∷ accesses) areas) rows curves)) (sym (map-map (row_served accesses areas) (access_served a.va a.kind areas) rows))
    ∙ ap (curve_scene_of (map (row_served accesses areas) served) areas) (in-turn a accesses areas rows curves)
    ∙ by-row accesses areas served followed
    ∙ ap (curves_drained accesses) (accessed a areas rows curves)

-- the number of an access's record changes nothing
any-curve : (n m va : ℕ) (k : Kind) (areas : List Area) (v : Served) (c : HitCurve) → curve_item (Referenced n va k) areas v c ≡ curve_item (Referenced m va k) areas v c
unfolding charted_item
any-curve n m va k areas v c = refl

pub any-record : (n m va : ℕ) (k : Kind) (s : CurveScene) → curve_scene_after (Referenced n va k) s ≡ curve_scene_after (Referenced m va k) s
any-record n m va k s =
    ap (λ (z : Scene). record { scene = z; curves = each_curve (curve_item (Referenced n va k) s.scene.areas) s.scene.rows s.curves }) (any-number n m va k s.scene)
    ∙ ap (λ (cs : List HitCurve). record { scene = scene_after (Referenced m va k) s.scene; curves = cs })
    (each-same (curve_item (Referenced n va k) s.scene.areas) (curve_item (Referenced m va k) s.scene.areas) s.scene.rows s.curves (any-curve n m va k s.scene.areas))

-- one access more in the queue
pub put-off : (accesses : List Access) (a : Access) (number : ℕ) (s : CurveScene) → curves_drained (accesses ++ a ∷ []) s ≡ curve_scene_after (Referenced number a.va a.kind) (curves_drained accesses s)
put-off accesses a number s =
    ap (λ (items : List Item). states_after curved items s) (map-append item_of accesses (a ∷ []))
    ∙ states-append curved (map item_of accesses) (item_of a ∷ []) s
    ∙ any-record 0 number a.va a.kind (curves_drained accesses s)

-- the next of some items
pub next-item : (xs : List Item) (i : ℕ) (x : Item) (s t u : CurveScene) → slice_get xs i ≡ Some x → t ≡ states_after curved (take i xs) s → u ≡ curve_scene_after x t
    → u ≡ states_after curved (take (i + 1) xs) s
next-item xs i x s t u h e f =
    let same : i + 1 ≡ suc i = omega arith in
    f ∙ ap (curve_scene_after x) e
    ∙ sym (states-append curved (take i xs) (x ∷ []) s)
    ∙ ap (λ (ys : List Item). states_after curved ys s) (sym (take_one xs i x h))
    ∙ ap (λ (j : ℕ). states_after curved (take j xs) s) (sym same)

-- there are as many curves as before
length-each : (f : Served → HitCurve → HitCurve) (rows : List Served) (curves : List HitCurve) → length (each_curve f rows curves) ≡ length curves
length-each f [] curves = refl
length-each f (r ∷ rows) [] = refl
length-each f (r ∷ rows) (c ∷ curves) = ap suc (length-each f rows curves)

-- what is written back through a slice of all curves
pub written : (n : ℕ) (f : Served → HitCurve → HitCurve) (rows : List Served) (new curves : List HitCurve) → new ≡ each_curve f rows curves → n ≡ length curves
    → take n (new ++ drop (length new) curves) ≡ each_curve f rows curves
written n f rows new curves e many =
    let size : length new ≡ length curves = ap (λ (cs : List HitCurve). length cs) e ∙ length-each f rows curves in
    take-append-le n new (drop (length new) curves) (omega (arith, size, many)) ∙ take_all n new (omega (arith, size, many)) ∙ e
