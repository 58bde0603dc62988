-- The plain form: scenes and lines, as any form's.
use Rattle.xl_serving.proofs.Common.{◌++◌, ◌+◌, ◌<◌, ◌∙◌, ◌∷◌, ◌≡◌, ◌≤◌, ◌⊎◌, [], Accesses, account, account_from, All, All-cons, All-head, All-nil, All-same, All-tail, ap, Area, arith, AskedPlain, Backlog, BatchesMore, Bool, Command, commands_of, cond, count_by, count_of, course, deferred, drained, end_text, Ends, event_at, events_from, false, inl, inr, is_area, IsPlaced, Item, items_of, items_of_all, Kind, length, length-append, lines_where, List, Option, plain, printed-append, printed_by, record_items, refl, Result, Served as Row, rows_from, Scene, accesses_items as scene_accesses, scene_after, scene_items, scene_of, scenes_after, scenes_printed, Skimmed, slice_get, Some, start_of, states_after, step_of, steps_of, Stop, subst, suc, sum_by-cons, Trail, true, zero, ℕ}
use Rattle.xl_course.specs.declared.form.Step.{Step}
use Rattle.xl_course.specs.declared.form.Step.TheVariants as step
use Rattle.xl_model.specs.declared.script.Command.TheVariants as command

pub scenes-states : (items : List Item) (s : Scene) → scenes_after items s ≡ states_after plain items s
scenes-states [] s = refl
scenes-states (i ∷ items) s = scenes-states items (scene_after i s)

line-one : (answers : Bool) (i : Item) (s : Scene) → scenes_printed answers (i ∷ []) s ≡ lines_where plain answers i s
line-one true i s = refl
line-one false i s = refl

pub printed-plain : (answers : Bool) (items : List Item) (s : Scene) → scenes_printed answers items s ≡ printed_by plain answers items s
printed-plain answers [] s = refl
printed-plain answers (i ∷ items) s =
    printed-append answers (i ∷ []) items s
    ∙ ap (λ (t : List ℕ). t ++ scenes_printed answers items (scene_after i s)) (line-one answers i s)
    ∙ ap (λ (t : List ℕ). lines_where plain answers i s ++ t) (printed-plain answers items (scene_after i s))

same-accesses : (number : ℕ) (xs : List (ℕ × Kind)) → scene_accesses number xs ≡ record_items plain (record { number = number; accesses = xs })
same-accesses number [] = refl
same-accesses number (x ∷ xs) = ap (λ (rest : List Item). plain.referenced number x.0 x.1 ∷ rest) (same-accesses number xs)

same-items : (rs : List Accesses) → scene_items rs ≡ items_of_all plain rs
same-items [] = refl
same-items (r ∷ rs) = ap (λ (xs : List Item). xs ++ scene_items rs) (same-accesses r.number r.accesses) ∙ ap (λ (xs : List Item). record_items plain r ++ xs) (same-items rs)

-- what is queued more, was skimmed
pub skimmed-plain : (reads_from : Type 0) (t u : Trail) (before after : Backlog) (count : ℕ) (s : Scene) → BatchesMore reads_from t u before after count
    → Skimmed plain reads_from t u (drained before s) (drained after s) count
skimmed-plain reads_from t u before after count s k = record {
  still_reads = k.still_reads;
  taken = k.taken;
  split = k.split;
  follow = k.follow s ∙ scenes-states (scene_items k.taken) (drained before s) ∙ ap (λ (items : List Item). states_after plain items (drained before s)) (same-items k.taken);
  many = k.many;
}

pub length-steps : (cs : List Command) → length (steps_of cs) ≡ length cs
length-steps [] = refl
length-steps (c ∷ cs) = ap suc (length-steps cs)

pub nth-step : (cs : List Command) (i : ℕ) (c : Command) → slice_get cs i ≡ Some c → slice_get (steps_of cs) i ≡ Some (step_of c)
nth-step [] zero c h = absurd (grind arith)
nth-step [] (suc i) c h = absurd (grind arith)
nth-step (d ∷ cs) zero c h = let e : d ≡ c = cc in ap (λ (z : Command). Some (step_of z)) e
nth-step (d ∷ cs) (suc i) c h = nth-step cs i c h

pub own-step : (c : Command) → ((n : ℕ) → c ≡ command.Run n → ⊥) → (c ≡ command.RunRest → ⊥) → step_of c ≡ step.Own c
own-step (command.Map space va o perm n) r s = refl
own-step (command.Unmap space va o n) r s = refl
own-step (command.Protect space va o perm n) r s = refl
own-step (command.Move space from to o n) r s = refl
own-step (command.Space space) r s = refl
own-step (command.Fence scope) r s = refl
own-step (command.Demand area) r s = refl
own-step (command.Run n) r s = absurd (r n refl)
own-step command.RunRest r s = absurd (s refl)

-- a command that declares no area is its events
pub events-items : (c : Command) → is_area c ≡ false → items_of c ≡ events_from (event_at c) 0 (count_of c)
events-items (command.Map space va o perm n) h = refl
events-items (command.Unmap space va o n) h = refl
events-items (command.Protect space va o perm n) h = refl
events-items (command.Move space from to o n) h = refl
events-items (command.Space space) h = refl
events-items (command.Fence scope) h = refl
events-items (command.Demand area) h = absurd (let e : true ≡ false = h in cc)
events-items (command.Run n) h = refl
events-items command.RunRest h = refl

-- what may still be served, after an area
pub can-area : (area : Area) (rest : List Command) (areas more : List Area) → more ≡ areas ++ area ∷ []
    → (length areas + count_by is_area (command.Demand area ∷ rest) ≤ 256) × All IsPlaced (command.Demand area ∷ rest) → (length more + count_by is_area rest ≤ 256) × All IsPlaced rest
can-area area rest areas more e h =
    let size : length more ≡ length areas + 1 = ap (λ (z : List Area). length z) e ∙ length-append areas (area ∷ []) in
    let one : count_by is_area (command.Demand area ∷ rest) ≡ 1 + count_by is_area rest = sum_by-cons (λ (x : Command). cond (is_area x) 1 0) (command.Demand area) rest in
    (omega (arith, size, one, h.0), All-tail IsPlaced (command.Demand area) rest h.1)

-- and after events
pub can-events : (c : Command) (rest : List Command) (areas more : List Area) → more ≡ areas
    → (length areas + count_by is_area (c ∷ rest) ≤ 256) × All IsPlaced (c ∷ rest) → (length more + count_by is_area rest ≤ 256) × All IsPlaced rest
can-events c rest areas more e h =
    let size : length more ≡ length areas = ap (λ (z : List Area). length z) e in
    let one : count_by is_area (c ∷ rest) ≡ cond (is_area c) 1 0 + count_by is_area rest = sum_by-cons (λ (x : Command). cond (is_area x) 1 0) c rest in
    (omega (arith, size, one, h.0), All-tail IsPlaced c rest h.1)

-- there is room for an area that is still to be declared
pub room : (c : Command) (area : Area) (rest : List Command) (areas : List Area) → c ≡ command.Demand area → length areas + count_by is_area (c ∷ rest) ≤ 256 → length areas < 256
room c area rest areas e h = at-area (subst (λ (z : Command). length areas + count_by is_area (z ∷ rest) ≤ 256) e h)
  where
    at-area : length areas + count_by is_area (command.Demand area ∷ rest) ≤ 256 → length areas < 256
    at-area k = let one : count_by is_area (command.Demand area ∷ rest) ≡ 1 + count_by is_area rest = sum_by-cons (λ (x : Command). cond (is_area x) 1 0) (command.Demand area) rest in omega (arith, one, k)

pub placed : (c : Command) (rest : List Command) → All IsPlaced (c ∷ rest) → IsPlaced c
placed c rest h = All-head IsPlaced c rest h

-- a command is served, or runs records
owned : (c : Command) (rest : List (Step Command)) → (commands_of (step_of c ∷ rest) ≡ c ∷ commands_of rest) ⊎ (commands_of (step_of c ∷ rest) ≡ commands_of rest)
owned (command.Map space va o perm n) rest = inl refl
owned (command.Unmap space va o n) rest = inl refl
owned (command.Protect space va o perm n) rest = inl refl
owned (command.Move space from to o n) rest = inl refl
owned (command.Space space) rest = inl refl
owned (command.Fence scope) rest = inl refl
owned (command.Demand area) rest = inl refl
owned (command.Run n) rest = inr refl
owned command.RunRest rest = inr refl

more-areas : (c : Command) (xs : List Command) → count_by is_area (c ∷ xs) ≡ cond (is_area c) 1 0 + count_by is_area xs
more-areas c xs = sum_by-cons (λ (x : Command). cond (is_area x) 1 0) c xs

few-step : (c : Command) (cs xs ys : List Command) → (ys ≡ c ∷ xs) ⊎ (ys ≡ xs) → count_by is_area xs ≤ count_by is_area cs → count_by is_area ys ≤ count_by is_area (c ∷ cs)
few-step c cs xs ys (inl e) h = omega (arith, h, ap (λ (zs : List Command). count_by is_area zs) e, more-areas c xs, more-areas c cs)
few-step c cs xs ys (inr e) h = omega (arith, h, ap (λ (zs : List Command). count_by is_area zs) e, more-areas c cs)

few_owned : (cs : List Command) → count_by is_area (commands_of (steps_of cs)) ≤ count_by is_area cs
few_owned [] = omega arith
few_owned (c ∷ cs) = few-step c cs (commands_of (steps_of cs)) (commands_of (step_of c ∷ steps_of cs)) (owned c (steps_of cs)) (few_owned cs)

placed-step : (c : Command) (xs ys : List Command) → (ys ≡ c ∷ xs) ⊎ (ys ≡ xs) → IsPlaced c → All IsPlaced xs → All IsPlaced ys
placed-step c xs ys (inl e) p h = All-same IsPlaced ys (c ∷ xs) e (All-cons IsPlaced c xs p h)
placed-step c xs ys (inr e) p h = All-same IsPlaced ys xs e h

placed_owned : (cs : List Command) → All IsPlaced cs → All IsPlaced (commands_of (steps_of cs))
placed_owned [] h = All-nil IsPlaced
placed_owned (c ∷ cs) h =
    placed-step c (commands_of (steps_of cs)) (commands_of (step_of c ∷ steps_of cs)) (owned c (steps_of cs)) (All-head IsPlaced c cs h) (placed_owned cs (All-tail IsPlaced c cs h))

-- where nothing is declared, all of a script can be served
pub can-script : (areas : List Area) (cs : List Command) → areas ≡ [] → All IsPlaced cs → count_by is_area cs ≤ 256
    → (length areas + count_by is_area (commands_of (steps_of cs)) ≤ 256) × All IsPlaced (commands_of (steps_of cs))
can-script areas cs e placed few =
    let none : length areas ≡ 0 = ap (λ (xs : List Area). length xs) e in (omega (arith, few_owned cs, few, none), placed_owned cs placed)

-- the state of a bench with an empty queue and no declared area
pub fresh : (w : Backlog) (rows : List Row) (areas : List Area) → deferred w ≡ [] → areas ≡ [] → drained w (scene_of rows areas) ≡ scene_of rows []
fresh w rows areas idle none = ap (λ (items : List Item). scenes_after items (scene_of rows areas)) idle ∙ ap (scene_of rows) none

-- a script was served over a trace, from a start on
pub course-ends : {K : Type 0} (roomy : K → ℕ → Type 0) (a : AskedPlain) (rows left : List Row) (cs : List Command) (t u : Trail) (s : Scene) (r : Result (Unit {0}) Stop) (before after : Option (List ℕ)) (old new : K)
    → s ≡ scene_of rows [] → t ≡ u
    → Ends r (account plain a.answers (end_text a.json a.image) a.json (course plain (steps_of cs) t) s) roomy before after old new (left ≡ (states_after plain (course plain (steps_of cs) t).items s).rows)
    → Ends r (account_from a u (start_of rows cs)) roomy before after old new (left ≡ rows_from u (start_of rows cs))
course-ends roomy a rows left cs t u s r before after old new e f x =
    subst (λ (v : Trail). Ends r (account_from a v (start_of rows cs)) roomy before after old new (left ≡ rows_from v (start_of rows cs))) f
    (subst (λ (z : Scene). Ends r (account plain a.answers (end_text a.json a.image) a.json (course plain (steps_of cs) t) z) roomy before after old new (left ≡ (states_after plain (course plain (steps_of cs) t).items z).rows)) e x)

-- and the rows that it leaves
pub course-rows : (rows left : List Row) (cs : List Command) (t u : Trail) (s : Scene) → s ≡ scene_of rows [] → t ≡ u
    → left ≡ (states_after plain (course plain (steps_of cs) t).items s).rows → left ≡ rows_from u (start_of rows cs)
course-rows rows left cs t u s e f x =
    subst (λ (v : Trail). left ≡ rows_from v (start_of rows cs)) f
    (subst (λ (z : Scene). left ≡ (states_after plain (course plain (steps_of cs) t).items z).rows) e x)
