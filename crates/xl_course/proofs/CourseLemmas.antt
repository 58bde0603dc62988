-- Courses that are served part by part.
use Rattle.xl_course.proofs.Common.{◌++◌, ◌+◌, ◌-◌, ◌<◌, ◌∙◌, ◌∷◌, ◌≡◌, ◌≤◌, [], ap, append_assoc, arith, at_last, before, Bool, Course, course, course_by, drop, drop_all, drop_more, ended, Err, false, finish, HasServed, InputFault, items_of, items_of_all, length, List, Meaning, None, Ok, Option, ran, ran_all, Reached, refl, Result, Serves, ServesNext, ServesPart, ServesRecord, SinkMeaning, Skimmed, slice_get, Some, states_after, Stop, subst, suc, sym, true, zero, ℕ}
use Rattle.std.proofs.lemmas.Option.{get_or_from_slice_get, slice_get_within}
use Rattle.xl_model.specs.Courses.{Accesses, Trail}
use Rattle.xl_course.proofs.ServedLemmas.{served-unprinted, served_cut, served_none, served_on}
use Rattle.xl_course.specs.declared.form.Step.{Step}
use Rattle.xl_course.specs.declared.stop.Stop.TheVariants as why

pub before-before : {I : Type 0} (xs ys : List I) (c : Course I) → before xs (before ys c) ≡ before (xs ++ ys) c
before-before {I} xs ys c = ap (λ (zs : List I). record { items = zs; fault = c.fault }) (sym (append_assoc xs ys c.items))

-- A loop over records goes by a course that is `now` of the records that are left: where none is
-- left it is `at_last`, and else the first record's items are before what is `later` of the others.
abbrev pub Rules : Type 0 → Type 0
Rules I = List Accesses → Option InputFault → (Trail → Course I) → Course I

pub record Steps {C I S : Type 0} (m : Meaning C I S) (now later : Rules I) : Type 0 where
  pub last : (e : Option InputFault) (next : Trail → Course I) → now [] e next ≡ at_last e next
  pub first : (r : Accesses) (rs : List Accesses) (e : Option InputFault) (next : Trail → Course I) → now (r ∷ rs) e next ≡ before (items_of m r) (later rs e next)

pub all_steps : {C I S : Type 0} (m : Meaning C I S) → Steps m (ran_all m) (ran_all m)
all_steps m = record { last = λ e next. refl; first = λ r rs e next. refl }

run_steps : {C I S : Type 0} (m : Meaning C I S) (n : ℕ) → Steps m (ran m (suc n)) (ran m n)
run_steps m n = record { last = λ e next. refl; first = λ r rs e next. refl }

pub run_step : {C I S : Type 0} (m : Meaning C I S) (n : ℕ) → 0 < n → Steps m (ran m n) (ran m (n - 1))
run_step m zero h = absurd (omega arith)
run_step m (suc n) h = let e : suc n - 1 ≡ n = omega arith in rw e (run_steps m n)

abbrev pub left_by : {I : Type 0} → Rules I → Trail → (Trail → Course I) → Course I
left_by rules t next = rules t.records t.fault next

-- how far a loop over records came: what continues after what is left, continues after what was
-- left
pub record Underway {K C I S : Type 0} (m : Meaning C I S) (sink : SinkMeaning K) (answers : Bool) (after : Type 0) (by now : (Trail → Course I) → Course I) (p q : S) (k l : K) : Type 0 where
  pub serves : (next : Trail → Course I) → Reached m sink answers (by next) (now next) p q k l
  pub still_reads : after

-- how far a script came
pub record Through {K C I S : Type 0} (m : Meaning C I S) (sink : SinkMeaning K) (answers : Bool) (after : Type 0) (whole left : Course I) (p q : S) (k l : K) : Type 0 where
  pub reached : Reached m sink answers whole left p q k l
  pub still_reads : after

-- a rule of records that are taken first
abbrev Takes : {C I S : Type 0} → Meaning C I S → Rules I → Rules I → List Accesses → Type 0
Takes {C} {I} {S} m now later rs = (us : List Accesses) (e : Option InputFault) (next : Trail → Course I) → now (rs ++ us) e next ≡ before (items_of_all m rs) (later us e next)

all-taken : {C I S : Type 0} (m : Meaning C I S) (rs : List Accesses) → Takes m (ran_all m) (ran_all m) rs
all-taken m [] us e next = refl
all-taken m (r ∷ rs) us e next = ap (before (items_of m r)) (all-taken m rs us e next) ∙ before-before (items_of m r) (items_of_all m rs) (ran_all m us e next)

run-taken : {C I S : Type 0} (m : Meaning C I S) (n k : ℕ) (rs : List Accesses) → length rs ≡ k → k ≤ n → Takes m (ran m n) (ran m (n - k)) rs
run-taken m n k [] many h us e next = let z : n ≡ n - k = omega (arith, many) in ap (λ (j : ℕ). ran m j us e next) z
run-taken m zero k (r ∷ rs) many h us e next = absurd (omega (arith, many))
run-taken m (suc n) k (r ∷ rs) many h us e next =
    let z : n - length rs ≡ suc n - k = omega (arith, many) in
    ap (before (items_of m r)) (run-taken m n (length rs) rs refl (omega (arith, many)) us e next ∙ ap (λ (j : ℕ). before (items_of_all m rs) (ran m j us e next)) z)
    ∙ before-before (items_of m r) (items_of_all m rs) (ran m (suc n - k) us e next)

steps-left : {C : Type 0} (cs : List (Step C)) (i : ℕ) (c : Step C) → slice_get cs i ≡ Some c → drop i cs ≡ c ∷ drop (i + 1) cs
steps-left {C} cs i c h = drop_more cs i c (slice_get_within cs i c h) ∙ ap (λ (z : Step C). z ∷ drop (i + 1) cs) (get_or_from_slice_get cs i c c h)

-- what holds of the steps that are left, holds of the next one before the others
pub next-left : {C : Type 0} (P : List (Step C) → Type 0) (cs : List (Step C)) (i : ℕ) (c : Step C) → slice_get cs i ≡ Some c → P (drop i cs) → P (c ∷ drop (i + 1) cs)
next-left {C} P cs i c h x = subst P (steps-left cs i c h) x

module _ {K C I S : Type 0} (m : Meaning C I S) (sink : SinkMeaning K) (answers : Bool) where
  -- what is said above, of this sink
  abbrev Has : List I → S → S → K → K → Bool → Type 0
  Has xs p q k l whole = HasServed m sink answers xs p q k l whole

  abbrev Comes : Course I → Course I → S → S → K → K → Type 0
  Comes all left p q k l = Reached m sink answers all left p q k l

  abbrev On : Type 0 → ((Trail → Course I) → Course I) → ((Trail → Course I) → Course I) → S → S → K → K → Type 0
  On after by now p q k l = Underway m sink answers after by now p q k l

  pub reached_none : (c : Course I) (p : S) (k : K) → Comes c c p p k k
  reached_none c p k = record { done = []; split = refl; served = served_none m sink answers p k }

  -- some items of a course were served
  reached_items : (xs : List I) (c : Course I) (p q : S) (k l : K) → Has xs p q k l true → Comes (before xs c) c p q k l
  reached_items xs c p q k l h = record { done = xs; split = refl; served = h }

  pub reached_on : (a b c : Course I) (p q r : S) (k l n : K) → Comes a b p q k l → Comes b c q r l n → Comes a c p r k n
  reached_on a b c p q r k l n x y = record {
    done = x.done ++ y.done;
    split = x.split ∙ ap (before x.done) y.split ∙ before-before x.done y.done c;
    served = served_on m sink answers x.done y.done p q r k l n true x.served y.served;
  }

  -- items were served, and then a put failed
  lost_on : (a b : Course I) (p q r : S) (k l n : K) → Comes a b p q k l → Has b.items q r l n false → Has a.items p r k n false
  lost_on a b p q r k l n x y =
      subst (λ (zs : List I). Has zs p r k n false) (sym (ap (λ (z : Course I). z.items) x.split))
      (served_on m sink answers x.done b.items p q r k l n false x.served y)

  -- a part that was served, and then a part that may stop
  serves_on : {A : Type 0} (a b c : Course I) (p q s : S) (k l n : K) (r : Result A Stop)
      → Comes a b p q k l → Serves m sink answers b c q s l n r → Serves m sink answers a c p s k n r
  serves_on a b c p q s k l n (Ok v) x y = reached_on a b c p q s k l n x y
  serves_on a b c p q s k l n (Err (why.Input fault)) x y = reached_on a b (ended (Some fault)) p q s k l n x y
  serves_on a b c p q s k l n (Err why.WriteFault) x y = lost_on a b p q s k l n x y
  serves_on a b c p q s k l n (Err why.NoMemory) x y = absurd y
  serves_on a b c p q s k l n (Err why.ReadFault) x y = record { left = y.left; reached = reached_on a b y.left p q s k l n x y.reached }

  -- a record is the first of a course
  first-before : (now later : Rules I) (t u : Trail) (r : Accesses) (next : Trail → Course I) → Steps m now later → t ≡ record u { records = r ∷ u.records }
      → left_by now t next ≡ before (items_of m r) (left_by later u next)
  first-before now later t u r next steps e = ap (λ (v : Trail). left_by now v next) e ∙ steps.first r u.records u.fault next

  -- one record more
  pub going_on : (mid after : Type 0) (by : (Trail → Course I) → Course I) (now later : Rules I) (t u : Trail) (p q s : S) (k l n : K) (b : Bool)
      → Steps m now later → On mid by (left_by now t) p q k l → b ≡ true → ServesNext m sink answers after t u q s l n (Ok b)
      → On after by (left_by later u) p s k n
  going_on mid after by now later t u p q s k l n false steps g e f = cc
  going_on mid after by now later t u p q s k l n true steps g e f = record {
    serves = λ next.
        reached_on (by next) (left_by now t next) (left_by later u next) p q s k l n (g.serves next)
        (record { done = items_of m f.1.first; split = first-before now later t u f.1.first next steps f.1.split; served = f.1.served });
    still_reads = f.0;
  }

  -- a put failed in the midst of a record
  going_lost : (A : Type 0) (mid after : Type 0) (by : (Trail → Course I) → Course I) (now later : Rules I) (t u : Trail) (p q s : S) (k l n : K)
      → Steps m now later → On mid by (left_by now t) p q k l → ServesRecord m sink answers t u q s l n false
      → ServesPart {A = A} m sink answers after by u p s k n (Err why.WriteFault)
  going_lost A mid after by now later t u p q s k l n steps g f = record {
    serves = λ next.
        let items : List I = items_of m f.first in
        let e : left_by now t next ≡ before items (left_by later u next) = first-before now later t u f.first next steps f.split in
        lost_on (by next) (left_by now t next) p q s k l n (g.serves next)
        (subst (λ (zs : List I). Has zs q s l n false) (sym (ap (λ (z : Course I). z.items) e))
        (served_cut m sink answers items (left_by later u next).items q s l n f.served));
    still_reads = tt;
  }

  -- nothing was served yet
  pub underway_none : (after : Type 0) (rules : Rules I) (t : Trail) (p : S) (k : K) → after → On after (left_by rules t) (left_by rules t) p p k k
  underway_none after rules t p k s = record { serves = λ next. reached_none (left_by rules t next) p k; still_reads = s }

  -- nothing more was served
  reached_still : (by now : (Trail → Course I) → Course I) (mid : Type 0) (p q s : S) (k l n : K) (next : Trail → Course I)
      → On mid by now p q k l → Has [] q s l n true → Comes (by next) (now next) p s k n
  reached_still by now mid p q s k l n next g x =
      reached_on (by next) (now next) (now next) p q s k l n (g.serves next) (record { done = []; split = refl; served = x })

  -- the trace has ended
  pub going_ends : {A : Type 0} (mid after : Type 0) (by : (Trail → Course I) → Course I) (now later : Rules I) (t u : Trail) (p q s : S) (k l n : K) (v : A) (b : Bool)
      → Steps m now later → On mid by (left_by now t) p q k l → b ≡ false → ServesNext m sink answers after t u q s l n (Ok b)
      → ServesPart m sink answers after by u p s k n (Ok v)
  going_ends mid after by now later t u p q s k l n v true steps g e f = cc
  going_ends mid after by now later t u p q s k l n v false steps g e f = record {
    serves = λ next.
        let e : left_by now t next ≡ next u = ap (λ (w : Trail). left_by now w next) f.1.reason.0 ∙ steps.last None next ∙ ap next (sym f.1.reason.1) in
        subst (λ (c : Course I). Comes (by next) c p s k n) e (reached_still by (left_by now t) mid p q s k l n next g f.1.served);
    still_reads = f.0;
  }

  -- serving stopped: a put failed, or why the trace did is why the course ends
  pub going_stops : (A : Type 0) (mid after : Type 0) (by : (Trail → Course I) → Course I) (now later : Rules I) (t u : Trail) (p q s : S) (k l n : K) (stop : Stop)
      → Steps m now later → On mid by (left_by now t) p q k l → ServesNext m sink answers after t u q s l n (Err stop)
      → ServesPart {A = A} m sink answers after by u p s k n (Err stop)
  going_stops A mid after by now later t u p q s k l n why.WriteFault steps g f = going_lost A mid after by now later t u p q s k l n steps g f
  going_stops A mid after by now later t u p q s k l n why.NoMemory steps g f = absurd f
  going_stops A mid after by now later t u p q s k l n why.ReadFault steps g f =
      record { serves = λ next. record { left = left_by now t next; reached = reached_still by (left_by now t) mid p q s k l n next g f.served }; still_reads = tt }
  going_stops A mid after by now later t u p q s k l n (why.Input fault) steps g f = record {
    serves = λ next.
        let e : left_by now t next ≡ ended (Some fault) = ap (λ (w : Trail). left_by now w next) f.reason ∙ steps.last (Some fault) next in
        subst (λ (c : Course I). Comes (by next) c p s k n) e (reached_still by (left_by now t) mid p q s k l n next g f.served);
    still_reads = tt;
  }

  -- a step, and then what continues
  part_then : {A : Type 0} (after : Type 0) (a : Course I) (by : (Trail → Course I) → Course I) (next : Trail → Course I) (u : Trail) (p q s : S) (k l n : K) (r : Result A Stop)
      → Comes a (by next) p q k l → ServesPart m sink answers after by u q s l n r → Serves m sink answers a (next u) p s k n r
  part_then after a by next u p q s k l n r d x = serves_on a (by next) (next u) p q s k l n r d (x.serves next)

  -- a command was served: the trace stays
  pub part_items : {A : Type 0} (after : Type 0) (xs : List I) (t : Trail) (p q : S) (k l : K) (v : A) → after → Has xs p q k l true
      → ServesPart m sink answers after (λ next. before xs (next t)) t p q k l (Ok v)
  part_items after xs t p q k l v s x = record { serves = λ next. reached_items xs (next t) p q k l x; still_reads = s }

  -- a put failed in a command
  pub part_lost : (A : Type 0) (after : Type 0) (xs : List I) (t : Trail) (p q : S) (k l : K) → Has xs p q k l false
      → ServesPart {A = A} m sink answers after (λ next. before xs (next t)) t p q k l (Err why.WriteFault)
  part_lost A after xs t p q k l x = record { serves = λ next. served_cut m sink answers xs (next t).items p q k l x; still_reads = tt }

  pub through_none : (after : Type 0) (c : Course I) (p : S) (k : K) → after → Through m sink answers after c c p p k k
  through_none after c p k s = record { reached = reached_none c p k; still_reads = s }

  course-left : (cs : List (Step C)) (i : ℕ) (c : Step C) (t : Trail) → slice_get cs i ≡ Some c → course m (drop i cs) t ≡ course_by m c t (course m (drop (i + 1) cs))
  course-left cs i c t h = ap (λ (ds : List (Step C)). course m ds t) (steps-left cs i c h)

  -- the next step was served, or serving stopped at it
  pub through_by : {A : Type 0} (mid after : Type 0) (whole : Course I) (cs : List (Step C)) (i : ℕ) (c : Step C) (t u : Trail) (p q s : S) (k l n : K) (r : Result A Stop)
      → slice_get cs i ≡ Some c → Through m sink answers mid whole (course m (drop i cs) t) p q k l
      → ServesPart m sink answers after (course_by m c t) u q s l n r
      → Serves m sink answers whole (course m (drop (i + 1) cs) u) p s k n r
  through_by mid after whole cs i c t u p q s k l n r h g x =
      part_then after whole (course_by m c t) (course m (drop (i + 1) cs)) u p q s k l n r
      (subst (λ (z : Course I). Comes whole z p q k l) (course-left cs i c t h) g.reached) x

  -- a stop says the same, whatever was to continue
  pub stop_any : (A B : Type 0) (whole left other : Course I) (p q : S) (k l : K) (stop : Stop)
      → Serves {A = A} m sink answers whole left p q k l (Err stop) → Serves {A = B} m sink answers whole other p q k l (Err stop)
  stop_any A B whole left other p q k l why.WriteFault h = h
  stop_any A B whole left other p q k l why.ReadFault h = h
  stop_any A B whole left other p q k l why.NoMemory h = h
  stop_any A B whole left other p q k l (why.Input fault) h = h

  -- all steps were served, and then the rest of the trace
  pub through_rest : {A : Type 0} (mid after : Type 0) (whole : Course I) (cs : List (Step C)) (i : ℕ) (t u : Trail) (p q s : S) (k l n : K) (r : Result A Stop)
      → length cs ≤ i → Through m sink answers mid whole (course m (drop i cs) t) p q k l
      → ServesPart m sink answers after (ran_all m t.records t.fault) u q s l n r
      → Serves m sink answers whole (finish u) p s k n r
  through_rest mid after whole cs i t u p q s k l n r h g x =
      part_then after whole (ran_all m t.records t.fault) finish u p q s k l n r
      (subst (λ (ds : List (Step C)). Comes whole (course m ds t) p q k l) (drop_all i cs h) g.reached) x

module _ {K C I S : Type 0} (m : Meaning C I S) (sink : SinkMeaning K) (reads_from : Type 0) (t u : Trail) (q s : S) (count : ℕ)
    (k : Skimmed m reads_from t u q s count) (out : K) where
  -- where lines are written, nothing is skimmed
  served-skimmed : (answers : Bool) → (answers ≡ true → count ≡ 0) → HasServed m sink answers (items_of_all m k.taken) q s out out true
  served-skimmed false idle = served-unprinted m sink (items_of_all m k.taken) q s out k.follow
  served-skimmed true idle =
      let none : k.taken ≡ [] = nothing k.taken (k.many ∙ idle refl) in
      let same : s ≡ q = k.follow ∙ ap (λ (rs : List Accesses). states_after m (items_of_all m rs) q) none in
      rw (none, same) (served_none m sink true q out)
    where
      nothing : (rs : List Accesses) → length rs ≡ 0 → rs ≡ []
      nothing [] e = refl
      nothing (r ∷ rs) e = absurd (omega (arith, e))

  -- the records that were skimmed are served when the form has taken them
  going_skims : (answers : Bool) (mid : Type 0) (by : (Trail → Course I) → Course I) (now later : Rules I) (p : S) (first : K) → Takes m now later k.taken → (answers ≡ true → count ≡ 0)
      → Underway m sink answers mid by (left_by now t) p q first out
      → Underway m sink answers reads_from by (left_by later u) p s first out
  going_skims answers mid by now later p first takes idle g = record {
    serves = λ next.
        reached_on m sink answers (by next) (left_by now t next) (left_by later u next) p q s first out out (g.serves next)
        (record {
          done = items_of_all m k.taken;
          split = ap (λ (v : Trail). left_by now v next) k.split ∙ takes u.records u.fault next;
          served = served-skimmed answers idle;
        });
    still_reads = k.still_reads;
  }

  pub going_skims_all : (answers : Bool) (mid : Type 0) (by : (Trail → Course I) → Course I) (p : S) (first : K) → (answers ≡ true → count ≡ 0)
      → Underway m sink answers mid by (left_by (ran_all m) t) p q first out
      → Underway m sink answers reads_from by (left_by (ran_all m) u) p s first out
  going_skims_all answers mid by p first idle g = going_skims answers mid by (ran_all m) (ran_all m) p first (all-taken m k.taken) idle g

  pub going_skims_run : (n : ℕ) (answers : Bool) (mid : Type 0) (by : (Trail → Course I) → Course I) (p : S) (first : K) → (answers ≡ true → count ≡ 0) → count ≤ n
      → Underway m sink answers mid by (left_by (ran m n) t) p q first out
      → Underway m sink answers reads_from by (left_by (ran m (n - count)) u) p s first out
  going_skims_run n answers mid by p first idle h g = going_skims answers mid by (ran m n) (ran m (n - count)) p first (run-taken m n count k.taken k.many h) idle g
