-- The end of a report, and a run from its start.
use Rattle.xl_serving.proofs.Common.{◌++◌, ◌∙◌, ◌≡◌, ◌⊎◌, [], Account, account_by, account_from, ap, AreOpened, AskedPlain, Bool, EndAfter, Ends, EndsAs, Err, faulted, Finds, inl, InputFault, inr, List, Ok, Option, refl, Result, rows_by, rows_from, Served, sink_cut, SinkMeaning, Start, Stop, subst, sym, Trail, true, ℕ}
use Rattle.xl_course.specs.Stops.{is_all_put, StopsOpening}
use Rattle.xl_outside.specs.Fronts.{with_none}
use Rattle.xl_course.specs.declared.stop.Stop.TheVariants as why

-- the end of a report stopped in its rows
pub end_cut : {K : Type 0} (sink : SinkMeaning K) (json : Bool) (xs ys : List ℕ) (a b : K) (stop : Stop)
    → EndAfter sink json xs a b (Err stop) → EndAfter sink json (xs ++ ys) a b (Err stop)
end_cut sink json xs ys a b why.WriteFault x = sink_cut sink xs ys a b x
end_cut sink json xs ys a b why.NoMemory x = x
end_cut sink json xs ys a b why.ReadFault x = absurd x
end_cut sink json xs ys a b (why.Input f) x = absurd x

-- there was a start, and its course was served
pub started_ends : {K : Type 0} (roomy : K → ℕ → Type 0) (a : AskedPlain) (t : Trail) (start : Start) (by : Result Start InputFault) (r : Result (Unit {0}) Stop) (before after : Option (List ℕ)) (old new : K) (rows : List Served)
    → by ≡ Ok start → Ends r (account_from a t start) roomy before after old new (rows ≡ rows_from t start)
    → Ends r (account_by a t by) roomy before after old new (rows ≡ rows_by t by)
started_ends roomy a t start by r before after old new rows e x =
    subst (λ (z : Result Start InputFault). Ends r (account_by a t z) roomy before after old new (rows ≡ rows_by t z)) (sym e) x

pub started_rows : (t : Trail) (start : Start) (by : Result Start InputFault) (rows : List Served) → by ≡ Ok start → rows ≡ rows_from t start → rows ≡ rows_by t by
started_rows t start by rows e x = subst (λ (z : Result Start InputFault). rows ≡ rows_by t z) (sym e) x

-- there is no memory: the rows are as opened, or some other fact holds
pub opened_or : {P Q : Type 0} (rows left : List Served) → AreOpened rows → (P → Q) → (left ≡ rows) ⊎ P → AreOpened left ⊎ Q
opened_or rows left h f (inl e) = inl (subst AreOpened (sym e) h)
opened_or rows left h f (inr p) = inr (f p)

-- what comes before anything is written, no put has failed
pub none_failed : (stop : Stop) → StopsOpening stop → is_all_put {A = Unit {0}} (Err stop) ≡ true
none_failed (why.Input f) h = refl
none_failed why.ReadFault h = refl
none_failed why.WriteFault h = absurd h
none_failed why.NoMemory h = refl

-- there was no start: a fault ends the run, whatever the form, or a read failed, or there was no memory
stopped_as : {A B : Type 0} (view : A → B) (account : Result B InputFault → Account) (by : Result B InputFault) (stop : Stop) (out : Option (List ℕ))
    → ((f : InputFault) → account (Err f) ≡ faulted f) → Finds view (Err stop) by → EndsAs (Err stop) (account by) out out
stopped_as view account by (why.Input f) out faults h =
    subst (λ (a : Account). EndsAs (Err (why.Input f)) a out out) (sym (ap account h ∙ faults f)) (refl, with_none out)
stopped_as view account by why.ReadFault out faults h = record { done = []; left = (account by).lines; split = refl; wrote = with_none out }
stopped_as view account by why.WriteFault out faults h = absurd h
stopped_as view account by why.NoMemory out faults h = inl refl

pub stopped_ends : {K A B : Type 0} (roomy : K → ℕ → Type 0) (view : A → B) (account : Result B InputFault → Account) (by : Result B InputFault) (stop : Stop) (out : Option (List ℕ)) (old : K) (left : Type 0)
    → ((f : InputFault) → account (Err f) ≡ faulted f) → StopsOpening stop → Finds view (Err stop) by → Ends (Err stop) (account by) roomy out out old old left
stopped_ends roomy view account by stop out old left faults b h = record {
  as_said = stopped_as view account by stop out faults h;
  room = λ room m n. (none_failed stop b, (room, m));
  served = tt;
}
