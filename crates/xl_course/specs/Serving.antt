-- The state and the sink after serving.
use Rattle.std.specs.Prelude.{◌≡◌, ℕ, Bool, true, false, List, [], ◌∷◌, ◌++◌, length, None, Some, Result, Ok, Err, OnOk}
use Rattle.xl_model.specs.Courses.{Accesses, Trail, at_end}
use Rattle.xl_outside.specs.Sinks.{SinkMeaning, SinkAfter}
use Rattle.xl_course.specs.declared.stop.Stop.{Stop}
use Rattle.xl_course.specs.declared.stop.Stop.TheVariants as why
use Rattle.xl_course.specs.Meanings.{Meaning, states_after, printed_by}
use Rattle.xl_course.specs.Courses.{Course, before, ended, items_of, items_of_all}
use Rattle.xl_course.specs.Sources.{EndsBy}

-- The two are equal where all was served; where a put failed, nothing is said of them.
abbrev pub EqualWhere : {A : Type 0} → Bool → A → A → Type 0
EqualWhere true a b = a ≡ b
EqualWhere false a b = Unit {0}

-- These items were served, and their lines were written: whole, or up to a put that failed.
pub record HasServed {K C I S : Type 0} (m : Meaning C I S) (sink : SinkMeaning K) (answers : Bool) (items : List I) (p q : S) (k l : K) (whole : Bool) : Type 0 where
  pub state_is : EqualWhere whole q (states_after m items p)
  pub writes : SinkAfter sink (printed_by m answers items p) k l whole

-- Of this course some items were served with their lines written, and that course is left.
pub record Reached {K C I S : Type 0} (m : Meaning C I S) (sink : SinkMeaning K) (answers : Bool) (all left : Course I) (p q : S) (k l : K) : Type 0 where
  pub done : List I
  pub split : all ≡ before done left
  pub served : HasServed m sink answers done p q k l true

-- Of this course some items were served with their lines written, and some course is left.
pub record ReachedSome {K C I S : Type 0} (m : Meaning C I S) (sink : SinkMeaning K) (answers : Bool) (all : Course I) (p q : S) (k l : K) : Type 0 where
  pub left : Course I
  pub reached : Reached m sink answers all left p q k l

-- How far serving came of a course: to what is to be left; to the fault that ends it; to a put that
-- failed; or anywhere, where a read failed.
abbrev pub Serves : {K C I S A : Type 0} (m : Meaning C I S) (sink : SinkMeaning K) → Bool → Course I → Course I → S → S → K → K → Result A Stop → Type 0
Serves m sink answers all left p q k l (Ok a) = Reached m sink answers all left p q k l
Serves m sink answers all left p q k l (Err (why.Input fault)) = Reached m sink answers all (ended (Some fault)) p q k l
Serves m sink answers all left p q k l (Err why.WriteFault) = HasServed m sink answers all.items p q k l false
Serves m sink answers all left p q k l (Err why.ReadFault) = ReachedSome m sink answers all p q k l
Serves m sink answers all left p q k l (Err why.NoMemory) = ⊥

-- What a call returns that serves a part of a script: `by` gives the course of that part, and of
-- what continues after it; `reads_from` says that the trace was fed from its files alone.
pub record ServesPart {K C I S A : Type 0} (m : Meaning C I S) (sink : SinkMeaning K) (answers : Bool) (reads_from : Type 0) (by : (Trail → Course I) → Course I) (u : Trail) (p q : S) (k l : K) (r : Result A Stop) : Type 0 where
  pub serves : (next : Trail → Course I) → Serves m sink answers (by next) (next u) p q k l r
  pub still_reads : OnOk r reads_from

-- `count` records were the first of what was left, the rest of it is left, and the state is that
-- after their items.
pub record Skimmed {C I S : Type 0} (m : Meaning C I S) (reads_from : Type 0) (t u : Trail) (p q : S) (count : ℕ) : Type 0 where
  pub still_reads : reads_from
  pub taken : List Accesses
  pub split : t ≡ record u { records = taken ++ u.records }
  pub follow : q ≡ states_after m (items_of_all m taken) p
  pub many : length taken ≡ count

-- The first record of what was left was served, and its lines were written: whole, or up to a put
-- that failed. The rest of it is left.
pub record ServesRecord {K C I S : Type 0} (m : Meaning C I S) (sink : SinkMeaning K) (answers : Bool) (t u : Trail) (p q : S) (k l : K) (whole : Bool) : Type 0 where
  pub first : Accesses
  pub split : t ≡ record u { records = first ∷ u.records }
  pub served : HasServed m sink answers (items_of m first) p q k l whole

-- Nothing was served, for this reason.
pub record ServesNone {K C I S : Type 0} (m : Meaning C I S) (sink : SinkMeaning K) (answers : Bool) (cause : Type 0) (p q : S) (k l : K) : Type 0 where
  pub reason : cause
  pub served : HasServed m sink answers [] p q k l true

-- What a call returns that serves the next record, if there is one: whether there was one.
abbrev pub ServesNext : {K C I S : Type 0} (m : Meaning C I S) (sink : SinkMeaning K) → Bool → Type 0 → Trail → Trail → S → S → K → K → Result Bool Stop → Type 0
ServesNext m sink answers reads_from t u p q k l (Ok true) = reads_from × ServesRecord m sink answers t u p q k l true
ServesNext m sink answers reads_from t u p q k l (Ok false) = reads_from × ServesNone m sink answers ((t ≡ at_end None) × (u ≡ at_end None)) p q k l
ServesNext m sink answers reads_from t u p q k l (Err (why.Input fault)) = ServesNone m sink answers (EndsBy (why.Input fault) t) p q k l
ServesNext m sink answers reads_from t u p q k l (Err why.ReadFault) = ServesNone m sink answers (EndsBy why.ReadFault t) p q k l
ServesNext m sink answers reads_from t u p q k l (Err why.WriteFault) = ServesRecord m sink answers t u p q k l false
ServesNext m sink answers reads_from t u p q k l (Err why.NoMemory) = ⊥
