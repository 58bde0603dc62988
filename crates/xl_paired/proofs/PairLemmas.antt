-- A script's text, and a run from what it opens.
use Rattle.std.proofs.Common.{◌++◌, ◌+◌, ◌<◌, ◌∙◌, ◌∷◌, ◌≡◌, [], ap, arith, Bool, false, inl, inr, length, List, map, refl, subst, suc, sym, take, true, zero, ℕ}
use Rattle.std.proofs.lemmas.Bool.{cases_lt, lt-ltb}
use Rattle.std.proofs.lemmas.List.{take_all}
use Rattle.std.specs.Prelude.{if◌then◌else◌, Err, nat_lt, None, Ok, OnOk, Option, Result, Some}
use Rattle.std.specs.declared.alloc.Global.{Global}
use Rattle.std.specs.declared.vec.Vec.{Vec}
use Rattle.xl_course.specs.Accounts.{account, Ends, EndsAs}
use Rattle.xl_course.specs.Meanings.{printed_by, states_after}
use Rattle.xl_course.specs.Serving.{HasServed}
use Rattle.xl_course.specs.Stops.{StopsOpening}
use Rattle.xl_course.specs.declared.stop.Stop.{Stop}
use Rattle.xl_model.specs.Courses.{Trail}
use Rattle.xl_model.specs.declared.fault.InputFault.{InputFault}
use Rattle.xl_outside.proofs.SinkLemmas.{sink_same}
use Rattle.xl_outside.specs.Fronts.{with_none}
use Rattle.xl_outside.specs.Sinks.{SinkAfter, SinkMeaning}
use Rattle.xl_outside.specs.Whole.{ReadsWhole}
use Rattle.xl_script.specs.Scripts.{lines_read, Reading, Said, text_read}
use Rattle.xl_script.specs.Texts.{script_lines}
use Rattle.xl_script.specs.declared.fault.ScriptFault.{ScriptFault}
use Rattle.xl_serving.proofs.EndLemmas.{none_failed}
use Rattle.xl_serving.proofs.InputLemmas.{longer}
use Rattle.xl_serving.specs.Inputs.{Finds, said_by, said_in, script_fault}
use Rattle.xl_paired.specs.Pairs.{account_by, account_from, Command, course_of, events_from, left_by, meaning_of, Pairing, script_said, state_from}
use Rattle.xl_course.specs.declared.stop.Stop.TheVariants as why
use Rattle.xl_script.specs.declared.fault.ScriptFault.TheVariants as fault

module _ {S C : Type 0} (said : S → List (List ℕ) → Said S C) (start : S) where
  -- a text of which one byte more than the limit was read is too long as it was
  abbrev judged : Bool → List ℕ → Reading S C
  judged long text = if long then Err fault.TooLong else lines_read said start 1 (script_lines text)

  pub text_cut : (text : List ℕ) → text_read said start (take 1048577 text) ≡ text_read said start text
  unfolding text_read
  text_cut text = elim (cases_lt 1048576 (length text)) [
    | inl h ↦ ap (λ b. judged b (take 1048577 text)) (lt-ltb 1048576 (length (take 1048577 text)) (longer 1048576 text h)) ∙ sym (ap (λ b. judged b text) (lt-ltb 1048576 (length text) h))
    | inr h ↦ ap (λ bytes. judged (nat_lt 1048576 (length bytes)) bytes) (take_all 1048577 text (omega arith))
  ]

-- the file was read, and its text
pub finds_text : {A B : Type 0} (view : A → B) (says : List ℕ → Result B ScriptFault) (file : Option (List ℕ)) (text : Vec ℕ Global) (bytes : List ℕ) (r : Result A Stop)
    → ((xs : List ℕ) → says (take 1048577 xs) ≡ says xs)
    → ReadsWhole file 1048576 (Ok text) → bytes ≡ text.items → Finds view r (script_said says bytes) → Finds view r (said_in (script_said says) file)
finds_text view says None text bytes r cut h b f = absurd h
finds_text view says (Some file) text bytes r cut h b f =
    subst (Finds view r) (ap (said_by script_fault) (ap says (b ∙ h) ∙ cut file)) f

module _ {A C E S : Type 0} (p : Pairing A C E S) where
  events-more : (at : ℕ → E) (i n : ℕ) → events_from at i (suc n) ≡ events_from at i n ++ at (i + n) ∷ []
  events-more at i zero = let e : i ≡ i + 0 = omega arith in ap (λ (j : ℕ). at j ∷ []) e
  events-more at i (suc n) =
      let e : suc i + n ≡ i + suc n = omega arith in
      ap (λ (xs : List E). at i ∷ xs) (events-more at (suc i) n ∙ ap (λ (j : ℕ). events_from at (suc i) n ++ at j ∷ []) e)

  -- the state after some events of commands
  abbrev pub commanded : List E → S → S
  commanded es s = states_after (meaning_of p) (map Command es) s

  commanded-more : (es : List E) (e : E) (s : S) → commanded (es ++ e ∷ []) s ≡ p.after e (commanded es s)
  commanded-more [] e s = refl
  commanded-more (d ∷ es) e s = commanded-more es e (p.after d s)

  -- one event more was served
  pub served_more : (at : ℕ → E) (i : ℕ) (s t u : S) → t ≡ commanded (events_from at 0 i) s → u ≡ p.after (at i) t → u ≡ commanded (events_from at 0 (i + 1)) s
  served_more at i s t u h k =
      let one : i + 1 ≡ suc i = omega arith in
      let same : 0 + i ≡ i = omega arith in
      let more : events_from at 0 (i + 1) ≡ events_from at 0 i ++ at i ∷ [] =
      ap (events_from at 0) one ∙ events-more at 0 i ∙ ap (λ (j : ℕ). events_from at 0 i ++ at j ∷ []) same in
      k ∙ ap (p.after (at i)) h ∙ sym (commanded-more (events_from at 0 i) (at i) s) ∙ ap (λ (es : List E). commanded es s) (sym more)

  printed-commands : (answers : Bool) (es : List E) (s : S) → printed_by (meaning_of p) answers (map Command es) s ≡ []
  printed-commands true [] s = refl
  printed-commands false [] s = refl
  printed-commands true (e ∷ es) s = printed-commands true es (p.after e s)
  printed-commands false (e ∷ es) s = printed-commands false es (p.after e s)

  module _ {K : Type 0} (sink : SinkMeaning K) where
    -- events of commands were served, which have no lines
    pub served_commands : (answers : Bool) (es : List E) (s t : S) (k : K) → t ≡ commanded es s
        → HasServed (meaning_of p) sink answers (map Command es) s t k k true
    served_commands answers es s t k e = record {
      state_is = e;
      writes = subst (λ (text : List ℕ). SinkAfter sink text k k true) (sym (printed-commands answers es s)) (sink_same sink k);
    }

on-ok : (r : Result (Unit {0}) Stop) (P Q : Type 0) → (P → Q) → OnOk r P → OnOk r Q
on-ok (Ok u) P Q f h = f h
on-ok (Err e) P Q f h = tt

module _ {K A C E S : Type 0} (p : Pairing A C E S) (answers : Bool) (roomy : K → ℕ → Type 0) (t : Trail) (by : Result A InputFault) where
  -- a course was served, from the state that its script opens
  pub course_ends : (script : A) (u : Trail) (opened left : S) (r : Result (Unit {0}) Stop) (before after : Option (List ℕ)) (old new : K)
      → opened ≡ p.opens script → u ≡ t
      → Ends r (account (meaning_of p) answers p.last false (course_of p script u) opened) roomy before after old new (left ≡ states_after (meaning_of p) (course_of p script u).items opened)
      → Ends r (account_from p answers t script) roomy before after old new (Some left ≡ Some (state_from p t script))
  course_ends script u opened left r before after old new e f x =
      let y = subst (λ (v : Trail). Ends r (account_from p answers v script) roomy before after old new (left ≡ state_from p v script)) f
      (subst (λ (z : S). Ends r (account (meaning_of p) answers p.last false (course_of p script u) z) roomy before after old new (left ≡ states_after (meaning_of p) (course_of p script u).items z)) e x) in
      record { as_said = y.as_said; room = y.room; served = on-ok r (left ≡ state_from p t script) (Some left ≡ Some (state_from p t script)) (λ h. ap Some h) y.served }

  -- there was a script, and its course was served
  pub served_ends : (script : A) (r : Result (Unit {0}) Stop) (before after : Option (List ℕ)) (old new : K) (left : Option S)
      → by ≡ Ok script → Ends r (account_from p answers t script) roomy before after old new (left ≡ Some (state_from p t script))
      → Ends r (account_by p answers t by) roomy before after old new (left ≡ left_by p t by)
  served_ends script r before after old new left e x =
      subst (λ (z : Result A InputFault). Ends r (account_by p answers t z) roomy before after old new (left ≡ left_by p t z)) (sym e) x

  stopped_as : {V : Type 0} (view : V → A) (stop : Stop) (out : Option (List ℕ)) → Finds view (Err stop) by → EndsAs (Err stop) (account_by p answers t by) out out
  stopped_as view (why.Input f) out h =
      subst (λ (z : Result A InputFault). EndsAs (Err (why.Input f)) (account_by p answers t z) out out) (sym h) (refl, with_none out)
  stopped_as view why.ReadFault out h = record { done = []; left = (account_by p answers t by).lines; split = refl; wrote = with_none out }
  stopped_as view why.WriteFault out h = absurd h
  stopped_as view why.NoMemory out h = inl refl

  -- there was no script
  pub stopped_ends : {V : Type 0} (view : V → A) (stop : Stop) (out : Option (List ℕ)) (old : K) (left : Type 0)
      → StopsOpening stop → Finds view (Err stop) by → Ends (Err stop) (account_by p answers t by) roomy out out old old left
  stopped_ends view stop out old left b h = record {
    as_said = stopped_as view stop out h;
    room = λ room m n. (none_failed stop b, (room, m));
    served = tt;
  }
