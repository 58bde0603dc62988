-- Forms of the program whose words name a script and a trace: what a run is to write, and what it leaves.
use Rattle.std.specs.Prelude.{◌≡◌, ℕ, zero, suc, Bool, false, List, [], ◌∷◌, map, Option, None, Some, Result, Ok, Err}
use Rattle.xl_model.specs.declared.address.Kind.{Kind}
use Rattle.xl_model.specs.declared.fault.InputFault.{InputFault}
use Rattle.xl_model.specs.Courses.{Trail}
use Rattle.xl_lackey.specs.declared.skim.Access.{Access}
use Rattle.xl_outside.specs.Folders.{Files, file_of}
use Rattle.xl_script.specs.declared.fault.ScriptFault.{ScriptFault}
use Rattle.xl_script.specs.declared.fault.ScriptFault.TheVariants as fault
use Rattle.xl_course.specs.declared.form.Step.{Step}
use Rattle.xl_course.specs.Meanings.{Meaning, states_after}
use Rattle.xl_course.specs.Courses.{Course, course}
use Rattle.xl_course.specs.Accounts.{Account, account, faulted}
use Rattle.xl_serving.specs.Inputs.{said_by, said_in, script_fault}

-- What a reading of a script may answer: what the text says, or that there is no memory.
abbrev pub Reads : {A B : Type 0} → (A → B) → Result A ScriptFault → Result B ScriptFault → Type 0
Reads view (Ok a) said = said ≡ Ok (view a)
Reads view (Err fault.NoMemory) said = Unit {0}
Reads view (Err (fault.BadLine line reason)) said = said ≡ Err (fault.BadLine line reason)
Reads view (Err fault.TooLong) said = said ≡ Err fault.TooLong

-- What the text of a script says, or which fault of the input it is.
abbrev pub script_said : {A : Type 0} → (List ℕ → Result A ScriptFault) → List ℕ → Result A InputFault
script_said says text = said_by script_fault (says text)

-- What the script of this name says; a file that isn't there is a fault.
abbrev pub script_in : {A : Type 0} → (List ℕ → Result A ScriptFault) → List ℕ → Files → Result A InputFault
script_in says name files = said_in (script_said says) (file_of files name)

-- What is served: an event of a command, or an access of the record of this number, at this address
-- and of this kind.
pub data Item (E : Type 0) : Type 0 where
  Command : E → Item E
  Referenced : ℕ → ℕ → Kind → Item E

-- A form whose words name a script and a trace, over what its scripts say (A), its commands, its
-- events and its states: the state that a script opens, and its steps; the events of a command, and
-- the event of an access; the state after an event; the line of an access of the record of this
-- number; and the end of the report.
pub record Pairing (A C E S : Type 0) : Type 0 where
  pub opens : A → S
  pub steps : A → List (Step C)
  pub events : C → List E
  pub access : ℕ → Kind → E
  pub after : E → S → S
  pub line : ℕ → ℕ → Kind → S → List ℕ
  pub last : S → List ℕ

-- n events, from the one of this number on.
abbrev pub events_from : {E : Type 0} → (ℕ → E) → ℕ → ℕ → List E
events_from at i zero = []
events_from at i (suc n) = at i ∷ events_from at (suc i) n

-- The event of an item.
abbrev pub event_of : {A C E S : Type 0} → Pairing A C E S → Item E → E
event_of p (Command e) = e
event_of p (Referenced number va kind) = p.access va kind

-- The state after some accesses.
abbrev pub accesses_after : {A C E S : Type 0} → Pairing A C E S → List Access → S → S
accesses_after p [] s = s
accesses_after p (a ∷ accesses) s = accesses_after p accesses (p.after (p.access a.va a.kind) s)

-- The lines of an item: an access has one, a command none.
abbrev pub item_lines : {A C E S : Type 0} → Pairing A C E S → Item E → S → List ℕ
item_lines p (Command e) s = []
item_lines p (Referenced number va kind) s = p.line number va kind s

-- What such a form serves.
abbrev pub meaning_of : {A C E S : Type 0} → Pairing A C E S → Meaning C (Item E) S
meaning_of p = record {
  items = λ c. map Command (p.events c);
  referenced = Referenced;
  after = λ i s. p.after (event_of p i) s;
  lines = item_lines p;
}

-- The course of a script over a trace.
abbrev pub course_of : {A C E S : Type 0} → Pairing A C E S → A → Trail → Course (Item E)
course_of p script t = course (meaning_of p) (p.steps script) t

-- What is to be written of a script over a trace: the account of its course, from the state that it
-- opens.
abbrev pub account_from : {A C E S : Type 0} → Pairing A C E S → Bool → Trail → A → Account
account_from p answers t script = account (meaning_of p) answers p.last false (course_of p script t) (p.opens script)

-- The state after the course.
abbrev pub state_from : {A C E S : Type 0} → Pairing A C E S → Trail → A → S
state_from p t script = states_after (meaning_of p) (course_of p script t).items (p.opens script)

-- The same, where the script is good.
abbrev pub account_by : {A C E S : Type 0} → Pairing A C E S → Bool → Trail → Result A InputFault → Account
account_by p answers t (Err f) = faulted f
account_by p answers t (Ok script) = account_from p answers t script

-- The state at last, where the script is good.
abbrev pub left_by : {A C E S : Type 0} → Pairing A C E S → Trail → Result A InputFault → Option S
left_by p t (Err f) = None
left_by p t (Ok script) = Some (state_from p t script)
