-- What a run is to write, and what its end says of that.
use Rattle.std.specs.Prelude.{◌≡◌, ℕ, ◌≤◌, ◌⊎◌, Bool, true, false, List, [], ◌++◌, length, Option, None, Some, IsSome, option_map, Result, Ok, Err, OnOk}
use Rattle.xl_model.specs.declared.fault.InputFault.{InputFault}
use Rattle.xl_model.specs.declared.fault.InputFault.TheVariants as fault
use Rattle.xl_outside.specs.Sinks.{SinkMeaning, with_more, WroteFront, SinkAfter, FlushAfter, SentAfter}
use Rattle.xl_course.specs.declared.stop.Stop.{Stop}
use Rattle.xl_course.specs.declared.stop.Stop.TheVariants as why
use Rattle.xl_course.specs.declared.status.Status.{Status}
use Rattle.xl_course.specs.declared.status.Status.TheVariants as status
use Rattle.xl_course.specs.Stops.{is_all_put, status_with}
use Rattle.xl_course.specs.Messages.{message_at}
use Rattle.xl_course.specs.Meanings.{Meaning, states_after, printings, joined}
use Rattle.xl_course.specs.Courses.{Course}

-- What a run is to write: the lines of each item, in the order served; after them the end of the
-- report, where no fault of the input ends the run before; and that fault. `late` says that the end
-- of the report is made in memory before it is put.
pub record Account : Type 0 where
  pub lines : List (List ℕ)
  pub last : List ℕ
  pub fault : Option InputFault
  pub late : Bool

-- The end of the report, where no fault ends the run.
abbrev pub last_where : Option InputFault → List ℕ → List ℕ
last_where None last = last
last_where (Some fault) last = []

-- The text of a run: all that is written to its end.
abbrev pub text_of : Account → List ℕ
text_of a = joined a.lines ++ last_where a.fault a.last

-- A fault of the words, the configuration or the script: nothing is written.
abbrev pub faulted : InputFault → Account
faulted fault = record { lines = []; last = []; fault = Some fault; late = false }

-- The account of a course that is served from a state on. `last` gives the end of the report.
abbrev pub account : {C I S : Type 0} → Meaning C I S → Bool → (S → List ℕ) → Bool → Course I → S → Account
account m answers last late c s = record {
  lines = printings m answers c.items s;
  last = last (states_after m c.items s);
  fault = c.fault;
  late = late;
}

-- The lines of some first items were written, each item's whole.
pub record WroteItems (a : Account) (before after : Option (List ℕ)) : Type 0 where
  pub done : List (List ℕ)
  pub left : List (List ℕ)
  pub split : a.lines ≡ done ++ left
  pub wrote : after ≡ with_more before (joined done)

-- The run ends as its account says: with that fault or none, and all of its text is written.
abbrev pub EndsWith : Option InputFault → Account → Option (List ℕ) → Option (List ℕ) → Type 0
EndsWith f a before after = (a.fault ≡ f) × (after ≡ with_more before (text_of a))

-- Nothing was written; or, where the end of the report is made in memory and no fault ends the run,
-- all lines before it.
abbrev pub WroteNoEnd : Account → Option (List ℕ) → Option (List ℕ) → Type 0
WroteNoEnd a before after =
    (after ≡ before) ⊎ ((a.late ≡ true) × (a.fault ≡ None) × (after ≡ with_more before (joined a.lines)))

-- What the end of a run says of its account, and of the output before and after it.
abbrev pub EndsAs : Result (Unit {0}) Stop → Account → Option (List ℕ) → Option (List ℕ) → Type 0
EndsAs (Ok u) a before after = EndsWith None a before after
EndsAs (Err (why.Input f)) a before after = EndsWith (Some f) a before after
EndsAs (Err why.ReadFault) a before after = WroteItems a before after
EndsAs (Err why.WriteFault) a before after = WroteFront before (text_of a) after
EndsAs (Err why.NoMemory) a before after = WroteNoEnd a before after

-- A sink has room, even if for no byte.
abbrev pub IsRoomy : {K : Type 0} (roomy : K → ℕ → Type 0) → K → Type 0
IsRoomy roomy k = (n : ℕ) × roomy k n

-- The same; in a sink that has room for the text, no put fails; and where all was served, `left`
-- holds of what is left.
pub record Ends {K : Type 0} (r : Result (Unit {0}) Stop) (a : Account) (roomy : K → ℕ → Type 0) (before after : Option (List ℕ)) (old new : K) (left : Type 0) : Type 0 where
  pub as_said : EndsAs r a before after
  pub room : (room : ℕ) → roomy old room → length (text_of a) ≤ room → (is_all_put r ≡ true) × IsRoomy roomy new
  pub served : OnOk r left

-- What writing the end of a report leaves of a sink: the text whole, or its front up to a put that
-- failed. Where there is no memory, which only an end that is made in memory wants, nothing is put.
abbrev pub EndAfter : {K : Type 0} (sink : SinkMeaning K) (late : Bool) (text : List ℕ) (old new : K) → Result (Unit {0}) Stop → Type 0
EndAfter sink late text old new (Ok u) = SinkAfter sink text old new true
EndAfter sink late text old new (Err why.WriteFault) = SinkAfter sink text old new false
EndAfter sink late text old new (Err why.NoMemory) = (late ≡ true) × (new ≡ old)
EndAfter sink late text old new (Err why.ReadFault) = ⊥
EndAfter sink late text old new (Err (why.Input fault)) = ⊥

-- The end of a run after a flush, which wrote all or failed.
abbrev pub end_flushed : Bool → Result (Unit {0}) Stop → Result (Unit {0}) Stop
end_flushed true end = end
end_flushed false end = Err why.WriteFault

-- A flush at the end of a run; there is none where a put failed before.
abbrev pub FlushesEnd : {K : Type 0} (sink : SinkMeaning K) (old new : K) → Result (Unit {0}) Stop → Result (Unit {0}) Stop → Type 0
FlushesEnd sink old new (Err why.WriteFault) after = (new ≡ old) × (after ≡ Err why.WriteFault)
FlushesEnd sink old new end after =
    (whole : Bool) × FlushAfter sink old new whole × (after ≡ end_flushed whole end)

-- The status of a run with this account.
abbrev pub status_of : Account → Status
status_of a = status_with a.fault

-- What a status says of the account, and of the output before and after the run. At a fault of the
-- input, and where there is none, the whole text is written; at a failed read, the lines of some
-- first items; at a failed write, a front of the text; and for want of memory nothing, or, where
-- the end of the report is made in memory, all but that end.
abbrev pub Answers : Status → Account → Option (List ℕ) → Option (List ℕ) → Type 0
Answers status.ReadFault a before after = WroteItems a before after
Answers status.WriteFault a before after = WroteFront before (text_of a) after
Answers status.NoMemory a before after = WroteNoEnd a before after
Answers s a before after = (s ≡ status_of a) × (after ≡ with_more before (text_of a))

-- What a status says of what the words ask for: they ask for nothing exactly at the status of
-- usage. Want of memory may come first.
abbrev pub SaysOfWords : {A : Type 0} → Status → Option A → Type 0
SaysOfWords status.Usage a = a ≡ None
SaysOfWords status.NoMemory a = Unit {0}
SaysOfWords _ a = IsSome a

-- Where nothing fails, the status is that of the account, or there was no memory.
abbrev pub Completes : Status → Account → Type 0
Completes s a = (s ≡ status.NoMemory) ⊎ (s ≡ status_of a)

-- The line for the fault that ends a run; none where no fault does.
abbrev pub fault_message : Option InputFault → List ℕ
fault_message None = []
fault_message (Some f) = message_at (why.Input f)

-- The line for a status. Which line or key is bad, only the account knows; in a folder whose files
-- aren't known it is left open.
abbrev pub message_of : Status → Option Account → Option (List ℕ)
message_of status.BadConfig e = option_map (λ (a : Account). fault_message a.fault) e
message_of status.BadScript e = option_map (λ (a : Account). fault_message a.fault) e
message_of status.BadTrace e = option_map (λ (a : Account). fault_message a.fault) e
message_of status.Ok e = Some []
message_of status.Usage e = Some (message_at (why.Input fault.Words))
message_of status.NoFile e = Some (message_at (why.Input fault.NoFile))
message_of status.ReadFault e = Some (message_at why.ReadFault)
message_of status.WriteFault e = Some (message_at why.WriteFault)
message_of status.NoMemory e = Some (message_at why.NoMemory)

-- The line for the end of a run.
abbrev pub message_by : Result (Unit {0}) Stop → List ℕ
message_by (Ok u) = []
message_by (Err stop) = message_at stop

-- A text was written to a sink that was flushed: whole, or up to a put that failed.
pub record Says {E : Type 0} (sink : SinkMeaning E) (text : List ℕ) (old new : E) : Type 0 where
  pub all : Bool
  pub says : SentAfter sink text old new all
