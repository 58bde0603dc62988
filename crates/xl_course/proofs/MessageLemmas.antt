-- The line for the end of a run.
use Rattle.xl_course.proofs.Common.{Account, EndsAs, EndsWith, Err, fault_message, Files, IfSome, InputFault, List, message_by, message_of, None, Ok, Option, option_map, Result, Some, status_by, Stop, subst, sym, ℕ}
use Rattle.xl_course.specs.Messages.{message_at}
use Rattle.xl_model.specs.declared.fault.InputFault.TheVariants as fault
use Rattle.xl_course.specs.declared.stop.Stop.TheVariants as why

-- the line for the end of a run is that of its status, where the files say what the fault is
module _ (P : List ℕ → Type 0) (fs : Option Files) (e : Files → Account) where
  fault_says : (f : InputFault) (b a : Option (List ℕ)) → IfSome fs (λ file. EndsWith (Some f) (e file) b a) → P (message_at (why.Input f))
      → IfSome (option_map (λ (w : Account). fault_message w.fault) (option_map e fs)) P
  fault_says f b a known says = if_some fs known
    where
      if_some : (gs : Option Files) → IfSome gs (λ file. EndsWith (Some f) (e file) b a) → IfSome (option_map (λ (w : Account). fault_message w.fault) (option_map e gs)) P
      if_some None known = tt
      if_some (Some file) known = subst (λ (x : Option InputFault). P (fault_message x)) (sym known.0) says

  pub run_says : (end : Result (Unit {0}) Stop) (b a : Option (List ℕ)) → IfSome fs (λ file. EndsAs end (e file) b a) → P (message_by end) → IfSome (message_of (status_by end) (option_map e fs)) P
  run_says (Ok u) b a known says = says
  run_says (Err why.ReadFault) b a known says = says
  run_says (Err why.WriteFault) b a known says = says
  run_says (Err why.NoMemory) b a known says = says
  run_says (Err (why.Input fault.Words)) b a known says = says
  run_says (Err (why.Input fault.NoFile)) b a known says = says
  run_says (Err (why.Input fault.ConfigTooLong)) b a known says = fault_says fault.ConfigTooLong b a known says
  run_says (Err (why.Input fault.ConfigNotToml)) b a known says = fault_says fault.ConfigNotToml b a known says
  run_says (Err (why.Input (fault.ConfigKey row key rule))) b a known says = fault_says (fault.ConfigKey row key rule) b a known says
  run_says (Err (why.Input fault.ScriptTooLong)) b a known says = fault_says fault.ScriptTooLong b a known says
  run_says (Err (why.Input (fault.ScriptLine line reason))) b a known says = fault_says (fault.ScriptLine line reason) b a known says
  run_says (Err (why.Input fault.TraceTooLong)) b a known says = fault_says fault.TraceTooLong b a known says
  run_says (Err (why.Input (fault.TraceLine line reason))) b a known says = fault_says (fault.TraceLine line reason) b a known says
