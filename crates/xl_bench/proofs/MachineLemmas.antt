-- What a form that serves rows leaves of the machines.
use Rattle.std.proofs.Common.{◌∙◌, ◌≡◌, ◌⊎◌, [], inl, inr, List, refl, subst, sym, ℕ}
use Rattle.std.specs.Option.{IfSome}
use Rattle.std.specs.Prelude.{Err, Ok, OnOk, Option, Result}
use Rattle.xl_course.proofs.KnownLemmas.{known_one}
use Rattle.xl_course.specs.Accounts.{Account, Ends}
use Rattle.xl_course.specs.Stops.{status_by}
use Rattle.xl_course.specs.declared.stop.Stop.{Stop}
use Rattle.xl_hart_model.specs.Harts.{HartsState}
use Rattle.xl_model.specs.Scenes.{Served}
use Rattle.xl_nested_model.specs.Nested.{NestState}
use Rattle.xl_outside.specs.Folders.{Files}
use Rattle.xl_serving.specs.Plain.{AreOpened}
use Rattle.xl_bench.specs.Machines.{IsUnserved, MachineStates, no_machines}
use Rattle.xl_course.specs.declared.status.Status.TheVariants as status
use Rattle.xl_course.specs.declared.stop.Stop.TheVariants as why
use Rattle.xl_model.specs.declared.fault.InputFault.TheVariants as fault

served-rows : (r : Result (Unit {0}) Stop) (m : MachineStates) (rows left : List Served) → m ≡ no_machines → OnOk r (rows ≡ left)
    → OnOk r (record m { rows = rows } ≡ record no_machines { rows = left })
served-rows (Ok u) m rows left e h = rw (e, h) refl
served-rows (Err stop) m rows left e h = tt

pub rows_left : {K : Type 0} (r : Result (Unit {0}) Stop) (a : Account) (roomy : K → ℕ → Type 0) (before after : Option (List ℕ)) (old new : K) (m : MachineStates) (rows left : List Served)
    → m ≡ no_machines → Ends r a roomy before after old new (rows ≡ left) → Ends r a roomy before after old new (record m { rows = rows } ≡ record no_machines { rows = left })
rows_left r a roomy before after old new m rows left e h = record {
  as_said = h.as_said;
  room = h.room;
  served = served-rows r m rows left e h.served;
}

-- none was opened
pub none_unserved : (m : MachineStates) → m ≡ no_machines → IsUnserved m
none_unserved m e = subst IsUnserved (sym e) (([], refl), refl, refl)

-- rows alone were opened
pub rows_unserved : (m : MachineStates) (rows : List Served) → m ≡ no_machines → AreOpened rows → IsUnserved (record m { rows = rows })
rows_unserved m rows e h = let u = none_unserved m e in (h, u.1, u.2)

-- a machine was not left
pub nested_unserved : (m : MachineStates) (n : Option NestState) → m ≡ no_machines → n ≡ m.nested → IsUnserved (record m { nested = n })
nested_unserved m n e h = let u = none_unserved m e in (u.0, h ∙ u.1, u.2)

pub harts_unserved : (m : MachineStates) (n : Option HartsState) → m ≡ no_machines → n ≡ m.harts → IsUnserved (record m { harts = n })
harts_unserved m n e h = let u = none_unserved m e in (u.0, u.1, h ∙ u.2)

-- rows are as opened, or as a run leaves them
pub rows_early : (m : MachineStates) (rows : List Served) (json : Type 0) (files : Option Files) (left : Files → List Served) → m ≡ no_machines
    → AreOpened rows ⊎ (json × IfSome files (λ fs. rows ≡ left fs))
    → IsUnserved (record m { rows = rows }) ⊎ (json × IfSome files (λ fs. record m { rows = rows } ≡ record no_machines { rows = left fs }))
rows_early m rows json files left e (inl h) = inl (rows_unserved m rows e h)
rows_early m rows json files left e (inr h) =
    inr (h.0, known_one files (λ fs. rows ≡ left fs) _ h.1 (λ fs k. rw (e, k) refl))

-- the status of NoMemory is of it alone
pub no_memory_by : (r : Result (Unit {0}) Stop) → status_by r ≡ status.NoMemory → r ≡ Err why.NoMemory
no_memory_by (Ok u) h = cc
no_memory_by (Err why.NoMemory) h = refl
no_memory_by (Err why.ReadFault) h = cc
no_memory_by (Err why.WriteFault) h = cc
no_memory_by (Err (why.Input fault.Words)) h = cc
no_memory_by (Err (why.Input fault.NoFile)) h = cc
no_memory_by (Err (why.Input fault.ConfigTooLong)) h = cc
no_memory_by (Err (why.Input fault.ConfigNotToml)) h = cc
no_memory_by (Err (why.Input (fault.ConfigKey row key rule))) h = cc
no_memory_by (Err (why.Input fault.ScriptTooLong)) h = cc
no_memory_by (Err (why.Input (fault.ScriptLine line reason))) h = cc
no_memory_by (Err (why.Input fault.TraceTooLong)) h = cc
no_memory_by (Err (why.Input (fault.TraceLine line reason))) h = cc
