-- Scripts of one line, and what is read of them.
use Rattle.std.specs.Prelude.{◌≡◌, ℕ, true, false, List, [], ◌∷◌, Ok, Err}
use Rattle.std.proofs.Common.{refl}
use Rattle.xl_model.specs.declared.perm.Perm.{Perm}
use Rattle.xl_model.specs.declared.address.Order.{Order}
use Rattle.xl_model.specs.declared.script.Area.{Area}
use Rattle.xl_model.specs.declared.script.Command.{Command}
use Rattle.xl_script.specs.declared.fault.ScriptFault.TheVariants as fault
use Rattle.xl_script.specs.Plain.{script_of}

-- Read.
abbrev pub perm_r__u : Perm
perm_r__u = record { r = true; w = false; x = false; u = true; legal = refl }

-- The line is this command.
abbrev pub Reads : List ℕ → Command → Type 0
Reads text command = script_of text ≡ Ok (command ∷ [])

-- The line is bad for this reason.
abbrev pub Refuses : List ℕ → ℕ → Type 0
Refuses text reason = script_of text ≡ Err (fault.BadLine 1 reason)

-- Execute.
abbrev pub perm___xu : Perm
perm___xu = record { r = false; w = false; x = true; u = true; legal = refl }

-- An area of space 0, of pages that may be read.
abbrev pub page_area : ℕ → ℕ → Order → Area
page_area page pages order = record { space = 0; page = page; pages = pages; order = order; perm = perm_r__u }
