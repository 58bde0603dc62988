-- What a run of the program is to write, by the form that its words ask for.
use Rattle.std.specs.Prelude.{ℕ, Bool, false, List, Option, None, Some}
use Rattle.xl_model.specs.declared.fault.InputFault.TheVariants as fault
use Rattle.xl_outside.specs.Folders.{Files}
use Rattle.xl_course.specs.Accounts.{Account, faulted}
use Rattle.xl_words.specs.Words.{Asked, Plainly, Nestedly, Hartly, Curved, asked}
use Rattle.xl_serving.specs.Plain.{plain_account, plain_rows}
use Rattle.xl_curving.specs.Curving.{curve_account, curve_rows}
use Rattle.xl_nesting.specs.Accounts.{nested_account, nested_left}
use Rattle.xl_harting.specs.Harting.{harts_account, harts_left}
use Rattle.xl_bench.specs.Machines.{MachineStates, no_machines}

-- What a run that is asked for this is to write: by the form asked for, the account of its script's
-- course over its trace, from its opening state. Words that ask for nothing are a fault.
abbrev pub asked_account : Option Asked → Files → Account
asked_account None files = faulted fault.Words
asked_account (Some (Plainly a)) files = plain_account a files
asked_account (Some (Nestedly a)) files = nested_account a files
asked_account (Some (Hartly a)) files = harts_account a files
asked_account (Some (Curved a)) files = curve_account a files

-- The machines that it leaves: those of the form asked for, after the course.
abbrev pub asked_machines : Option Asked → Files → MachineStates
asked_machines None files = no_machines
asked_machines (Some (Plainly a)) files = record no_machines { rows = plain_rows a files }
asked_machines (Some (Nestedly a)) files = record no_machines { nested = nested_left a files }
asked_machines (Some (Hartly a)) files = record no_machines { harts = harts_left a files }
asked_machines (Some (Curved a)) files = record no_machines { rows = curve_rows a files }

-- What a run of these words over these files is to write.
unfoldable pub account_of : List (List ℕ) → Files → Account
account_of words files = asked_account (asked words) files

-- The machines that such a run leaves.
unfoldable pub machines_left : List (List ℕ) → Files → MachineStates
machines_left words files = asked_machines (asked words) files

-- Whether the end of the report that is asked for is made in memory.
abbrev pub is_asked_late : Option Asked → Bool
is_asked_late None = false
is_asked_late (Some (Plainly a)) = a.json
is_asked_late (Some (Nestedly a)) = false
is_asked_late (Some (Hartly a)) = false
is_asked_late (Some (Curved a)) = false
