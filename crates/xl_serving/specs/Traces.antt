-- What is left of a trace that is read in pieces: its records, and what ends them.
use Rattle.std.specs.Prelude.{ℕ, ◌+◌, ◌%◌, ◌^◌, nat_lt, if◌then◌else◌, List, [], ◌∷◌, length, take, drop, Option, None, Some}
use Rattle.xl_model.specs.declared.fault.InputFault.{InputFault}
use Rattle.xl_model.specs.declared.fault.InputFault.TheVariants.{TraceTooLong, TraceLine, NoFile}
use Rattle.xl_model.specs.Courses.{Accesses, Trail, at_end}
use Rattle.xl_lackey.specs.declared.fault.Fault.{Fault}
use Rattle.xl_lackey.specs.Accesses.{accesses_at, places}
use Rattle.xl_lackey.specs.Stream.{Record, Left, State, fresh, left, due, records, records_of}
use Rattle.xl_text.specs.Texts.{lines_of}
use Rattle.xl_made.specs.Made.{made_trace}

-- The number of the record after this one. Records are numbered from 1, modulo 2^64.
abbrev pub next_number : ℕ → ℕ
next_number n = (n + 1) % 2 ^ 64

-- The record of this number, with its accesses.
abbrev pub accesses_of : ℕ → Record → Accesses
accesses_of n r = record { number = n; accesses = accesses_at r.letter (places r.addr r.size) }

-- Records that are numbered from this number on.
abbrev pub numbered : ℕ → List Record → List Accesses
numbered n [] = []
numbered n (r ∷ records) = accesses_of n r ∷ numbered (next_number n) records

-- What ends the records: the bad line, if there is one, or else this.
abbrev pub fault_of : Option Fault → Option InputFault → Option InputFault
fault_of None end = end
fault_of (Some f) end = Some (TraceLine f.line f.reason)

-- Records that are numbered from this number on, and what ends them.
abbrev pub trail : ℕ → Left → Option InputFault → Trail
trail n l end = record { records = numbered n l.0; fault = fault_of l.1 end }

-- The most bytes of a trace.
abbrev pub limit : ℕ
limit = 2 ^ 34

-- How far a trace was read: its reader, the place up to which its file was fed to the reader, and
-- the number of the next record.
pub record Progress : Type 0 where
  pub reader : State
  pub at : ℕ
  pub number : ℕ

-- What is left of a file: the lines to its end. Of a file past the limit, the lines that end before
-- it.
abbrev pub ahead : List ℕ → Progress → Trail
ahead file p =
    if nat_lt limit (length file)
    then trail p.number (due p.reader (drop p.at (take limit file))) (Some TraceTooLong)
    else trail p.number (left p.reader (drop p.at file)) None

-- A trace of which nothing was read yet.
abbrev pub at_first : Progress
at_first = record { reader = fresh; at = 0; number = 1 }

-- The records of a whole trace, and what ends them.
abbrev pub trace_of : List ℕ → Trail
trace_of file = ahead file at_first

-- What is left of a trace whose file is this, or isn't there.
abbrev pub left_of : Option (List ℕ) → Progress → Trail
left_of None p = at_end (Some NoFile)
left_of (Some file) p = ahead file p

-- The records of a trace whose file is this, or isn't there.
abbrev pub trail_of : Option (List ℕ) → Trail
trail_of file = left_of file at_first

-- A record in front of those that are left.
abbrev pub with_record : Accesses → Trail → Trail
with_record r t = record t { records = r ∷ t.records }

-- How far a made trace was taken: how many of its records were given, modulo 2^64, and the bytes
-- that are still to come.
pub record MadeProgress : Type 0 where
  pub given : ℕ
  pub rest : List ℕ

-- What is left of a made trace: what its bytes are read as.
abbrev pub made_left : MadeProgress → Trail
made_left p = trail (next_number p.given) (records p.given (lines_of p.rest)) None

-- The records of the made trace of n.
abbrev pub made_trail : ℕ → Trail
made_trail n = trail 1 (records_of (made_trace n)) None
