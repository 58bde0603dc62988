-- Why a run stops, and the status that it has then.
use Rattle.std.specs.Prelude.{Bool, true, false, Option, None, Some, Result, Ok, Err}
use Rattle.xl_model.specs.declared.fault.InputFault.{InputFault}
use Rattle.xl_model.specs.declared.fault.InputFault.TheVariants as fault
use Rattle.xl_outside.specs.declared.folder.Unread.{Unread}
use Rattle.xl_outside.specs.declared.folder.Unread.TheVariants as unread
use Rattle.xl_outside.specs.declared.whole.ReadStop.{ReadStop}
use Rattle.xl_outside.specs.declared.whole.ReadStop.TheVariants as read
use Rattle.xl_outside.specs.Folders.{FolderMeaning, ReadFate, Fine, ReadFailed, FileMissing, FolderAfter}
use Rattle.xl_course.specs.declared.status.Status.{Status}
use Rattle.xl_course.specs.declared.status.Status.TheVariants as status
use Rattle.xl_course.specs.declared.stop.Stop.{Stop}
use Rattle.xl_course.specs.declared.stop.Stop.TheVariants as why

-- The status of a run whose input has this fault.
abbrev pub status_of_fault : InputFault → Status
status_of_fault fault.Words = status.Usage
status_of_fault fault.ConfigTooLong = status.BadConfig
status_of_fault fault.ConfigNotToml = status.BadConfig
status_of_fault (fault.ConfigKey row key rule) = status.BadConfig
status_of_fault fault.ScriptTooLong = status.BadScript
status_of_fault (fault.ScriptLine line reason) = status.BadScript
status_of_fault fault.TraceTooLong = status.BadTrace
status_of_fault (fault.TraceLine line reason) = status.BadTrace
status_of_fault fault.NoFile = status.NoFile

-- The status of a run that this fault ends, or none.
abbrev pub status_with : Option InputFault → Status
status_with None = status.Ok
status_with (Some fault) = status_of_fault fault

-- The status of a run that stops so.
abbrev pub status_at : Stop → Status
status_at (why.Input fault) = status_of_fault fault
status_at why.ReadFault = status.ReadFault
status_at why.WriteFault = status.WriteFault
status_at why.NoMemory = status.NoMemory

-- The status of a run that ends so.
abbrev pub status_by : {A : Type 0} → Result A Stop → Status
status_by (Ok a) = status.Ok
status_by (Err stop) = status_at stop

-- Why a run stops of which a read of the trace gave nothing.
abbrev pub of_unread : Unread → Stop
of_unread unread.Missing = why.Input fault.NoFile
of_unread unread.Failed = why.ReadFault

-- Why a run stops of which a file wasn't read.
abbrev pub of_read : ReadStop → Stop
of_read read.Missing = why.Input fault.NoFile
of_read read.Failed = why.ReadFault
of_read read.NoMemory = why.NoMemory

-- What is known of the folder by a status.
abbrev pub status_fate : Status → ReadFate
status_fate status.NoFile = FileMissing
status_fate status.ReadFault = ReadFailed
status_fate _ = Fine

-- What a run of this status leaves of the folder. At a failed put a read may have failed too: what
-- was put before that read can be written after it.
abbrev pub FolderLeft : {D : Type 0} (folder : FolderMeaning D) (old new : D) → Status → Type 0
FolderLeft folder old new status.WriteFault = (fate : ReadFate) × FolderAfter folder old new fate
FolderLeft folder old new s = FolderAfter folder old new (status_fate s)

-- Whether no put failed, by a status.
abbrev pub is_status_put : Status → Bool
is_status_put status.WriteFault = false
is_status_put _ = true

-- What is known of the folder by a fault of the input: a file that isn't there was asked for, or
-- nothing.
abbrev pub fault_fate : InputFault → ReadFate
fault_fate fault.NoFile = FileMissing
fault_fate fault.Words = Fine
fault_fate fault.ConfigTooLong = Fine
fault_fate fault.ConfigNotToml = Fine
fault_fate (fault.ConfigKey row key rule) = Fine
fault_fate fault.ScriptTooLong = Fine
fault_fate (fault.ScriptLine line reason) = Fine
fault_fate fault.TraceTooLong = Fine
fault_fate (fault.TraceLine line reason) = Fine

-- What is known of the folder by a stop.
abbrev pub stop_fate : Stop → ReadFate
stop_fate (why.Input fault) = fault_fate fault
stop_fate why.ReadFault = ReadFailed
stop_fate why.WriteFault = Fine
stop_fate why.NoMemory = Fine

-- Whether no put failed in a run that ends so.
abbrev pub is_all_put : {A : Type 0} → Result A Stop → Bool
is_all_put (Ok a) = true
is_all_put (Err (why.Input fault)) = true
is_all_put (Err why.ReadFault) = true
is_all_put (Err why.WriteFault) = false
is_all_put (Err why.NoMemory) = true

-- A fault that is found while a file is read; a fault of the words is none.
abbrev pub IsCause : InputFault → Type 0
IsCause fault.Words = ⊥
IsCause fault.ConfigTooLong = Unit {0}
IsCause fault.ConfigNotToml = Unit {0}
IsCause (fault.ConfigKey row key rule) = Unit {0}
IsCause fault.ScriptTooLong = Unit {0}
IsCause (fault.ScriptLine line reason) = Unit {0}
IsCause fault.TraceTooLong = Unit {0}
IsCause (fault.TraceLine line reason) = Unit {0}
IsCause fault.NoFile = Unit {0}

-- A source stops at a fault found in reading, or at a failed read.
abbrev pub StopsSource : Stop → Type 0
StopsSource (why.Input fault) = IsCause fault
StopsSource why.ReadFault = Unit {0}
StopsSource why.WriteFault = ⊥
StopsSource why.NoMemory = ⊥

-- Serving takes no memory: it stops at a fault found in reading, or at a failed read or write.
abbrev pub StopsServing : Stop → Type 0
StopsServing (why.Input fault) = IsCause fault
StopsServing why.ReadFault = Unit {0}
StopsServing why.WriteFault = Unit {0}
StopsServing why.NoMemory = ⊥

-- A run stops before anything is written: not at a failed write.
abbrev pub StopsOpening : Stop → Type 0
StopsOpening (why.Input fault) = IsCause fault
StopsOpening why.ReadFault = Unit {0}
StopsOpening why.WriteFault = ⊥
StopsOpening why.NoMemory = Unit {0}

-- A run stops at something found in it, and not at its words.
abbrev pub StopsRun : Stop → Type 0
StopsRun (why.Input fault) = IsCause fault
StopsRun why.ReadFault = Unit {0}
StopsRun why.WriteFault = Unit {0}
StopsRun why.NoMemory = Unit {0}
