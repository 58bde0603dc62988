-- The result for a whole file, read up to a limit.
use Rattle.std.specs.Prelude.{◌≡◌, ℕ, ◌+◌, List, take, Option, None, Some, Result, Ok, Err}
use Rattle.std.specs.declared.alloc.Global.{Global}
use Rattle.std.specs.declared.vec.Vec.{Vec}
use Rattle.xl_outside.specs.declared.whole.ReadStop.{ReadStop}
use Rattle.xl_outside.specs.declared.whole.ReadStop.TheVariants as stop
use Rattle.xl_outside.specs.declared.folder.Unread.{Unread}
use Rattle.xl_outside.specs.declared.folder.Unread.TheVariants.{Missing, Failed}

-- why the file wasn't read, after a read that gave nothing
abbrev pub stop_of : Unread → ReadStop
stop_of Missing = stop.Missing
stop_of Failed = stop.Failed

-- A file that is there is read to its end, or its first `limit + 1` bytes are; it is never missing,
-- and what isn't there is never read.
abbrev pub ReadsWhole : Option (List ℕ) → ℕ → Result (Vec ℕ Global) ReadStop → Type 0
ReadsWhole None limit (Ok bytes) = ⊥
ReadsWhole None limit (Err e) = Unit {0}
ReadsWhole (Some file) limit (Ok bytes) = bytes.items ≡ take (limit + 1) file
ReadsWhole (Some file) limit (Err stop.Missing) = ⊥
ReadsWhole (Some file) limit (Err stop.Failed) = Unit {0}
ReadsWhole (Some file) limit (Err stop.NoMemory) = Unit {0}
