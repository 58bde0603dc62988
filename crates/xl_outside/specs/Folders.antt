-- What a folder of files may answer, and what calls on it leave of it.
use Rattle.std.specs.Prelude.{◌≡◌, ℕ, ◌+◌, ◌<◌, ◌≤◌, ◌⊎◌, List, [], ◌∷◌, length, take, drop, if◌then◌else◌, Option, None, Some, Result, Ok, Err}
use Rattle.std.specs.Str.{bytes_eq}
use Rattle.xl_outside.specs.Outside.{Counted}
use Rattle.xl_outside.specs.declared.folder.Unread.{Unread}
use Rattle.xl_outside.specs.declared.folder.Unread.TheVariants as unread
use Rattle.xl_outside.specs.declared.whole.ReadStop.{ReadStop}
use Rattle.xl_outside.specs.declared.whole.ReadStop.TheVariants as stop

-- files by name: each one's name and bytes
abbrev pub Files : Type 0
Files = List (List ℕ × List ℕ)

-- the bytes of the file of this name; where a name occurs twice, its first file is meant
abbrev pub file_of : Files → List ℕ → Option (List ℕ)
file_of [] name = None
file_of (f ∷ fs) name = if bytes_eq f.0 name then Some f.1 else file_of fs name

-- `n` bytes of `file` from `at` were read into the front of a buffer: none only where the file has
-- no more, or the buffer no room
pub record Reads (file : List ℕ) (at n : ℕ) (old new : List ℕ) : Type 0 where
  pub bytes : take n new ≡ take n (drop at file)
  pub within : (at + n ≤ length file) ⊎ (n ≡ 0)
  pub end : n ≡ 0 → 0 < length old → length file ≤ at

-- What a folder whose files are known may return: bytes of the file, or a failed read. A file that
-- is there is never missing, and nothing is read of one that isn't.
abbrev pub ReadsFile : Option (List ℕ) → ℕ → Result ℕ Unread → List ℕ → List ℕ → Type 0
ReadsFile None at (Ok n) old new = ⊥
ReadsFile None at (Err e) old new = Unit {0}
ReadsFile (Some file) at (Ok n) old new = Reads file at n old new
ReadsFile (Some file) at (Err unread.Missing) old new = ⊥
ReadsFile (Some file) at (Err unread.Failed) old new = Unit {0}

-- what became of calls on a folder: all were fine, or the last of them failed or asked for a file
-- that isn't there
pub data ReadFate : Type 0 where
  Fine : ReadFate
  ReadFailed : ReadFate
  FileMissing : ReadFate

-- the fate in a result, where each error has its own
abbrev pub fate_by : {A E : Type 0} → (E → ReadFate) → Result A E → ReadFate
fate_by of (Ok a) = Fine
fate_by of (Err e) = of e

-- the fate of a read that gave nothing
abbrev pub unread_fate : Unread → ReadFate
unread_fate unread.Missing = FileMissing
unread_fate unread.Failed = ReadFailed

-- the fate of a file that wasn't read; want of memory is none of the folder's
abbrev pub read_stop_fate : ReadStop → ReadFate
read_stop_fate stop.Missing = FileMissing
read_stop_fate stop.Failed = ReadFailed
read_stop_fate stop.NoMemory = Fine

-- a failed read counts as a fault, a missing file as an absence, and nothing else counts
abbrev pub FateCounts : ReadFate → (faults faults_after absences absences_after : ℕ) → Type 0
FateCounts Fine f g a b = (g ≡ f) × (b ≡ a)
FateCounts ReadFailed f g a b = Counted f g × (b ≡ a)
FateCounts FileMissing f g a b = (g ≡ f) × Counted a b

-- no read failed
abbrev pub NoneFailed : ReadFate → Type 0
NoneFailed Fine = Unit {0}
NoneFailed ReadFailed = ⊥
NoneFailed FileMissing = Unit {0}

-- What a folder of one type means: its files, where they are known; how many reads failed, and how
-- many asked for a file that isn't there, numbers that never fall; and that no read fails from here
-- on.
pub record FolderMeaning (D : Type 0) : Type 1 where
  pub files : D → Option Files
  pub faults : D → ℕ
  pub absences : D → ℕ
  pub steady : D → Type 0

-- A folder after calls with this fate: its files stay, its counts rise by what failed, and in a
-- steady folder no read fails and it is steady still.
pub record FolderAfter {D : Type 0} (folder : FolderMeaning D) (old new : D) (fate : ReadFate) : Type 0 where
  pub keeps : folder.files new ≡ folder.files old
  pub counts : FateCounts fate (folder.faults old) (folder.faults new) (folder.absences old) (folder.absences new)
  pub calm : folder.steady old → NoneFailed fate × folder.steady new
