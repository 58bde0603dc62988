-- What the folder and the sink in memory hold, and what they answer.
use Rattle.std.specs.Prelude.{◌≡◌, ℕ, ◌+◌, ◌-◌, ◌==◌, ◌≤◌, min, Bool, ◌||◌, List, [], ◌∷◌, ◌++◌, length, take, if◌then◌else◌, Option, None, Some, Result, Ok, Err}
use Rattle.std.specs.declared.alloc.Global.{Global}
use Rattle.std.specs.declared.vec.Vec.{Vec}
use Rattle.std.specs.declared.string.String.{String}
use Rattle.std.specs.String.{string_bytes}
use Rattle.std.specs.List.{list_any}
use Rattle.xl_outside.specs.Outside.{raised}
use Rattle.xl_outside.specs.Folders.{Files, FolderMeaning, file_of}
use Rattle.xl_outside.specs.Sinks.{Outside, SinkMeaning}
use Rattle.xl_outside.specs.declared.folder.Unread.{Unread}
use Rattle.xl_outside.specs.declared.folder.Unread.TheVariants.{Missing, Failed}
use Rattle.xl_outside.specs.declared.sink.Failed.{Failed as PutFailed}

-- whether the call of this number is to fail
abbrev pub is_listed : List ℕ → ℕ → Bool
is_listed failing number = list_any (λ n. n == number) failing

-- the names and bytes of files
abbrev pub known : List (String Global × Vec ℕ Global) → Files
known [] = []
known (f ∷ fs) = (string_bytes f.0, f.1.items) ∷ known fs

-- a folder in memory: its files, the numbers of the calls that are to fail, the most bytes of a
-- call, and how many calls, faults and absences there were
pub record FolderState : Type 0 where
  pub held : Files
  pub failing : List ℕ
  pub piece : ℕ
  pub calls : ℕ
  pub failed : ℕ
  pub missed : ℕ

-- a folder in memory that no call was made on
abbrev pub opened_folder : Files → List ℕ → ℕ → FolderState
opened_folder fs numbers most = record { held = fs; failing = numbers; piece = most; calls = 0; failed = 0; missed = 0 }

-- no call of it is to fail, and its faults aren't at the counter's last value
abbrev pub NeverFails : FolderState → Type 0
NeverFails s = (s.failing ≡ []) × (s.failed ≡ 0)

-- the size of a read of a file: the least of the piece, the room and what is left
abbrev pub part_of : Option (List ℕ) → ℕ → ℕ → ℕ → Result ℕ Unread
part_of None at room piece = Err Missing
part_of (Some file) at room piece = Ok (min piece (min room (length file - at)))

-- The call of the next number returns Failed where that number is listed, else what the file has.
abbrev pub read_answer : FolderState → List ℕ → ℕ → ℕ → Result ℕ Unread
read_answer s name at room =
    if is_listed s.failing (raised s.calls) then Err Failed else part_of (file_of s.held name) at room s.piece

-- a call and its answer are counted; nothing else changes
abbrev pub after_read : FolderState → Result ℕ Unread → FolderState
after_read s (Ok n) = record s { calls = raised s.calls }
after_read s (Err Failed) = record s { calls = raised s.calls; failed = raised s.failed }
after_read s (Err Missing) = record s { calls = raised s.calls; missed = raised s.missed }

-- what a folder in memory means: its files are known
abbrev pub known_folder : FolderMeaning FolderState
known_folder = record { files = λ s. Some s.held; faults = λ s. s.failed; absences = λ s. s.missed; steady = NeverFails }

-- a sink in memory: what was written, how many bytes it holds at most, the numbers of the puts that
-- are to fail, the most bytes of a put, and how many puts of bytes and faults there were
pub record SinkState : Type 0 where
  pub text : List ℕ
  pub capacity : ℕ
  pub failing : List ℕ
  pub piece : ℕ
  pub puts : ℕ
  pub failed : ℕ

-- a sink in memory that nothing was put to
abbrev pub opened_sink : ℕ → List ℕ → ℕ → SinkState
opened_sink room numbers most = record { text = []; capacity = room; failing = numbers; piece = most; puts = 0; failed = 0 }

-- it writes what it takes
abbrev pub done_outside : SinkState → Outside
done_outside s = record { written = Some s.text; faults = s.failed }

-- no put of it is to fail while `more` more bytes come, and its faults aren't at the counter's last
-- value
abbrev pub HasRoom : SinkState → ℕ → Type 0
HasRoom s more = (s.failing ≡ []) × (s.failed ≡ 0) × (length s.text + more ≤ s.capacity)

-- what a sink in memory means: the bytes that it took are known
abbrev pub text_sink : SinkMeaning SinkState
text_sink = record { taken = λ s. Some s.text; outside = done_outside; roomy = HasRoom }

-- the size of a put of `count` bytes, at least one: the least of the piece, the room and the bytes
abbrev pub put_part : SinkState → ℕ → Result ℕ PutFailed
put_part s count =
    if is_listed s.failing (raised s.puts) || (s.capacity - length s.text == 0) then Err (record {})
    else Ok (min s.piece (min (s.capacity - length s.text) count))

-- a put of an empty piece returns 0
abbrev pub put_answer : SinkState → ℕ → Result ℕ PutFailed
put_answer s count = if count == 0 then Ok 0 else put_part s count

-- a put of bytes is counted and writes what it took, or counts as a fault; nothing else changes
abbrev pub after_put : SinkState → List ℕ → Result ℕ PutFailed → SinkState
after_put s bytes (Ok n) = record s { text = s.text ++ take n bytes; puts = if length bytes == 0 then s.puts else raised s.puts }
after_put s bytes (Err e) = record s { puts = raised s.puts; failed = raised s.failed }
