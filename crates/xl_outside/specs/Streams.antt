-- Open files: what reading on from a place gives, and what it leaves.
use Rattle.std.specs.Prelude.{◌≡◌, ℕ, ◌+◌, ◌==◌, true, List, [], if◌then◌else◌, Option, None, Some, Result, Ok, Err, is_some, option_map}
use Rattle.xl_outside.specs.Folders.{Files, file_of, Reads}
use Rattle.xl_outside.specs.declared.folder.Unread.{Unread}
use Rattle.xl_outside.specs.declared.folder.Unread.TheVariants.{Missing, Failed}

-- an open file: its name, its bytes, the place of the byte that is read next, and how often it was
-- put at another place
pub record StreamState : Type 0 where
  pub name : List ℕ
  pub bytes : List ℕ
  pub place : ℕ
  pub seeks : ℕ

-- a file that was just opened
abbrev pub opened : List ℕ → List ℕ → StreamState
opened title content = record { name = title; bytes = content; place = 0; seeks = 0 }

-- an opening gives the file of this name, at its front; one that isn't there is never opened, and
-- one that is there is never missing
abbrev pub Opens : {S : Type 0} → Result S Unread → (S → Option StreamState) → List ℕ → Option (List ℕ) → Type 0
Opens (Ok s) state name file = (is_some file ≡ true) × (state s ≡ option_map (opened name) file)
Opens (Err Missing) state name file = file ≡ None
Opens (Err Failed) state name file = Unit {0}

-- an open file after `n` bytes of it were read
abbrev pub moved_on : ℕ → StreamState → StreamState
moved_on n s = record s { place = s.place + n }

-- an open file after it was put at a place
abbrev pub put_at : ℕ → StreamState → StreamState
put_at at s = record s { place = at; seeks = s.seeks + 1 }

-- an open file at this place: put there only where it is at another
abbrev pub sought : ℕ → StreamState → StreamState
sought at s = if s.place == at then s else put_at at s

-- `n` bytes were read where the file is, if its bytes are known
abbrev pub ReadsHere : Option StreamState → ℕ → List ℕ → List ℕ → Type 0
ReadsHere None n old new = Unit {0}
ReadsHere (Some s) n old new = Reads s.bytes s.place n old new

-- the name by which a file was opened, where it is known
abbrev pub name_in : Option StreamState → List ℕ
name_in None = []
name_in (Some s) = s.name

-- the bytes of a file that was opened, where they are known
abbrev pub bytes_in : Option StreamState → Option (List ℕ)
bytes_in None = None
bytes_in (Some s) = Some s.bytes

-- the bytes of an open file are known, and they are those of its name
abbrev pub IsFileOf : Files → Option StreamState → Type 0
IsFileOf fs state = (is_some state ≡ true) × (file_of fs (name_in state) ≡ bytes_in state)

-- this open file was opened by this name, and holds these bytes
abbrev pub IsNamed : Option StreamState → List ℕ → Option (List ℕ) → Type 0
IsNamed None name file = ⊥
IsNamed (Some s) name file = (s.name ≡ name) × (file ≡ Some s.bytes)

-- the file of a name is open; one that isn't there is never open, and one that is there is never
-- missing
abbrev pub Holds : {P : Type 0} → Result P Unread → (P → Option StreamState) → List ℕ → Option (List ℕ) → Type 0
Holds (Ok p) state name file = IsNamed (state p) name file
Holds (Err Missing) state name file = file ≡ None
Holds (Err Failed) state name file = Unit {0}
