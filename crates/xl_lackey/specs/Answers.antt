-- What an answer of a reader says of what is left for it, before and after.
use Rattle.std.specs.Prelude.{◌≡◌, ℕ, ◌<◌, ◌≤◌, Bool, true, false, List, [], ◌∷◌, length, None, Some}
use Rattle.xl_lackey.specs.declared.reference.Reference.{Reference}
use Rattle.xl_lackey.specs.declared.fault.Fault.{Fault}
use Rattle.xl_lackey.specs.declared.next.Next.{Next}
use Rattle.xl_lackey.specs.declared.next.Next.TheVariants.{Found, More, End, BadLine}
use Rattle.xl_lackey.specs.Stream.{Record, Left, State, left, due, left_by, MayCome}

-- The record that a reference is.
abbrev pub record_of : Reference → Record
record_of r = record { letter = r.letter; addr = r.addr; size = r.size; line = r.line }

-- A record before what comes after it.
abbrev pub with_record : Record → Left → Left
with_record r later = (r ∷ later.0, later.1)

-- The record was the first of what was left, and the rest of it is left; fewer bytes are held.
pub record Gives (r : Record) (old new : State) : Type 0 where
  pub reads : (last : Bool) (rest : List ℕ) → MayCome last old rest
      → left_by last old rest ≡ with_record r (left_by last new rest)
  pub fewer : length new.held < length old.held
  pub finished : new.finished ≡ old.finished
  pub good : new.bad ≡ None

-- What is left stays, no line that ends is held, and there is room for more bytes: no more are held
-- than before, and at most 258.
pub record StaysSame (old new : State) : Type 0 where
  pub reads : (last : Bool) (rest : List ℕ) → left_by last new rest ≡ left_by last old rest
  pub none : due new [] ≡ ([], None)
  pub unfinished : new.finished ≡ false
  pub good : new.bad ≡ None
  pub room : length new.held ≤ 258
  pub no_more : length new.held ≤ length old.held

-- The input has ended, and no record and no bad line is left.
pub record Ends (old new : State) : Type 0 where
  pub finished : old.finished ≡ true
  pub reads : left old [] ≡ ([], None)
  pub stays : left new [] ≡ ([], None)
  pub still : new.finished ≡ true

-- Nothing but this bad line was left, and it stays so.
pub record Refuses (fault : Fault) (old new : State) : Type 0 where
  pub reads : (last : Bool) (rest : List ℕ) → MayCome last old rest → left_by last old rest ≡ ([], Some fault)
  pub stays : (rest : List ℕ) → left new rest ≡ ([], Some fault)
  pub kept : new.bad ≡ Some fault
  pub finished : new.finished ≡ old.finished

-- What each answer says.
abbrev pub Answers : Next → State → State → Type 0
Answers (Found r) old new = Gives (record_of r) old new
Answers More old new = StaysSame old new
Answers End old new = Ends old new
Answers (BadLine n why) old new = Refuses (record { line = n; reason = why }) old new
