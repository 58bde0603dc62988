-- The results of a trace that is read while it is replayed, by what is left of it.
use Rattle.std.specs.Prelude.{◌≡◌, ℕ, ◌+◌, ◌-◌, ◌≤◌, ◌⊎◌, Bool, true, false, List, [], ◌++◌, length, take, drop, nat_lt, Option, None, Some, Result, Ok, Err}
use Rattle.xl_lackey.specs.Stream.{State, left}
use Rattle.xl_outside.specs.declared.folder.Unread.{Unread}
use Rattle.xl_outside.specs.declared.folder.Unread.TheVariants as unread
use Rattle.xl_course.specs.declared.stop.Stop.{Stop}
use Rattle.xl_course.specs.Sources.{EndsBy}
use Rattle.xl_serving.specs.Traces.{Progress, limit, ahead, left_of}

-- Nothing was fed yet.
pub record IsUnfed (p : Progress) : Type 0 where
  pub none : left p.reader [] ≡ ([], None)
  pub unfinished : p.reader.finished ≡ false
  pub first : p.at ≡ 0

-- A part of the file was fed, within the limit; all of it, once the reader learned that it ended.
pub record IsWithin (file : List ℕ) (p : Progress) : Type 0 where
  pub part : p.at ≤ length file
  pub most : p.at ≤ limit
  pub all : p.reader.finished ≡ true → p.at ≡ length file

-- The trace was fed from a file of these bytes alone; from none, where the file isn't there.
abbrev pub IsFedFrom : Option (List ℕ) → Progress → Type 0
IsFedFrom None p = IsUnfed p
IsFedFrom (Some file) p = IsWithin file p

-- What is left of the file stays.
pub record KeepsLeft (file : List ℕ) (old new : Progress) : Type 0 where
  pub same : ahead file new ≡ ahead file old
  pub within : IsWithin file new

-- The same; nothing is fed of a file that isn't there.
abbrev pub Fills : Option (List ℕ) → Progress → Progress → Type 0
Fills None old new = ⊥
Fills (Some file) old new = KeepsLeft file old new

-- The result of a call that feeds the next piece.
abbrev pub FillAnswers : Option (List ℕ) → Result (Unit {0}) Stop → Progress → Progress → Type 0
FillAnswers file (Ok u) old new = Fills file old new
FillAnswers file (Err stop) old new = EndsBy stop (left_of file old)

-- `n` bytes of the file from `at` on were fed; none only at its end.
pub record Feeds (file : List ℕ) (at n : ℕ) (old new : State) : Type 0 where
  pub fed : new ≡ record old { held = old.held ++ take n (drop at file) }
  pub within : (at + n ≤ length file) ⊎ (n ≡ 0)
  pub end : n ≡ 0 → length file ≤ at

-- The same; nothing is fed of a file that isn't there.
abbrev pub FeedsOf : Option (List ℕ) → ℕ → ℕ → State → State → Type 0
FeedsOf None at n old new = ⊥
FeedsOf (Some file) at n old new = Feeds file at n old new

-- Why a read gave nothing: a file that is there isn't missing.
abbrev pub Unreadable : Option (List ℕ) → Unread → Type 0
Unreadable file unread.Failed = Unit {0}
Unreadable None unread.Missing = Unit {0}
Unreadable (Some file) unread.Missing = ⊥

-- The result of a call that feeds a piece from a place on.
abbrev pub FeedAnswers : Option (List ℕ) → ℕ → Result ℕ Unread → State → State → Type 0
FeedAnswers file at (Ok n) old new = FeedsOf file at n old new
FeedAnswers file at (Err e) old new = Unreadable file e

-- Whether a file has bytes from a place on.
abbrev pub HasMore : Option (List ℕ) → ℕ → Bool → Type 0
HasMore None at more = ⊥
HasMore (Some file) at more = more ≡ nat_lt at (length file)

-- The result of the question whether a file has bytes from a place on.
abbrev pub MoreAnswers : Option (List ℕ) → ℕ → Result Bool Unread → Type 0
MoreAnswers file at (Ok more) = HasMore file at more
MoreAnswers file at (Err e) = Unreadable file e

-- How much is still to be done before the reader has all.
abbrev pub to_come_of : Bool → ℕ → ℕ
to_come_of true at = 0
to_come_of false at = limit + 1 - at

-- The same, of a trace read so far.
abbrev pub to_come : Progress → ℕ
to_come p = to_come_of p.reader.finished p.at

-- What is still to be fed or is held: each record takes from it, and nothing adds to it.
abbrev pub size_of : Progress → ℕ
size_of p = to_come p + length p.reader.held
