-- Records of a made trace that are taken as their lines are read, without the lines.
use Rattle.std.specs.Prelude.{◌≡◌, ℕ, ◌<◌, List, ◌++◌, length, map}
use Rattle.xl_text.specs.Texts.{lines_of}
use Rattle.xl_lackey.specs.declared.reference.Letter.{Letter}
use Rattle.xl_lackey.specs.declared.skim.Access.{Access}
use Rattle.xl_lackey.specs.Answers.{with_record}
use Rattle.xl_lackey.specs.Skims.{pair, accesses_in}
use Rattle.xl_lackey.specs.Stream.{Record, next_line, records}
use Rattle.xl_made.specs.Made.{letter_of, address_of, size_of}

-- The first line of a text is read as a record, and the other lines are left.
pub record IsFirst (l : Letter) (addr size : ℕ) (old new : List ℕ) : Type 0 where
  pub reads : (n : ℕ) → records n (lines_of old)
      ≡ with_record (record { letter = l; addr = addr; size = size; line = next_line n }) (records (next_line n) (lines_of new))
  pub fewer : length new < length old

-- The same, of a word's record.
abbrev pub IsFirstOf : ℕ → List ℕ → List ℕ → Type 0
IsFirstOf word old new = IsFirst (letter_of word) (address_of word) (size_of word) old new

-- The record of a word, in the line of this number.
abbrev pub record_of_word : ℕ → ℕ → Record
record_of_word word line = record { letter = letter_of word; addr = address_of word; size = size_of word; line = line }

-- The accesses of a word's record follow those that were there before.
pub record Follows (word : ℕ) (before after : List Access) : Type 0 where
  pub got : List Access
  pub follow : after ≡ before ++ got
  pub each : (line : ℕ) → accesses_in (record_of_word word line) ≡ map pair got

-- The first line of a text is read as a record whose accesses follow those that were there before,
-- and the other lines are left.
pub record TakesFirst (old new : List ℕ) (before after : List Access) : Type 0 where
  pub word : ℕ
  pub first : IsFirstOf word old new
  pub follows : Follows word before after
