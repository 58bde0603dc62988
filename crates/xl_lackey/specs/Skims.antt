-- Records whose bytes lie in one page each, taken together.
use Rattle.std.specs.Prelude.{◌≡◌, ℕ, ◌+◌, ◌*◌, ◌%◌, ◌^◌, ◌<◌, ◌≤◌, Bool, true, false, List, [], ◌∷◌, ◌++◌, length, map, drop}
use Rattle.xl_model.specs.Base.{one_if}
use Rattle.xl_model.specs.declared.address.Kind.{Kind}
use Rattle.xl_model.specs.declared.address.Kind.TheVariants.{Store}
use Rattle.xl_text.specs.Texts.{lines_by, lines_of}
use Rattle.xl_lackey.specs.declared.skim.Access.{Access}
use Rattle.xl_lackey.specs.declared.skim.PageRecord.{PageRecord}
use Rattle.xl_lackey.specs.declared.skim.Run.{Run}
use Rattle.xl_lackey.specs.declared.line.Verdict.{Verdict}
use Rattle.xl_lackey.specs.declared.line.Verdict.TheVariants.{Skipped, Found, Bad}
use Rattle.xl_lackey.specs.Accesses.{accesses_at, places}
use Rattle.xl_lackey.specs.Scans.{IsFirstLine}
use Rattle.xl_lackey.specs.Stream.{Record, Left, State, left_by, MayCome, records}

-- An access as a pair, as the list of a record has it.
abbrev pub pair : Access → ℕ × Kind
pair a = (a.va, a.kind)

-- The accesses of a record.
abbrev pub accesses_in : Record → List (ℕ × Kind)
accesses_in r = accesses_at r.letter (places r.addr r.size)

-- The accesses of some records, one record after another.
abbrev pub all_accesses : List Record → List (ℕ × Kind)
all_accesses [] = []
all_accesses (r ∷ rs) = accesses_in r ++ all_accesses rs

-- The access of a record in one page, and the store after it where the record is a modify.
abbrev pub accesses_in_page : Bool → ℕ → Kind → List Access
accesses_in_page true va k = record { va = va; kind = k } ∷ record { va = va; kind = Store } ∷ []
accesses_in_page false va k = record { va = va; kind = k } ∷ []

-- The same of what was read of a line.
abbrev pub read_of : PageRecord → List Access
read_of n = accesses_in_page n.is_modify n.va n.kind

-- It is known how many accesses these are.
abbrev pub IsCounted : PageRecord → Type 0
IsCounted n = n.count ≡ 1 + one_if n.is_modify

-- A line is a record with these accesses.
abbrev pub HasAccesses : Verdict → List Access → Type 0
HasAccesses Skipped got = ⊥
HasAccesses (Found l addr size) got = accesses_at l (places addr size) ≡ map pair got
HasAccesses (Bad reason) got = ⊥

-- What contracts see of a batch: the accesses that were put there, in order.
pub record Gathered : Type 0 where
  pub items : List Access

-- How many accesses a batch has room for.
abbrev pub batch_size : ℕ
batch_size = 256

-- There is room for the accesses of a record in one page, which are two at most.
abbrev pub HasRoom : List Access → Type 0
HasRoom accesses = length accesses + 2 ≤ batch_size

-- `sure` records of one access each may be read of a text of `rest` bytes: their lines end there,
-- and there is room for their accesses.
pub record IsSure (sure rest : ℕ) (accesses : List Access) : Type 0 where
  pub text : 19 * sure ≤ rest
  pub room : length accesses + sure ≤ batch_size

-- A text's first line, of `used` bytes with its newline, is a record with these accesses.
pub record IsRecordLine (text : List ℕ) (used : ℕ) (got : List Access) : Type 0 where
  pub verdict : Verdict
  pub line : IsFirstLine text used verdict
  pub accesses_are : HasAccesses verdict got

-- Records before what comes after them.
abbrev pub with_records : List Record → Left → Left
with_records rs later = (rs ++ later.0, later.1)

-- `count` records were taken, and their accesses follow those that were there before.
pub record Taken (before after : List Access) (count : ℕ) : Type 0 where
  pub taken : List Record
  pub got : List Access
  pub follow : after ≡ before ++ got
  pub each : all_accesses taken ≡ map pair got
  pub many : length taken ≡ count

-- How many lines ended, modulo 2^64, after `n` lines and one for each record taken.
abbrev pub lines_after : ℕ → ℕ → ℕ
lines_after n taken = (n + taken) % 2 ^ 64

-- So far the lines of a text, of which `n` came before it, were read: they are records.
pub record Skims (n : ℕ) (text : List ℕ) (before after : List Access) (run : Run) : Type 0 where
  pub within : run.used ≤ length text
  pub of : Taken before after run.taken
  pub reads : (last : Bool) (rest : List ℕ) → records n (lines_by last (text ++ rest))
      ≡ with_records of.taken (records (lines_after n run.taken) (lines_by last (drop run.used text ++ rest)))

-- The same, however many lines came before the text.
abbrev pub Runs : List ℕ → List Access → List Access → Run → Type 0
Runs text before after run = (n : ℕ) → n < 2 ^ 64 → Skims n text before after run

-- Lines that were read, and more after them.
abbrev pub runs_both : Run → Run → Run
runs_both r more = record { used = r.used + more.used; taken = r.taken + more.taken }

-- `count` records were the first of what was left, and the rest of it is left.
pub record Skimmed (old new : State) (before after : List Access) (count : ℕ) : Type 0 where
  pub of : Taken before after count
  pub reads : (last : Bool) (rest : List ℕ) → MayCome last old rest
      → left_by last old rest ≡ with_records of.taken (left_by last new rest)
  pub no_more : length new.held ≤ length old.held
  pub finished : new.finished ≡ old.finished

-- Records that were the first of a text's lines, after `n` lines before it; those of the other
-- lines are left.
pub record Takes (n : ℕ) (old new : List ℕ) (before after : List Access) (count : ℕ) : Type 0 where
  pub of : Taken before after count
  pub reads : records n (lines_of old) ≡ with_records of.taken (records (lines_after n count) (lines_of new))
