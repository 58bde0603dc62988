-- How far the lines of a text were read.
use Rattle.std.specs.Prelude.{◌≡◌, ◌≢◌, ℕ, ◌<◌, ◌≤◌, Bool, List, ◌++◌, length, drop, None, Some}
use Rattle.xl_text.specs.Texts.{lines_by, ended_lines}
use Rattle.xl_lackey.specs.declared.line.Verdict.{Verdict}
use Rattle.xl_lackey.specs.declared.line.Verdict.TheVariants.{Skipped}
use Rattle.xl_lackey.specs.declared.scan.Scan.{Scan}
use Rattle.xl_lackey.specs.Lines.{parted, IsProper}
use Rattle.xl_lackey.specs.Stream.{records, with_verdict, first_due}
use Rattle.xl_lackey.specs.Usual.{judged_line}

-- A text's first line that a newline ends: `used` bytes, with the newline, and what the line is.
pub record IsFirstLine (text : List ℕ) (used : ℕ) (verdict : Verdict) : Type 0 where
  pub within : used ≤ length text
  pub some : 0 < used
  pub line : judged_line text ≡ Some (drop used text, verdict)
  pub proper : IsProper verdict

-- The lines of a text, of which `before` came before it, were read up to the first that isn't
-- skipped, or as far as newlines end them. What was read gives what the same lines give, whatever
-- follows the text.
pub record Scans (before : ℕ) (text : List ℕ) (scan : Scan) : Type 0 where
  pub within : scan.used ≤ length text
  pub first : (scan.lines, scan.verdict) ≡ first_due before (ended_lines text)
  pub proper : IsProper scan.verdict
  pub reads : (last : Bool) (rest : List ℕ) → records before (lines_by last (text ++ rest))
      ≡ with_verdict scan.lines scan.verdict (records scan.lines (lines_by last (drop scan.used text ++ rest)))
  pub takes : scan.verdict ≢ Skipped → 0 < scan.used
  pub ends : scan.verdict ≡ Skipped → parted 10 (drop scan.used text) ≡ None
