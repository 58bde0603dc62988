-- What is after the letter of a line in Lackey's own form.
use Rattle.std.specs.Prelude.{ℕ, ◌+◌, ◌<◌, List, ◌++◌}
use Rattle.xl_lackey.specs.declared.reference.Letter.{Letter}
use Rattle.xl_lackey.specs.declared.near.Numbers.{Numbers}
use Rattle.xl_lackey.specs.declared.line.Verdict.TheVariants.{Found}
use Rattle.xl_lackey.specs.Usual.{usual_front}
use Rattle.xl_lackey.specs.Scans.{IsFirstLine}

-- A text begins with an address and a size that a newline ends, which is short: after whatever letter,
-- they are a record.
pub record IsNumbers (text : List ℕ) (numbers : Numbers) : Type 0 where
  pub small : numbers.above < 99
  pub line : (l : Letter) → IsFirstLine (usual_front l ++ text) numbers.used (Found l numbers.addr (numbers.above + 1))
