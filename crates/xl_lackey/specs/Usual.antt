-- Lines in the form that Lackey itself writes, and the first line of a text.
use Rattle.std.specs.Prelude.{ℕ, Bool, true, false, List, codes, Option}
use Rattle.std.specs.Option.{option_map}
use Rattle.xl_model.specs.declared.address.Kind.{Kind}
use Rattle.xl_model.specs.declared.address.Kind.TheVariants.{Fetch, Load, Store}
use Rattle.xl_lackey.specs.declared.reference.Letter.{Letter}
use Rattle.xl_lackey.specs.declared.reference.Letter.TheVariants as letter
use Rattle.xl_lackey.specs.declared.line.Verdict.{Verdict}
use Rattle.xl_lackey.specs.Lines.{parted, judge}

-- A record's letter with the blanks around it, as Lackey writes them.
abbrev pub usual_front : Letter → List ℕ
usual_front letter.I = codes "I  "
usual_front letter.L = codes " L "
usual_front letter.S = codes " S "
usual_front letter.M = codes " M "

-- The kind of a record's first access in a page.
abbrev pub first_kind : Letter → Kind
first_kind letter.I = Fetch
first_kind letter.L = Load
first_kind letter.S = Store
first_kind letter.M = Load

-- Whether a store follows it, at the same place.
abbrev pub is_modify : Letter → Bool
is_modify letter.I = false
is_modify letter.L = false
is_modify letter.S = false
is_modify letter.M = true

-- What follows a line, and what the line is.
abbrev pub judged : List ℕ × List ℕ → List ℕ × Verdict
judged parts = (parts.1, judge parts.0)

-- What follows the first line of a text that a newline ends, and what that line is.
abbrev pub judged_line : List ℕ → Option (List ℕ × Verdict)
judged_line text = option_map judged (parted 10 text)
