-- The line of a row's curve.
use Rattle.std.specs.Prelude.{ℕ, List, ◌++◌, codes, decimal, map}
use Rattle.xl_model.specs.Lines.{with_numbers}
use Rattle.xl_curve_model.specs.Curves.{HitCurve, hits_of}

-- A line with the number of sets and that of look-ups.
unfoldable pub with_lookups : List ℕ → ℕ → ℕ → List ℕ
with_lookups line sets lookups = line ++ codes " curve sets=" ++ decimal sets ++ codes " lookups=" ++ decimal lookups

-- The row's name, the number of sets, that of look-ups, and the hits of each width.
unfoldable pub curve_line : List ℕ → ℕ → ℕ → List ℕ → List ℕ
curve_line name sets lookups hits = with_numbers (with_lookups name sets lookups ++ codes " hits=") hits ++ codes "\n"

-- The same, of a curve.
abbrev pub line_of : List ℕ → ℕ → HitCurve → List ℕ
line_of name sets c = curve_line name sets c.lookups (map hits_of c.points)
