-- A range put among maximal ranges, as the calls of a treap do it.
use Rattle.std.specs.Prelude.{ℕ, ◌+◌, ◌≡◌, true, if◌then◌else◌, List, Option, None, Some}
use Rattle.std.specs.List.{list_any}
use Rattle.xl_model.specs.declared.leaf.Range.{Range}
use Rattle.xl_model.specs.Ranges.{range_key}
use Rattle.xl_range.specs.HeldRanges.{touches, grown}
use Rattle.xl_treap.specs.Treaps.{with_range, without_range, resized, last_below, first_from, of_space, has_key}

-- The range, if the other one touches it.
abbrev pub next_where : Option Range → Range → Option Range
next_where None x = None
next_where (Some q) x = if touches x q then Some q else None

-- The range, if it touches the other one.
abbrev pub prev_where : Option Range → Range → Option Range
prev_where None x = None
prev_where (Some p) x = if touches p x then Some p else None

-- The held range that a range touches with its end.
abbrev pub next_of : Range → List Range → Option Range
next_of x held = next_where (of_space x.space (first_from (range_key x) held)) x

-- The held range that touches a range with its end.
abbrev pub prev_of : Range → List Range → Option Range
prev_of x held = prev_where (of_space x.space (last_below (range_key x) held)) x

-- A range with the pages of its next one.
abbrev pub range_taken : Option Range → Range → Range
range_taken None x = x
range_taken (Some q) x = grown x q

-- The held ranges without the next one.
abbrev pub kept_taken : Option Range → List Range → List Range
kept_taken None held = held
kept_taken (Some q) held = without_range (range_key q) held

-- The held ranges with a range in them, or with its pages at the end of the one before it.
abbrev pub kept_put : Option Range → Range → List Range → List Range
kept_put None x held = with_range x held
kept_put (Some p) x held = resized (range_key p) (p.pages + x.pages) held

-- The held ranges after the calls that put a range among its neighbours.
abbrev pub put_by : Option Range → Option Range → Range → List Range → List Range
put_by next prev x held = kept_put prev (range_taken next x) (kept_taken next held)

-- How many neighbours there are.
abbrev pub one_if : Option Range → ℕ
one_if None = 0
one_if (Some r) = 1

-- A neighbour is one of the held ranges.
abbrev pub IsThere : Option Range → List Range → Type 0
IsThere None held = Unit {0}
IsThere (Some q) held = list_any (has_key (range_key q)) held ≡ true

-- The pages of a range with those of a neighbour.
abbrev pub pages_with : Option Range → Range → ℕ
pages_with None x = x.pages
pages_with (Some r) x = r.pages + x.pages
