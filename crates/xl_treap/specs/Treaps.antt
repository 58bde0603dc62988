-- What a treap's calls answer and leave, on the sorted list of the ranges that it holds.
use Rattle.std.specs.Prelude.{ℕ, ◌+◌, ◌*◌, ◌^◌, ◌<◌, ◌≤◌, ◌==◌, Bool, nat_lt, if◌then◌else◌, List, [], ◌∷◌, Option, None, Some}
use Rattle.xl_model.specs.declared.leaf.Range.{Range}
use Rattle.xl_model.specs.Ranges.{range_key, end_key}

-- What is seen of a treap: the ranges that it holds, sorted by space and start, the most that it
-- can hold, and the loads made of it.
pub record TreapView : Type 0 where
  pub kept : List Range
  pub nodes : ℕ
  pub loads : ℕ

-- A treap: what is seen of it, its words, and its root.
pub record TreapState : Type 0 where
  pub seen : TreapView
  pub words : List ℕ
  pub root : ℕ

-- a treap that holds other ranges
abbrev pub keeping : TreapView → List Range → TreapView
keeping t held = record t { kept = held }

-- the key of a page of a space
abbrev pub key_at : ℕ → ℕ → ℕ
key_at space page = space * 2 ^ 52 + page

-- one range more, at its place
abbrev pub with_range : Range → List Range → List Range
with_range x [] = x ∷ []
with_range x (r ∷ rs) = if nat_lt (range_key r) (range_key x) then r ∷ with_range x rs else (x ∷ r ∷ rs)

-- the ranges without that of this key
abbrev pub without_range : ℕ → List Range → List Range
without_range k [] = []
without_range k (r ∷ rs) = if range_key r == k then rs else (r ∷ without_range k rs)

-- the ranges, that of this key with `pages` pages
abbrev pub resized : ℕ → ℕ → List Range → List Range
resized k pages [] = []
resized k pages (r ∷ rs) = if range_key r == k then record r { pages = pages } ∷ rs else (r ∷ resized k pages rs)

-- the range of the second, or else the first
abbrev pub last_or : Range → Option Range → Range
last_or r None = r
last_or r (Some x) = x

-- the last range below a key
abbrev pub last_below : ℕ → List Range → Option Range
last_below k [] = None
last_below k (r ∷ rs) = if nat_lt (range_key r) k then Some (last_or r (last_below k rs)) else None

-- the first range from a key on
abbrev pub first_from : ℕ → List Range → Option Range
first_from k [] = None
first_from k (r ∷ rs) = if nat_lt (range_key r) k then first_from k rs else Some r

-- a range, where it is one of this space
abbrev pub of_space : ℕ → Option Range → Option Range
of_space space None = None
of_space space (Some r) = if r.space == space then Some r else None

-- the range has this key
abbrev pub has_key : ℕ → Range → Bool
has_key k r = range_key r == k

-- a range that a treap can hold
pub record IsFit (r : Range) : Type 0 where
  pub some : 0 < r.pages
  pub space_in : r.space < 64
  pub pages_in : r.start + r.pages ≤ 2 ^ 52
  pub frames_in : r.frame + r.pages ≤ 2 ^ 44

-- ranges from a key on, sorted, none over another
abbrev pub IsApart : ℕ → List Range → Type 0
IsApart low [] = Unit {0}
IsApart low (r ∷ rs) = (low ≤ range_key r) × IsFit r × IsApart (end_key r) rs
