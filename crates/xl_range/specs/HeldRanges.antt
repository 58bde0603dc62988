-- For the table of ranges: the maximal ranges that it holds, their leaves, a range put among them,
-- and a leaf cut out of one.
use Rattle.std.specs.Prelude.{ℕ, zero, suc, ◌+◌, ◌-◌, ◌*◌, ◌/◌, ◌^◌, ◌<◌, ◌≤◌, ◌≡◌, ◌⊎◌, ◌==◌, Bool, false, ◌&&◌, nat_lt, if◌then◌else◌, List, [], ◌∷◌, Option, None, Some}
use Rattle.xl_model.specs.declared.leaf.Leaf.{Leaf}
use Rattle.xl_model.specs.declared.leaf.Range.{Range}
use Rattle.xl_model.specs.declared.address.Order.{Order}
use Rattle.xl_model.specs.Addresses.{pages_of, same_order}
use Rattle.xl_model.specs.Ranges.{same_perm, range_of_leaf, range_key, end_key}
use Rattle.std.proofs.Common.{Option}

-- The leaf after one of its kind, next in pages and frames.
abbrev pub next_leaf : Leaf → Leaf
next_leaf l = record l { first = l.first + pages_of l.order; frame = l.frame + pages_of l.order }

-- n leaves from this one on, in front of others.
abbrev pub run_on : ℕ → Leaf → List Leaf → List Leaf
run_on zero l rest = rest
run_on (suc n) l rest = l ∷ run_on n (next_leaf l) rest

-- A range's first leaf.
abbrev pub first_leaf : Range → Leaf
first_leaf r = record { space = r.space; first = r.start; order = r.order; frame = r.frame; perm = r.perm }

-- How many leaves a range has.
abbrev pub range_leaves : Range → ℕ
range_leaves r = r.pages / pages_of r.order

-- The leaves of the held ranges.
unfoldable pub spread : List Range → List Leaf
spread [] = []
spread (r ∷ rs) = run_on (range_leaves r) (first_leaf r) (spread rs)

-- A range of n leaves from this one on.
abbrev pub range_from : ℕ → Leaf → Range
range_from n l = record (range_of_leaf l) { pages = n * pages_of l.order }

-- A place of this kind, where these pages and frames begin, is the beginning of the range.
abbrev pub begins : Leaf → ℕ → ℕ → Range → Bool
begins l page frame q =
    ((l.space == q.space) && (same_order l.order q.order && same_perm l.perm q.perm))
    && ((page == q.start) && (frame == q.frame))

-- A range ends where another of its kind begins.
abbrev pub touches : Range → Range → Bool
touches r q = begins (first_leaf r) (r.start + r.pages) (r.frame + r.pages) q

-- The range doesn't touch the first of these.
abbrev pub Stops : Range → List Range → Type 0
Stops r [] = Unit {0}
Stops r (q ∷ qs) = touches r q ≡ false

-- A range of whole leaves, at places that a table has.
pub record IsRange (r : Range) : Type 0 where
  pub leaves : (n : ℕ) × (r.pages ≡ suc n * pages_of r.order)
  pub space_in : r.space < 64
  pub pages_in : r.start + r.pages ≤ 2 ^ 52
  pub frames_in : r.frame + r.pages ≤ 2 ^ 44
  pub aligned : (e : ℕ) × (r.start ≡ e * pages_of r.order)

-- Maximal ranges from this key on: sorted, none over another, none that touches the next.
abbrev pub IsHeld : ℕ → List Range → Type 0
IsHeld low [] = Unit {0}
IsHeld low (r ∷ rs) = (low ≤ range_key r) × IsRange r × Stops r rs × IsHeld (end_key r) rs

-- A range lies apart from these.
abbrev pub IsClear : Range → List Range → Type 0
IsClear x [] = Unit {0}
IsClear x (r ∷ rs) = ((end_key r ≤ range_key x) ⊎ (end_key x ≤ range_key r)) × IsClear x rs

-- A range with the pages of the range after it.
abbrev pub grown : Range → Range → Range
grown x q = record x { pages = x.pages + q.pages }

-- A range in front of these: one with the first of them where it touches it.
abbrev pub glue : Range → List Range → List Range
glue x [] = x ∷ []
glue x (q ∷ qs) = if touches x q then grown x q ∷ qs else (x ∷ q ∷ qs)

-- A range put among maximal ranges: one with those that it touches.
unfoldable pub join : Range → List Range → List Range
join x [] = x ∷ []
join x (r ∷ rs) =
    if nat_lt (range_key r) (range_key x)
    then (if touches r x then glue (grown r x) rs else (r ∷ join x rs))
    else glue x (r ∷ rs)

-- How many pages of a range lie before a leaf of it.
abbrev pub pages_before : ℕ → Range → ℕ
pages_before first r = first - r.start

-- How many pages of a range lie after a leaf of it.
abbrev pub pages_following : ℕ → Order → Range → ℕ
pages_following first o r = r.start + r.pages - (first + pages_of o)

-- What is left of a range after a leaf of it.
abbrev pub part_following : ℕ → Order → Range → Range
part_following first o r = record r {
  start = first + pages_of o;
  pages = r.start + r.pages - (first + pages_of o);
  frame = r.frame + (first + pages_of o - r.start);
}

-- What is left of a range before a leaf, in front of others, where anything is left.
abbrev pub before_on : ℕ → Range → List Range → List Range
before_on zero r rest = rest
before_on (suc n) r rest = record r { pages = suc n } ∷ rest

-- What is left of a range after a leaf, in front of others, where anything is left.
abbrev pub following_on : ℕ → Range → List Range → List Range
following_on zero x rest = rest
following_on (suc n) x rest = x ∷ rest

-- What is left of a range without a leaf of it, in front of others.
abbrev pub pieces : ℕ → Order → Range → List Range → List Range
pieces first o r rest = before_on (pages_before first r) r (following_on (pages_following first o r) (part_following first o r) rest)

-- One range where it has pages, none where it has none.
abbrev pub some_if : ℕ → ℕ
some_if zero = 0
some_if (suc n) = 1

-- A leaf is in a range, `before` leaves from its beginning and `following` from its end.
pub record IsLeafIn (space first : ℕ) (o : Order) (r : Range) : Type 0 where
  pub before : ℕ
  pub following : ℕ
  pub count : r.pages ≡ (before + suc following) * pages_of o
  pub at : first ≡ r.start + before * pages_of o
  pub space_same : r.space ≡ space
  pub order_same : r.order ≡ o

-- Maximal ranges without a leaf of this one of them.
unfoldable pub cut : ℕ → Order → Range → List Range → List Range
cut first o r [] = []
cut first o r (q ∷ qs) = if range_key q == range_key r then pieces first o r qs else (q ∷ cut first o r qs)

-- The pages of whole leaves of a range before that of a page.
abbrev pub skipped : ℕ → Range → ℕ
skipped page r = (page - r.start) / pages_of r.order * pages_of r.order

-- The leaf of a range that covers a page.
abbrev pub leaf_in : ℕ → Range → Leaf
leaf_in page r = record {
  space = r.space;
  first = r.start + skipped page r;
  order = r.order;
  frame = r.frame + skipped page r;
  perm = r.perm;
}

-- The leaf that covers a page, by the range that holds the page.
abbrev pub leaf_by : ℕ → Option Range → Option Leaf
leaf_by page None = None
leaf_by page (Some r) = Some (leaf_in page r)

-- A range overlaps the pages of a space from one on to before another.
unfoldable pub meets_range : ℕ → ℕ → ℕ → Range → Bool
meets_range space f e r = (r.space == space) && (nat_lt r.start e && nat_lt f (r.start + r.pages))
