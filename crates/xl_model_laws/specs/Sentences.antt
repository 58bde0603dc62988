-- Definitions that compute, and the sentences above them: maximal runs, and the lowest free number.
use Rattle.std.specs.Prelude.{ℕ, ◌≡◌, ◌+◌, ◌-◌, ◌<◌, ◌≤◌, ◌==◌, ◌&&◌, Bool, false, List, [], ◌∷◌, ◌++◌, length, slice_set, slice_index_or, Option, None, Some}
use Rattle.xl_model.specs.declared.leaf.Leaf.{Leaf}
use Rattle.xl_model.specs.declared.leaf.Range.{Range}
use Rattle.xl_model.specs.Addresses.{pages_of, same_order}
use Rattle.xl_model.specs.Nodes.{Node, put_first}
use Rattle.xl_model.specs.Ranges.{same_perm, ranges_of}

-- leaves of one space, order and permission, consecutive in pages and in frames from here on, and
-- `pages` pages of them
abbrev pub AreConsecutive : Range → ℕ → ℕ → ℕ → List Leaf → Type 0
AreConsecutive r start frame pages [] = pages ≡ 0
AreConsecutive r start frame pages (x ∷ xs) =
    (x.space ≡ r.space) × (x.order ≡ r.order) × (x.perm ≡ r.perm) × (x.first ≡ start) × (x.frame ≡ frame) × (pages_of r.order ≤ pages)
    × AreConsecutive r (start + pages_of r.order) (frame + pages_of r.order) (pages - pages_of r.order) xs

-- these leaves are the run that a range says
abbrev pub IsRun : Range → List Leaf → Type 0
IsRun r leaves = AreConsecutive r r.start r.frame r.pages leaves

-- the leaves are parted, in their order, into one run for each range
abbrev pub AreRuns : List Range → List Leaf → Type 0
AreRuns [] leaves = leaves ≡ []
AreRuns (r ∷ rs) leaves =
    (xs : List Leaf) × (ys : List Leaf) × (leaves ≡ xs ++ ys) × (0 < length xs) × IsRun r xs
    × AreRuns rs ys

-- a range ends where another of its kind begins
abbrev pub runs_on : Range → Range → Bool
runs_on a b =
    ((a.space == b.space) && (same_order a.order b.order && same_perm a.perm b.perm))
    && ((a.start + a.pages == b.start) && (a.frame + a.pages == b.frame))

-- no range runs on into the next
abbrev pub NoneRunsOn : List Range → Type 0
NoneRunsOn [] = Unit {0}
NoneRunsOn (a ∷ []) = Unit {0}
NoneRunsOn (a ∷ b ∷ rs) = (runs_on a b ≡ false) × NoneRunsOn (b ∷ rs)

-- The ranges of a list of leaves are its maximal runs.
abbrev pub TheRangesAreMaximalRuns : Type 0
TheRangesAreMaximalRuns =
    (leaves : List Leaf) → AreRuns (ranges_of leaves) leaves × NoneRunsOn (ranges_of leaves)

-- a number that no node has
pub record IsLowestNumber (nodes : List (Option Node)) (n : ℕ) : Type 0 where
  pub within : n < length nodes
  pub is_free : slice_index_or nodes n None ≡ None
  pub least : (m : ℕ) → m < n → slice_index_or nodes m None ≡ None → ⊥

-- A new node takes the lowest number that no node has.
abbrev pub ANodeTakesTheLowestNumber : Type 0
ANodeTakesTheLowestNumber =
    (x : Node) (nodes : List (Option Node)) (n : ℕ) → IsLowestNumber nodes n → put_first x nodes ≡ slice_set nodes n (Some x)
