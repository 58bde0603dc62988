-- Words of which only the first are kept: the others are 0.
use Rattle.std.specs.Prelude.{ℕ, ◌≡◌, ◌-◌, ◌<◌, ◌≤◌, List, ◌++◌, length, replicate, slice_index}

-- The kept words, and 0 for each further one, `size` in all.
unfoldable pub padded : ℕ → List ℕ → List ℕ
padded size kept = kept ++ replicate (size - length kept) 0

-- These words are the first of all.
pub record IsFront (front all : List ℕ) : Type 0 where
  pub short : length front ≤ length all
  pub same : (i : ℕ) → i < length front → slice_index all i ≡ slice_index front i
