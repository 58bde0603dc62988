-- Memory of words, read by lines of four words.
use Rattle.std.specs.Prelude.{ℕ, ◌≡◌, ◌+◌, ◌*◌, ◌/◌, ◌%◌, ◌^◌, ◌<◌, ◌≤◌, List, length, slice_index}

-- The four words of a line.
pub record IsLine (words : List ℕ) (line : ℕ) (four : List ℕ) : Type 0 where
  pub there : 4 * line + 4 ≤ length words
  pub same : (k : ℕ) → k < 4 → slice_index four k ≡ slice_index words (4 * line + k)

-- A word whose line is all there.
pub record IsWord (words : List ℕ) (place word : ℕ) : Type 0 where
  pub there : 4 * (place / 4) + 4 ≤ length words
  pub same : word ≡ slice_index words place

-- One load more, modulo 2^64.
abbrev pub counted : ℕ → ℕ
counted loads = (loads + 1) % 2 ^ 64

-- A memory: its words, and how many loads were made of it.
pub record Memory : Type 0 where
  pub words : List ℕ
  pub loads : ℕ
