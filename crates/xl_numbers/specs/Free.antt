-- Numbers are a list of flags: for each number, whether it is free.
use Rattle.std.specs.Prelude.{ℕ, ◌≡◌, ◌+◌, ◌<◌, ◌≤◌, Bool, true, false, List, length, slice_index_or}

-- the lowest number that is free
pub record IsLowest (free : List Bool) (k : ℕ) : Type 0 where
  pub within : k < length free
  pub is_free : slice_index_or free k false ≡ true
  pub least : (j : ℕ) → j < k → slice_index_or free j false ≡ false

-- no number is free
abbrev pub HasNone : List Bool → Type 0
HasNone free = (k : ℕ) → slice_index_or free k false ≡ false

-- the numbers from `first` on, as many as `count` says, are all free
pub record AreFree (free : List Bool) (first count : ℕ) : Type 0 where
  pub each : (k : ℕ) → first ≤ k → k < first + count → slice_index_or free k false ≡ true

-- the numbers from `first` on, as many as `count` says, are all free now, or all taken, and all
-- else stays
pub record AreMarked (old new : List Bool) (first count : ℕ) (is_free : Bool) : Type 0 where
  pub len : length new ≡ length old
  pub inside : (k : ℕ) → first ≤ k → k < first + count → slice_index_or new k false ≡ is_free
  pub below : (k : ℕ) → k < first → slice_index_or new k false ≡ slice_index_or old k false
  pub above : (k : ℕ) → first + count ≤ k → slice_index_or new k false ≡ slice_index_or old k false
