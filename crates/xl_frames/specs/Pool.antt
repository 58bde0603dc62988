-- A pool of frames is a list of flags: for each frame, by its number, whether it is free.
use Rattle.std.specs.Prelude.{◌≡◌, ℕ, ◌+◌, ◌*◌, ◌<◌, ◌≤◌, Bool, true, false, List, ◌++◌, length, slice_index_or, take, drop, replicate}

-- The frames from `first` on, as many as `count` says, are free; and so they are inside the pool.
pub record IsFree (pool : List Bool) (first count : ℕ) : Type 0 where
  pub each : (frame : ℕ) → first ≤ frame → frame < first + count → slice_index_or pool frame false ≡ true

-- The lowest free block of a size begins here: at the least multiple of the size whose block is
-- free.
pub record IsLowest (pool : List Bool) (size at : ℕ) : Type 0 where
  pub aligned : (block : ℕ) × (at ≡ block * size)
  pub fits : at + size ≤ length pool
  pub is_free : IsFree pool at size
  pub least : (block : ℕ) → IsFree pool (block * size) size → at ≤ block * size

-- The lowest free number: a block of one frame.
pub record IsLowestNumber (pool : List Bool) (at : ℕ) : Type 0 where
  pub within : at < length pool
  pub is_free : slice_index_or pool at false ≡ true
  pub least : (frame : ℕ) → frame < at → slice_index_or pool frame false ≡ false

-- No block of the size is free: none that begins at a multiple of it.
pub record HasNone (pool : List Bool) (size : ℕ) : Type 0 where
  pub none : (block : ℕ) → IsFree pool (block * size) size → ⊥

-- The pool in which `count` frames from `first` on are all free, or all taken.
abbrev pub marked : List Bool → ℕ → ℕ → Bool → List Bool
marked pool first count is_free = take first pool ++ (replicate count is_free ++ drop (first + count) pool)
