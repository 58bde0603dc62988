-- A pool beside the flags of its blocks of 512 frames, and of its parts of 2 ^ 18 frames.
use Rattle.std.specs.Prelude.{◌≡◌, ℕ, ◌*◌, ◌/◌, ◌^◌, ◌≤◌, ◌⊎◌, Bool, true, false, List, length, slice_index_or, Option, IfSome, IfNone}
use Rattle.xl_numbers.specs.Free.{AreMarked}
use Rattle.xl_frames.specs.Pool.{IsFree, IsLowest, HasNone}

-- A block of a size is flagged exactly where all its frames are free. Only whole blocks have a
-- flag.
pub record AreBlocks (size : ℕ) (pool blocks : List Bool) : Type 0 where
  pub count : length blocks ≡ length pool / size
  pub flagged : (block : ℕ) → slice_index_or blocks block false ≡ true → IsFree pool (block * size) size
  pub every : (block : ℕ) → IsFree pool (block * size) size → slice_index_or blocks block false ≡ true

-- The flags of the frames, of the blocks and of the parts of one pool.
pub record IsKept (frames blocks parts : List Bool) : Type 0 where
  pub limit : length frames ≤ 2 ^ 22
  pub blocks_are : AreBlocks 512 frames blocks
  pub parts_are : AreBlocks 262144 frames parts

-- One block's flag is set now where all its frames are free; else no flag changes.
pub record IsBlockJoined (size : ℕ) (pool old new : List Bool) (block : ℕ) : Type 0 where
  pub len : length new ≡ length old
  pub others : (b : ℕ) → (b ≡ block → ⊥) → slice_index_or new b false ≡ slice_index_or old b false
  pub flagged : slice_index_or new block false ≡ true → (slice_index_or old block false ≡ true) ⊎ IsFree pool (block * size) size
  pub every : IsFree pool (block * size) size → slice_index_or new block false ≡ true

-- The lowest free block of a size is taken; where there is none, nothing changes.
pub record IsTaken (size : ℕ) (old new : List Bool) (result : Option ℕ) : Type 0 where
  pub lowest : IfSome result (IsLowest old size)
  pub taken : IfSome result (λ at. AreMarked old new at size false)
  pub none : IfNone result (HasNone old size)
  pub unchanged : IfNone result (new ≡ old)
