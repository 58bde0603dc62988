-- Pools of data frames beside a mapping.
use Rattle.std.specs.List.{list_any}
use Rattle.std.specs.Prelude.{Bool, List, false, length, not, slice_index_or, ℕ, ◌<◌, ◌≡◌}
use Rattle.xl_model.specs.Mapping.{holds_frames}
use Rattle.xl_model.specs.declared.leaf.Leaf.{Leaf}

-- a pool of `frames` frames, in which a frame is free where no leaf holds it
pub record IsPoolOf (frames : ℕ) (leaves : List Leaf) (pool : List Bool) : Type 0 where
  pub size : length pool ≡ frames
  pub each : (frame : ℕ) → frame < frames → slice_index_or pool frame false ≡ not (list_any (holds_frames frame 1) leaves)
