-- The lowest free block, as a sentence.
use Rattle.std.specs.Prelude.{List, None, Option, Some, false, ℕ, ◌*◌, ◌+◌, ◌≡◌, ◌≤◌}
use Rattle.xl_list_lemmas.specs.Members.{In}
use Rattle.xl_model.specs.Mapping.{holds_frames}
use Rattle.xl_model.specs.declared.leaf.Leaf.{Leaf}

-- no leaf holds a frame of the block
abbrev pub IsFree : ℕ → ℕ → List Leaf → Type 0
IsFree size at leaves = (x : Leaf) → In x leaves → holds_frames at size x ≡ false

-- the least multiple of the size whose block lies among the frames and is free
pub record IsLowest (frames size : ℕ) (leaves : List Leaf) (at : ℕ) : Type 0 where
  pub aligned : (e : ℕ) × (at ≡ e * size)
  pub fits : at + size ≤ frames
  pub is_free : IsFree size at leaves
  pub least : (e : ℕ) → e * size + size ≤ frames → IsFree size (e * size) leaves → at ≤ e * size

-- no such block is free
abbrev pub HasNoFree : ℕ → ℕ → List Leaf → Type 0
HasNoFree frames size leaves =
    (e : ℕ) → e * size + size ≤ frames → IsFree size (e * size) leaves → ⊥

-- what is found is the lowest; where nothing is, there is none
abbrev pub IsAnswer : ℕ → ℕ → List Leaf → Option ℕ → Type 0
IsAnswer frames size leaves None = HasNoFree frames size leaves
IsAnswer frames size leaves (Some at) = IsLowest frames size leaves at
