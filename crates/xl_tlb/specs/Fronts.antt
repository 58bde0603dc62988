-- A leaf of 4 KiB in front of its set of the first array.
use Rattle.std.specs.Prelude.{ℕ, ◌≡◌, ◌%◌, List, [], ◌∷◌, map}
use Rattle.xl_model.specs.Tlb.{TlbArray}
use Rattle.xl_array.specs.Touches.{IsFrontHit, LacksSmall}
use Rattle.xl_tlb.specs.Tlbs.{spec_of, IsByEight}

-- The first of the arrays has none.
abbrev pub FirstLacks : ℕ → ℕ → List TlbArray → Type 0
FirstLacks space page [] = Unit {0}
FirstLacks space page (a ∷ rest) = LacksSmall space page a

-- The first of the arrays finds a leaf so.
abbrev pub IsFront : ℕ → ℕ → ℕ → List TlbArray → Type 0
IsFront space page word [] = ⊥
IsFront space page word (a ∷ rest) = IsFrontHit space page word a

-- The sets of the first array are a multiple of eight, if there is one.
abbrev pub HasEights : List TlbArray → Type 0
HasEights arrays = IsByEight (map spec_of arrays)

-- Leaves in front stay in front, but those of pages whose last three bits are these.
abbrev pub FrontsStay : ℕ → List TlbArray → List TlbArray → Type 0
FrontsStay place old new = (space page word : ℕ) → (page % 8 ≡ place → ⊥) → IsFront space page word old → IsFront space page word new
