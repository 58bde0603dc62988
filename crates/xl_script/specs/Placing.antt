-- Where the blocks of a command end.
use Rattle.std.specs.Prelude.{ℕ, ◌+◌, ◌*◌, ◌^◌, ◌≤◌, Bool, true, false, List, [], ◌∷◌}
use Rattle.xl_model.specs.Addresses.{pages_of}
use Rattle.xl_model.specs.declared.address.Order.{Order}
use Rattle.xl_model.specs.declared.script.Command.{Command}
use Rattle.xl_model.specs.declared.script.Command.TheVariants.{Map, Unmap, Protect, Move, Space, Fence, Demand, Run, RunRest}

-- The address after the last byte of n blocks.
abbrev pub end_of : ℕ → Order → ℕ → ℕ
end_of va o n = va + n * (4096 * pages_of o)

-- The addresses after the last bytes that a command names; a move names two.
abbrev pub ends_of : Command → List ℕ
ends_of (Map space va o perm n) = end_of va o n ∷ []
ends_of (Unmap space va o n) = end_of va o n ∷ []
ends_of (Protect space va o perm n) = end_of va o n ∷ []
ends_of (Move space from to o n) = end_of from o n ∷ end_of to o n ∷ []
ends_of (Space space) = []
ends_of (Fence scope) = []
ends_of (Demand area) = (area.page + area.pages) * 4096 ∷ []
ends_of (Run n) = []
ends_of RunRest = []

-- These end by the last address of 64 bits.
abbrev pub AreInMemory : List ℕ → Type 0
AreInMemory [] = Unit {0}
AreInMemory (e ∷ es) = (e ≤ 2 ^ 64) × AreInMemory es

-- All that a command names lies in 64 bits.
abbrev pub IsPlaced : Command → Type 0
IsPlaced c = AreInMemory (ends_of c)

-- Whether a command declares an area.
abbrev pub is_area : Command → Bool
is_area (Demand area) = true
is_area _ = false
