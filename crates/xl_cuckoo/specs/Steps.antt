-- One attempt to place an entry, with the growth that follows it.
use Rattle.std.specs.Prelude.{ℕ, suc, ◌≡◌, List, []}
use Rattle.xl_model.specs.declared.way.Entry.{Entry}
use Rattle.xl_model.specs.declared.way.Moves.{Moves}
use Rattle.xl_model.specs.Base.{plus}
use Rattle.xl_model.specs.Ways.{WayShape}
use Rattle.xl_model.specs.Placing.{Displaced, Placed, AtCap, placing, growths_left}
use Rattle.xl_cuckoo.specs.declared.placing.Step.{Step}
use Rattle.xl_cuckoo.specs.declared.placing.Step.TheVariants as step
use Rattle.xl_cuckoo.specs.Table.{SameEntries}

-- What was done, with the kicks of a successful attempt.
abbrev pub with_kicks : ℕ → Moves → Moves
with_kicks kicks m = record m { kicks = plus m.kicks kicks }

-- What was done, with the kicks of a failed attempt, all of which are undone.
abbrev pub with_undone : ℕ → Moves → Moves
with_undone kicks m = record m { kicks = plus m.kicks kicks; undone = plus m.undone kicks }

-- The attempt fails and no way may grow: however many growths were left, the entry finds no place.
pub record IsCapped (limit : ℕ) (x : Entry) (m : Moves) (old new : List WayShape) (moved : List Displaced) (after : Moves) : Type 0 where
  pub is : (room : ℕ) → placing room limit old x m ≡ AtCap new after
  pub kept : SameEntries old new
  pub none : moved ≡ []

-- The attempt fails and a way grows: placing continues from there, with one growth fewer.
pub record IsGrown (limit : ℕ) (x : Entry) (m : Moves) (old new : List WayShape) (after : Moves) : Type 0 where
  pub is : (room : ℕ) → placing (suc room) limit old x m ≡ placing room limit new x after
  pub kept : SameEntries old new
  pub less : growths_left old ≡ suc (growths_left new)

-- What a step does to the ways, and what it says of placing the entry.
abbrev pub StepIs : ℕ → Entry → Moves → List WayShape → List WayShape → List Displaced → Step → Type 0
StepIs limit x m old new moved (step.Succeeds after) = (room : ℕ) → placing room limit old x m ≡ Placed new moved after
StepIs limit x m old new moved (step.Capped after) = IsCapped limit x m old new moved after
StepIs limit x m old new moved (step.Grown after) = IsGrown limit x m old new after
