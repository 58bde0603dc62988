-- What is kept of the places in slots.
use Rattle.std.specs.Prelude.{◌≡◌, ◌≤◌, ℕ, List, take, Option}
use Rattle.xl_curve_model.specs.Curves.{same_leaf}
use Rattle.xl_model.specs.declared.leaf.Leaf.{Leaf}
use Rattle.xl_curve.specs.Places.{distance, in_turn, IsGuide, IsSolid, IsStack, places_of, shifted}
use Rattle.xl_curve.specs.declared.kernel.Slots.{Slots}

-- What the places have, the newest first.
abbrev pub list_of : Slots → List (Option Leaf)
list_of s = in_turn s.ranks (places_of s.places)

-- Marks and ranks are those of the places, and the guide has a slot for each mark.
pub record IsGuided (s : Slots) : Type 0 where
  pub stack : IsStack s.marks s.ranks s.places
  pub guide_is : IsGuide s.guide s.marks s.ranks

-- And no hole has a rank below this one.
pub record IsSlots (s : Slots) : Type 0 where
  pub guided : IsGuided s
  pub front : IsSolid s.solid s.marks s.ranks
  pub most : s.solid ≤ 64

-- A leaf came to the front of a list of 64 places, in which it was at this distance.
pub record IsInFront (leaf : Leaf) (old : List (Option Leaf)) (was : Option ℕ) (new : List (Option Leaf)) : Type 0 where
  pub moved : new ≡ take 64 (shifted (same_leaf leaf) leaf old)
  pub was_is : was ≡ distance (same_leaf leaf) old
