-- What the areas keep beside their list.
use Rattle.std.specs.Prelude.{◌≤◌}
use Rattle.std.specs.Global.{Vec}
use Rattle.std.specs.Vec.{vec_capacity}
use Rattle.xl_model.specs.declared.script.Area.{Area}
use Rattle.xl_areas.specs.declared.bounds.Bound.{Bound}
use Rattle.xl_areas.specs.Bounds.{IsIndex}

-- The bounds are the areas' index, and there is room for all areas of a script.
pub record AreKept (areas : Vec Area) (bounds : Vec Bound) : Type 0 where
  pub index : IsIndex areas.items bounds.items
  pub room : 256 ≤ vec_capacity areas
  pub more : 512 ≤ vec_capacity bounds
