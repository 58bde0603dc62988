-- What a table takes: its spaces and pages.
use Rattle.std.specs.Prelude.{◌≡◌}
use Rattle.xl_model.specs.Shapes.{Shape}
use Rattle.xl_model.specs.Structures.{page_limit, spaces_of}

-- a table of the new shape takes the spaces and pages that one of the old shape takes
pub record SameLimits (old new : Shape) : Type 0 where
  pub spaces : spaces_of new ≡ spaces_of old
  pub pages : page_limit new ≡ page_limit old
