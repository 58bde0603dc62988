-- The shape of a row's arrays.
use Rattle.std.specs.Prelude.{Bool, true, false, List, []}
use Rattle.xl_model.specs.Tlb.{TlbArray}
use Rattle.xl_tlb.specs.declared.known.KnownPages.{KnownPages}
use Rattle.xl_tlb.specs.declared.shapes.AnyShape.{AnyShape}
use Rattle.xl_tlb.specs.declared.shapes.AnyShape.TheVariants as shape
use Rattle.xl_tlb.specs.Firsts.{Fits, IsKnown}
use Rattle.xl_tlb.specs.Shapes.{ArePaired, IsOne}

-- The arrays are of this shape, and what is known of them is so.
abbrev pub fits_in : AnyShape → KnownPages → List TlbArray → Type 0
fits_in shape.Joint p arrays = Fits false (ArePaired false) p arrays
fits_in shape.Split p arrays = Fits true (ArePaired true) p arrays
fits_in shape.One p arrays = Fits false IsOne p arrays
fits_in shape.InTurn p arrays = IsKnown false p []

-- Whether fetches and data have a first array each.
abbrev pub split_of : AnyShape → Bool
split_of shape.Joint = false
split_of shape.Split = true
split_of shape.One = false
split_of shape.InTurn = false
