-- An array of any width.
use Rattle.std.specs.Prelude.{ℕ}
use Rattle.xl_model.specs.Tlb.{TlbArray}
use Rattle.xl_array.specs.declared.any.Arrays.{Arrays}
use Rattle.xl_array.specs.declared.any.Arrays.TheVariants as arrays

-- The array in the variant of its width.
abbrev pub array_in : Arrays → TlbArray
array_in (arrays.W1 a) = a
array_in (arrays.W2 a) = a
array_in (arrays.W4 a) = a
array_in (arrays.W6 a) = a
array_in (arrays.W8 a) = a
array_in (arrays.W12 a) = a
array_in (arrays.W16 a) = a
array_in (arrays.W32 a) = a
array_in (arrays.W64 a) = a

-- The width of that variant.
abbrev pub width_in : Arrays → ℕ
width_in (arrays.W1 a) = 1
width_in (arrays.W2 a) = 2
width_in (arrays.W4 a) = 4
width_in (arrays.W6 a) = 6
width_in (arrays.W8 a) = 8
width_in (arrays.W12 a) = 12
width_in (arrays.W16 a) = 16
width_in (arrays.W32 a) = 32
width_in (arrays.W64 a) = 64
