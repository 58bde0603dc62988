-- What is known of an array beside it.
use Rattle.std.specs.Prelude.{ℕ, ◌≡◌, ◌<◌, ◌^◌, ◌-◌, Bool, false, List}
use Rattle.std.specs.List.{All}
use Rattle.xl_model.specs.declared.address.Order.TheVariants as order
use Rattle.xl_model.specs.declared.leaf.Leaf.{Leaf}
use Rattle.xl_model.specs.declared.row.TlbSpec.{TlbSpec}
use Rattle.xl_model.specs.Tlb.{TlbArray, leaves_in_sets}

-- The count is this number; the greatest count there is says nothing of it.
abbrev pub Counts : ℕ → ℕ → Type 0
Counts held n = held < 2 ^ 64 - 1 → n ≡ held

-- A leaf of 4 KiB.
abbrev pub IsSmall : Leaf → Type 0
IsSmall leaf = leaf.order ≡ order.K4

-- Where larger leaves are ruled out, all leaves are of 4 KiB.
abbrev pub Smalls : Bool → List (List Leaf) → Type 0
Smalls large sets = large ≡ false → All (All IsSmall) sets

-- How many leaves an array holds, whether larger ones than of 4 KiB may be among them, and its spec, which has sets.
pub record IsKnown (held : ℕ) (large : Bool) (spec : TlbSpec) (a : TlbArray) : Type 0 where
  pub counts : Counts held (leaves_in_sets a.sets)
  pub smalls : Smalls large a.sets
  pub spec_is : spec ≡ a.spec
  pub some : 0 < spec.sets
