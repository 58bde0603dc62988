-- The first arrays of a row, and what is known of them.
use Rattle.std.specs.Prelude.{ℕ, zero, suc, ◌≡◌, ◌%◌, Bool, true, false, List, [], ◌∷◌, map}
use Rattle.xl_model.specs.declared.address.Kind.{Kind}
use Rattle.xl_model.specs.declared.address.Kind.TheVariants as kind
use Rattle.xl_model.specs.declared.row.TlbSpec.{TlbSpec}
use Rattle.xl_model.specs.Tlb.{TlbArray}
use Rattle.xl_tlb.specs.declared.known.KnownPages.{KnownPages}
use Rattle.xl_tlb.specs.Fronts.{FrontsStay, HasEights, IsFront}
use Rattle.xl_tlb.specs.Known.{Knows}
use Rattle.xl_tlb.specs.Tlbs.{spec_of}

-- The number of the first array of accesses of this kind, where fetches and data have one each or not.
abbrev pub first_in : Bool → Kind → ℕ
first_in false k = 0
first_in true kind.Fetch = 0
first_in true kind.Load = 1
first_in true kind.Store = 1

-- The array with this number alone.
abbrev pub alone_at : ℕ → List TlbArray → List TlbArray
alone_at i [] = []
alone_at zero (a ∷ rest) = a ∷ []
alone_at (suc i) (a ∷ rest) = alone_at i rest

-- The leaf of 4 KiB with this word is the newest of its set of the first array of this kind; other leaves in front stay there where the sets are a multiple of eight, and other first arrays stay.
pub record IsKept (split : Bool) (k : Kind) (space page word : ℕ) (old new : List TlbArray) : Type 0 where
  pub front : IsFront space page word (alone_at (first_in split k) new)
  pub stays : HasEights (alone_at (first_in split k) old) → FrontsStay (page % 8) (alone_at (first_in split k) old) (alone_at (first_in split k) new)
  pub others : (j : Kind) → (first_in split j ≡ first_in split k → ⊥) → alone_at (first_in split j) new ≡ alone_at (first_in split j) old

-- The numbers of the first arrays of fetches, of loads and of stores.
abbrev pub numbers_of : Bool → List ℕ
numbers_of split = first_in split kind.Fetch ∷ first_in split kind.Load ∷ first_in split kind.Store ∷ []

-- What is known of each first array is so, where fetches and data have one each or not.
pub record IsKnown (split : Bool) (p : KnownPages) (arrays : List TlbArray) : Type 0 where
  pub numbers : p.numbers ≡ numbers_of split
  pub eights : p.eights ≡ true → HasEights arrays
  pub knows : (k : Kind) → Knows (first_in split k) p.newest (alone_at (first_in split k) arrays)

-- The specs of the arrays are of a shape, and what is known of the arrays is so.
pub record Fits (split : Bool) (Shape : List TlbSpec → Type 0) (p : KnownPages) (arrays : List TlbArray) : Type 0 where
  pub shape : Shape (map spec_of arrays)
  pub known : IsKnown split p arrays
