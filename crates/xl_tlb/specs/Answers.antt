-- The result of a look in all levels, and what it leaves.
use Rattle.std.specs.Prelude.{ℕ, ◌≡◌, Option, Some, None}
use Rattle.xl_model.specs.declared.address.Kind.{Kind}
use Rattle.xl_model.specs.declared.leaf.Leaf.{Leaf}
use Rattle.xl_model.specs.Tlb.{answer_of}
use Rattle.xl_array.specs.Touches.{IsPageWord}
use Rattle.xl_tlb.specs.Tlbs.{TlbState, leaf_replied, tlb_looked}

-- A leaf is hit by an access of this kind, and the word says the page of it.
pub record IsWord (k : Kind) (space page word : ℕ) (old new : TlbState) : Type 0 where
  pub leaf : Leaf
  pub found : Some leaf ≡ leaf_replied (answer_of k old.arrays space page)
  pub says : IsPageWord page word leaf
  pub after : new ≡ tlb_looked k space page old

-- An access of this kind misses all arrays.
pub record IsNowhere (k : Kind) (space page : ℕ) (old new : TlbState) : Type 0 where
  pub found : None ≡ leaf_replied (answer_of k old.arrays space page)
  pub after : new ≡ tlb_looked k space page old

-- The result of a look: the word of the leaf that is hit, or none.
abbrev pub IsLooked : Kind → ℕ → ℕ → Option ℕ → TlbState → TlbState → Type 0
IsLooked k space page (Some word) old new = IsWord k space page word old new
IsLooked k space page None old new = IsNowhere k space page old new
