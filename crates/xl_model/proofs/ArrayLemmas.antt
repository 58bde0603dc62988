-- A TLB array keeps its spec.
use Rattle.std.proofs.Common.{◌≡◌, Bool, false, refl, true, ℕ}
use Rattle.xl_model.specs.Tlb.{filled_where, takes_order, TlbArray}
unfoldable use Rattle.xl_model.specs.Tlb.{array_filled, array_touched}
use Rattle.xl_model.specs.declared.leaf.Leaf.{Leaf}

pub touched-spec : (space page : ℕ) (leaf : Leaf) (a : TlbArray) → (array_touched space page leaf a).spec ≡ a.spec
unfolding array_touched
touched-spec space page leaf a = refl

pub filled-spec : (leaf : Leaf) (a : TlbArray) → (array_filled leaf a).spec ≡ a.spec
unfolding array_filled
filled-spec leaf a = go (takes_order a.spec leaf.order)
  where
    go : (b : Bool) → (filled_where b leaf a).spec ≡ a.spec
    go true = refl
    go false = refl
