-- A leaf that may be found, by its order. For the tables of chains and the cuckoo row.
use Rattle.xl_model_lemmas.proofs.Common.{◌≡◌, cond, Leaf, None, Option, Order, refl, same_order, Some}
use Rattle.xl_model_lemmas.specs.Entries.{or_leaf}
use Rattle.xl_model.specs.declared.address.Order.TheVariants as order

-- the leaf of a page, where it is of this order
abbrev pub only : Order → Option Leaf → Option Leaf
only o None = None
only o (Some x) = cond (same_order x.order o) (Some x) None

pub only-first : (q : Option Leaf) → or_leaf (only order.K4 q) (or_leaf (only order.M2 q) (only order.G1 q)) ≡ q
only-first None = refl
only-first (Some x) = go x.order
  where
    go : (o : Order) → or_leaf (cond (same_order o order.K4) (Some x) None) (or_leaf (cond (same_order o order.M2) (Some x) None) (cond (same_order o order.G1) (Some x) None)) ≡ Some x
    go order.K4 = refl
    go order.M2 = refl
    go order.G1 = refl
