-- What is looked for in the parts of a row without loads.
use Rattle.std.specs.Prelude.{ℕ, Bool, false, ◌||◌, Option}
use Rattle.xl_model.specs.declared.address.Order.{Order}
use Rattle.xl_model.specs.declared.address.Order.TheVariants as order
use Rattle.xl_model.specs.declared.leaf.Leaf.{Leaf}
use Rattle.xl_model.specs.Shapes.{CuckooWays, ways_of}
use Rattle.xl_model_lemmas.specs.Entries.{or_leaf}
use Rattle.xl_cuckoo.specs.Table.{value_of}
use Rattle.xl_cuckoo_walk.specs.Changes.{page_key}
use Rattle.xl_cuckoo_walk.specs.Parts.{RowParts}
use Rattle.xl_cuckoo_walk.specs.Plans.{leaf_said_by, is_counted}

-- The leaf of this order that covers a page.
abbrev pub looked : Order → ℕ → ℕ → CuckooWays → Option Leaf
looked o space page ws = leaf_said_by o space page (value_of (page_key o space page) (ways_of o ws))

-- The first leaf of those that are found for an order and for larger ones.
abbrev pub first_from : Order → (Order → Option Leaf) → Option Leaf
first_from order.K4 found = or_leaf (found order.K4) (or_leaf (found order.M2) (found order.G1))
first_from order.M2 found = or_leaf (found order.M2) (found order.G1)
first_from order.G1 found = found order.G1

-- The leaf of this order or of a larger one that covers a page.
abbrev pub looked_from : Order → ℕ → ℕ → CuckooWays → Option Leaf
looked_from o space page ws = first_from o (λ q. looked q space page ws)

-- A leaf smaller than a block of this order lies in the section of a key, by the counts.
abbrev pub counts_smaller : Order → ℕ → RowParts → Bool
counts_smaller order.K4 key p = false
counts_smaller order.M2 key p = is_counted order.K4 key p.middle.counts.counts
counts_smaller order.G1 key p = is_counted order.K4 key p.large.counts.counts || is_counted order.M2 key p.large.counts.counts
